use Rattle.std.proofs.Common.{◌<◌, ◌++◌, [], length, take, drop, refl, sym, ap, subst, ◌∙◌, arith}
use Rattle.std.proofs.lemmas.List.{take_at, length-take-le}
use Rattle.vx_io_traits.proofs.Laws.Goings.{Goes-none, Goes-gives}
use Rattle.vx_client.specs.Inbox.{InboxState}
use Rattle.vx_client.specs.Ending.{None_yet, And_more}
use Rattle.vx_client.proofs.Reading.{none-kept}
use Rattle.vx_client.proofs.inbox.Inbox.refill.Goals as goal

pub returns-then-self-clause-told : goal.returns-then-self-clause-told
returns-then-self-clause-told g c = None_yet

pub returns-in-Got-clause-brought : goal.returns-in-Got-clause-brought
returns-in-Got-clause-brought g c =
    let into = c.receive.new.into in
    let got = take c.in-Got.count into in
    let told = c.in-Got.ensures.got in
    let none = ap (λ (s : InboxState). s.kept) (sym c.self.view_is) ∙ none-kept c.self.inside.from c.self.inside.to c.self.inside.room.items c.if-self.false in
    let front = take_at into (drop (length into) c.self.inside.room.items) c.self.inside.room.len (omega (arith, c.receive.auto.into, c.as_mut_slice.ensures.len)) in
    let same = ap (take c.in-Got.count) front in (
      got,
      record { goes = Goes-gives g.L.Link.stands c.args.link.now c.args.link.now c.receive.new.self [] [] got (Goes-none g.L.Link.stands c.args.link.now) told.3; given = told.2 },
      same ∙ sym (ap (λ xs. xs ++ got) none),
      subst (λ xs. 0 < length xs) (sym same) (omega (arith, told.0, length-take-le c.in-Got.count into told.1)),
    )

pub returns-in-Got-clause-told : goal.returns-in-Got-clause-told
returns-in-Got-clause-told g c =
    And_more c.args.link.now c.receive.new.self c.in-Got.count None_yet
    (record { slice = c.as_mut_slice.result.now; written = c.receive.new.into; told = c.in-Got.ensures.receives })

pub returns-in-End-clause-brought : goal.returns-in-End-clause-brought
returns-in-End-clause-brought g c =
    let end = c.in-End.ensures.end in
    (ap (λ (s : InboxState). s.kept) (sym c.self.view_is) ∙ none-kept c.self.inside.from c.self.inside.to c.self.inside.room.items c.if-self.false, refl, end.0, end.1, end.2)

pub returns-in-End-clause-told : goal.returns-in-End-clause-told
returns-in-End-clause-told g c = record { slice = c.as_mut_slice.result.now; written = c.receive.new.into; told = c.in-End.ensures.receives }

pub returns-in-Failed-clause-brought : goal.returns-in-Failed-clause-brought
returns-in-Failed-clause-brought g c =
    let failed = c.in-Failed.ensures.failed in
    (ap (λ (s : InboxState). s.kept) (sym c.self.view_is) ∙ none-kept c.self.inside.from c.self.inside.to c.self.inside.room.items c.if-self.false, refl, failed.0, failed.1, failed.2)

pub returns-in-Failed-clause-told : goal.returns-in-Failed-clause-told
returns-in-Failed-clause-told g c = record { slice = c.as_mut_slice.result.now; written = c.receive.new.into; told = c.in-Failed.ensures.receives }
