use Rattle.std.proofs.Common.{◌≡◌, ◌≤◌, IfSome, Option, Some, None, refl, sym, ap, ◌∙◌, subst, rules}
use Rattle.std.proofs.lemmas.Option.{none-some}
use Rattle.vx_session.specs.Dialing.{dial_shown}
use Rattle.vx_desks.specs.Names.{named, as_named}
use Rattle.vx_desks.proofs.NoNames.{as-named}
use Rattle.vx_desks.proofs.Ruling.{Lent, seat_of, lent_of, state_of, link-so}
use Rattle.vx_desks.proofs.named_links.ruled_link.Goals as goal

-- what is said of what there is
if-some : {A : Type 0} (P : A → Type 0) {o : Option A} {a : A} → o ≡ Some a → IfSome o P → P a
if-some P is has = subst (λ x. IfSome x P) is has

pub unreachable-requires-in_default-held : goal.unreachable-requires-in_default-held
unreachable-requires-in_default-held g c =
    let did = if-some _ c.in-Some.is c.serve_named-failed.ensures.did in
    let run = link-so g.B.Bus g.C.Clock.tells (λ _. named c.args.names.now) (λ _. as_named c.args.names.now) (λ _. as-named c.args.names.now) _ _ c.guard_laws.ensures (record {
      seat = seat_of g.C.Clock g.D.Dial;
      lent = lent_of g.T.Turns.first;
      of = state_of g.N.Note.took;
      kept = λ s. s.note.ghost_name;
      core = λ d. refl;
      number = λ d. refl;
      joins = λ d d' answer did. (did.0, λ i. (did.1 i, did.2 i, did.3 i, did.4 i));
      asks = λ d d' xid call reply did. (did.0, λ i. (did.1 i, did.2 i, did.3 i, did.4 i));
      leaves = λ d d' did. (did.0, λ i. (did.1 i, did.2 i, did.3 i, did.4 i));
      ruled_joins = λ s s' answer did. (did.0, did.2);
      ruled_asks = λ s s' xid call reply did. (did.0, did.2);
      ruled_leaves = λ s s' did. (did.0, did.2);
    }) g.L.Link _ c.serve_named-failed.result c.args.pass _ _ _ refl refl c.order.ensures c.requires.peer did in
    let held = ap (λ (l : Lent _). l.0) run.lends.0 in
    let free = c.serve_named-failed.ensures.free in
    none-some free.pass (sym (subst (λ held. held ≡ None) (search (rules, held)) c.in_default-held.is) ∙ free.has)

pub returns-clause-did : goal.returns-clause-did
returns-clause-did g c =
    let did = if-some _ c.in-Some.is c.serve_named-failed.ensures.did in
    let run = link-so g.B.Bus g.C.Clock.tells (λ _. named c.args.names.now) (λ _. as_named c.args.names.now) (λ _. as-named c.args.names.now) _ _ c.guard_laws.ensures (record {
      seat = seat_of g.C.Clock g.D.Dial;
      lent = lent_of g.T.Turns.first;
      of = state_of g.N.Note.took;
      kept = λ s. s.note.ghost_name;
      core = λ d. refl;
      number = λ d. refl;
      joins = λ d d' answer did. (did.0, λ i. (did.1 i, did.2 i, did.3 i, did.4 i));
      asks = λ d d' xid call reply did. (did.0, λ i. (did.1 i, did.2 i, did.3 i, did.4 i));
      leaves = λ d d' did. (did.0, λ i. (did.1 i, did.2 i, did.3 i, did.4 i));
      ruled_joins = λ s s' answer did. (did.0, did.2);
      ruled_asks = λ s s' xid call reply did. (did.0, did.2);
      ruled_leaves = λ s s' did. (did.0, did.2);
    }) g.L.Link _ c.serve_named-failed.result c.args.pass _ _ _ refl refl c.order.ensures c.requires.peer did in
    let held = ap (λ (l : Lent _). l.0) run.lends.0 in
    let clock = ap (λ (l : Lent _). l.1) run.lends.0 in
    let dial = ap (λ (l : Lent _). l.2) run.lends.0 in
    let note = run.lends.1 in
    run.did c.in-Some-held.pass _ _ _ _ _ (subst (λ o. o ≡ Some c.in-Some-held.pass) (search (rules, held)) c.in-Some-held.is) (ap g.C.Clock.told (search (rules, clock))) (search (rules, clock)) (ap (dial_shown g.D.Dial) (search (rules, dial)))
    (ap g.N.Note.took (search (rules, note))) refl

pub returns-clause-told : goal.returns-clause-told
returns-clause-told g c =
    let did = if-some _ c.in-Some.is c.serve_named-failed.ensures.did in
    let run = link-so g.B.Bus g.C.Clock.tells (λ _. named c.args.names.now) (λ _. as_named c.args.names.now) (λ _. as-named c.args.names.now) _ _ c.guard_laws.ensures (record {
      seat = seat_of g.C.Clock g.D.Dial;
      lent = lent_of g.T.Turns.first;
      of = state_of g.N.Note.took;
      kept = λ s. s.note.ghost_name;
      core = λ d. refl;
      number = λ d. refl;
      joins = λ d d' answer did. (did.0, λ i. (did.1 i, did.2 i, did.3 i, did.4 i));
      asks = λ d d' xid call reply did. (did.0, λ i. (did.1 i, did.2 i, did.3 i, did.4 i));
      leaves = λ d d' did. (did.0, λ i. (did.1 i, did.2 i, did.3 i, did.4 i));
      ruled_joins = λ s s' answer did. (did.0, did.2);
      ruled_asks = λ s s' xid call reply did. (did.0, did.2);
      ruled_leaves = λ s s' did. (did.0, did.2);
    }) g.L.Link _ c.serve_named-failed.result c.args.pass _ _ _ refl refl c.order.ensures c.requires.peer did in
    let clock = ap (λ (l : Lent _). l.1) run.lends.0 in
    subst (λ k. g.C.Clock.told c.args.kit.now.clock ≤ g.C.Clock.told k) (search (rules, clock)) run.later
