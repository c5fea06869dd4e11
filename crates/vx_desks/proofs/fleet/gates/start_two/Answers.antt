use Rattle.std.proofs.Common.{◌+◌, length, refl, sym, ap, ◌∙◌, subst, rules}
use Rattle.vx_desks.specs.Standing.{ComeBack}
use Rattle.vx_desks.proofs.Returning.{back-same, back-last, without-two, two-fewer}
use Rattle.vx_desks.proofs.fleet.gates.start_two.Goals as goal

pub returns-in_err-gate-clause-refused : goal.returns-in_err-gate-clause-refused
returns-in_err-gate-clause-refused g c none =
    subst (λ l. ComeBack g.K.Kept.stands c.args.cores.now.items l) (sym (search rules)) (back-same g.K.Kept.stands c.args.cores.now.items c.requires.stand)

pub returns-in-None-clause-refused : goal.returns-in-None-clause-refused
returns-in-None-clause-refused g c none =
    let started = c.in_ok-gate.ensures.started in
    let same = c.in-None.ensures.refused in
    let back = c.end_first.ensures.back in
    back-last g.K.Kept.stands _ c.start_last.new.cores.items _ c.start_last.new.cores.items _ back.0 started.1 (search rules)
    (back-same g.K.Kept.stands c.start_last.new.cores.items c.start_last.ensures.stand) back.2

pub returns-in-None-clause-len : goal.returns-in-None-clause-len
returns-in-None-clause-len g c none =
    c.end_first.ensures.len ∙ ap (λ l. length l + 1) (c.in-None.ensures.refused refl) ∙ c.in_ok-gate.ensures.started.2

pub returns-in-Some-clause-started : goal.returns-in-Some-clause-started
returns-in-Some-clause-started g c =
    let last = c.in_ok-gate.ensures.started in
    let first = c.in-Some.ensures.started in
    (first.0, last.0, c.start_last-2.ensures.stand, without-two _ _ _ _ _ last.1 first.1, two-fewer _ _ _ last.2 first.2)

pub returns-in-Some-clause-refused : goal.returns-in-Some-clause-refused
returns-in-Some-clause-refused g c none = absurd (cc)

pub returns-in-Some-clause-len : goal.returns-in-Some-clause-len
returns-in-Some-clause-len g c none = absurd (cc)
