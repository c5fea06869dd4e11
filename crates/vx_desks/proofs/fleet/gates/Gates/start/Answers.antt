use Rattle.std.proofs.Common.{refl, sym, ◌∙◌, append_assoc}
use Rattle.vx_desks.proofs.Returning.{back-last, just-four}
use Rattle.vx_desks.proofs.fleet.gates.Gates.start.Goals as goal

pub returns-in-None-clause-refused : goal.returns-in-None-clause-refused
returns-in-None-clause-refused g c =
    let mid = c.start_two.new.cores.items in
    let two = c.end_first.ensures.back in
    let three = c.end_first-in-None.ensures.back in
    let start = c.in-Some.ensures.started.3 in
    let front = back-last g.K.Kept.stands _ mid _ c.start_two-2.new.cores.items _ two.0 refl two.1 (c.in-None.ensures.refused refl) two.2 in
    back-last g.K.Kept.stands c.args.cores.items _ _ c.end_first.new.cores.items _ three.0 (start ∙ sym (append_assoc mid _ _)) three.1 front three.2

pub returns-in-Some-start_two-clause-order : goal.returns-in-Some-start_two-clause-order
returns-in-Some-start_two-clause-order g c =
    let last = c.in-Some.ensures.started in
    let first = c.in-Some-start_two.ensures.started in
    just-four _ _ _ _ _ _ _ c.requires.four last.3 last.4 first.3 first.4
