use Rattle.std.proofs.Common.{arith}
use Rattle.std.proofs.lemmas.Grind.{common_steps}
use Rattle.vx_calls.proofs.TargetLemmas.{cut_at, not_cut}
use Rattle.vx_calls.proofs.targets.cut_at_comma.Goals as goal

pub returns-in-Some : goal.returns-in-Some
returns-in-Some c =
    let e = cut_at c.args.text.now c.in-Some.i c.in-Some.ensures in
    grind (arith, common_steps, e)

pub returns-in-None : goal.returns-in-None
returns-in-None c = not_cut c.args.text.now c.in-None.ensures
