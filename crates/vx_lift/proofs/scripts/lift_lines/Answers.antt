use Rattle.std.proofs.Common.{sym, ◌∙◌, arith}
use Rattle.std.proofs.lemmas.Bool.{eqb-true}
use Rattle.std.proofs.lemmas.List.{nil_from_length}
use Rattle.vx_lift.proofs.Going.{goes-on, whole-lifted, fault-lifted, cut-lifted}
use Rattle.vx_lift.proofs.scripts.lift_lines.Goals as goal

pub returns-in-Outside-clause-ended : goal.returns-in-Outside-clause-ended
returns-in-Outside-clause-ended g c =
    fault-lifted _ _ _ c.first_line.result.1.now _ _ _ _ _ c.loop-rest.invariant.1 c.first_line.ensures.first c.in-Outside.ensures.ended

pub returns-in-SinkFailed-clause-ended : goal.returns-in-SinkFailed-clause-ended
returns-in-SinkFailed-clause-ended g c =
    cut-lifted _ _ _ c.first_line.result.1.now _ _ _ _ _ c.loop-rest.invariant.1 c.first_line.ensures.first c.in-SinkFailed.ensures.ended

pub loop-rest-preserved : goal.loop-rest-preserved
loop-rest-preserved g c = (
  omega arith,
  goes-on _ _ _ c.first_line.result.1.now _ _ _ _ _ _ c.loop-rest.invariant.1 c.first_line.ensures.first c.in-Lifted.ensures.ended c.in-Lifted.ensures.counted,
)

pub returns-clause-ended : goal.returns-clause-ended
returns-clause-ended g c = whole-lifted _ _ _ _ _ _ c.loop-rest.invariant.1 (nil_from_length _ (eqb-true _ _ (sym c.is_empty.ensures ∙ c.loop-rest-test.false)))
