use Rattle.vx_play.proofs.Completing.{completes, lift-completes, run-completes, reads-bounded}
use Rattle.vx_play.proofs.run.play_run.Goals as goal

pub returns-clause-read : goal.returns-clause-read
returns-clause-read g c = reads-bounded _ _ _ c.play.result c.play.ensures.outcome

pub returns-clause-complete : goal.returns-clause-complete
returns-clause-complete g c = completes _ _ _ c.play.result _ c.number.ensures c.play.ensures.outcome

pub returns-clause-lifts : goal.returns-clause-lifts
returns-clause-lifts g c = lift-completes _ _ _ c.play.result _ c.number.ensures c.play.ensures.outcome

pub returns-clause-made : goal.returns-clause-made
returns-clause-made g c = run-completes _ _ _ c.play.result _ c.number.ensures c.play.ensures.outcome
