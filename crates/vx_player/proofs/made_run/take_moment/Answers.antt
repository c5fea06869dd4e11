use Rattle.std.proofs.Common.{arith}
use Rattle.vx_player.proofs.Laws.Connections.{stands-ready}
use Rattle.vx_player.proofs.Driving.{run-small, moment-goes-on, moment-halts}
use Rattle.vx_player.proofs.made_run.take_moment.Goals as goal

pub take-requires-clause-ready : goal.take-requires-clause-ready
take-requires-clause-ready g c = stands-ready _ _ c.requires.running.2.stands

pub take-requires-clause-few : goal.take-requires-clause-few
take-requires-clause-few g c = run-small _ _ _ _ _ c.requires.running.2 (omega (arith, c.requires.steps))

pub returns-in-Ok-clause-taken : goal.returns-in-Ok-clause-taken
returns-in-Ok-clause-taken g c = λ seed rack r. moment-goes-on seed c.args.k _ rack _ _ _ _ c.from.ensures r c.in-Ok.ensures.taken c.in-Ok.ensures.grown

pub returns-in-Err-clause-halted : goal.returns-in-Err-clause-halted
returns-in-Err-clause-halted g c = λ seed rack r. moment-halts seed c.args.k _ rack _ _ _ c.from.ensures r c.in-Err.ensures.stopped c.from-in-Err.ensures
