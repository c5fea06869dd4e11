use Rattle.vx_guard.proofs.Runs.{ruled_run}
use Rattle.vx_guard.proofs.run.run_over.Goals as goal

pub returns-in-Some : goal.returns-in-Some
returns-in-Some g c = ruled_run _ _ _ _ _ _ _ _ _ c.in-Some.ensures.first c.serve_ask.result c.serve_ask.ensures
