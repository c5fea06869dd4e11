use Rattle.vx_plan.proofs.Runs.{run-law}
use Rattle.vx_plan.proofs.theorems.run_goes_on.Goals as goal

pub returns : goal.returns
returns c = run-law
