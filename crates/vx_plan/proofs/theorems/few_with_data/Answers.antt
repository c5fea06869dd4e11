use Rattle.vx_plan.proofs.Runs.{data_bound-law}
use Rattle.vx_plan.proofs.theorems.few_with_data.Goals as goal

pub returns : goal.returns
returns c = data_bound-law
