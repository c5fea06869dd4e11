use Rattle.vx_flow.proofs.Laws.Claims.{claims_law-holds}
use Rattle.vx_flow.proofs.theorems.claims_law.Goals as goal

pub returns : goal.returns
returns c = claims_law-holds
