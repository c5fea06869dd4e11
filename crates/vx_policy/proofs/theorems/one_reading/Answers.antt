use Rattle.vx_policy.proofs.Readings.{one-reading}
use Rattle.vx_policy.proofs.theorems.one_reading.Goals as goal

pub returns : goal.returns
returns c = one-reading
