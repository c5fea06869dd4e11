use Rattle.vx_policy.proofs.Named.{named-alike}
use Rattle.vx_policy.proofs.theorems.texts_name.Goals as goal

pub returns : goal.returns
returns c = named-alike
