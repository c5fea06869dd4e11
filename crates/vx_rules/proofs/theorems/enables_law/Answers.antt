use Rattle.vx_rules.proofs.Laws.Histories.{enables_law-holds}
use Rattle.vx_rules.proofs.theorems.enables_law.Goals as goal

pub returns : goal.returns
returns c = enables_law-holds
