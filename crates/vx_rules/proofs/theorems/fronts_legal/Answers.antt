use Rattle.vx_rules.proofs.Laws.Histories.{fronts_legal-holds}
use Rattle.vx_rules.proofs.theorems.fronts_legal.Goals as goal

pub returns : goal.returns
returns c = fronts_legal-holds
