use Rattle.vx_rules.proofs.EntryLaws.{arrivals-law}
use Rattle.vx_rules.proofs.theorems.arrivals_law.Goals as goal

pub returns : goal.returns
returns c = arrivals-law
