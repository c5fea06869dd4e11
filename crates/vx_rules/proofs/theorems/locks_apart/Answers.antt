use Rattle.vx_rules.proofs.EntryLaws.{locks_apart-law}
use Rattle.vx_rules.proofs.theorems.locks_apart.Goals as goal

pub returns : goal.returns
returns c = locks_apart-law
