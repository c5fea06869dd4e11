use Rattle.vx_rules.proofs.EntryLaws.{link_numbers-law}
use Rattle.vx_rules.proofs.theorems.link_numbers.Goals as goal

pub returns : goal.returns
returns c = link_numbers-law
