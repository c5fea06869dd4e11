use Rattle.vx_group.proofs.Owning.{links-hold, few_links-hold}
use Rattle.vx_group.proofs.theorems.links_law.Goals as goal

pub returns-clause-links : goal.returns-clause-links
returns-clause-links c = links-hold

pub returns-clause-few : goal.returns-clause-few
returns-clause-few c = few_links-hold
