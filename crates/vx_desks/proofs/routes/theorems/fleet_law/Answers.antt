use Rattle.vx_desks.proofs.Once.{links-law, once-law}
use Rattle.vx_desks.proofs.routes.theorems.fleet_law.Goals as goal

pub returns-clause-links : goal.returns-clause-links
returns-clause-links c = links-law c.numbers_given_once.ensures.link

pub returns-clause-once : goal.returns-clause-once
returns-clause-once c = once-law c.numbers_given_once.ensures.link c.numbers_given_once.ensures.links
