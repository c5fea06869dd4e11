use Rattle.vx_desks.proofs.Counted.{unserved-text, unserved}
use Rattle.vx_desks.proofs.routes.theorems.fewer_law.Goals as goal

pub returns-clause-texts : goal.returns-clause-texts
returns-clause-texts g c = unserved-text

pub returns-clause-histories : goal.returns-clause-histories
returns-clause-histories g c = unserved g.B.Bus
