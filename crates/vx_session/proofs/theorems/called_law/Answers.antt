use Rattle.vx_session.specs.Origin.{origin}
use Rattle.vx_session.proofs.Laws.{called-links}
use Rattle.vx_session.proofs.theorems.called_law.Goals as goal

pub returns : goal.returns
returns g c = λ first. called-links (origin g.B.Bus first) c.phase_law.ensures
