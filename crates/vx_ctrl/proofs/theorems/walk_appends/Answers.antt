use Rattle.vx_488.specs.Walks.{StepsTo}
use Rattle.vx_488.proofs.Laws.Puts.{path-append}
use Rattle.vx_ctrl.proofs.Walking.{path-split}
use Rattle.vx_ctrl.proofs.theorems.walk_appends.Goals as goal

pub returns : goal.returns
returns g c = λ old new xs ys. (
  λ walk. path-split (StepsTo g.B.Bus.means g.B.Bus.through) old new xs ys walk,
  λ both. path-append (StepsTo g.B.Bus.means g.B.Bus.through) old both.0 new xs ys both.1 both.2,
)
