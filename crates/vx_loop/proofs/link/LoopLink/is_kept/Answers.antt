use Rattle.std.proofs.Common.{IfSome, subst}
use Rattle.vx_loop.specs.LoopState.{LoopState}
use Rattle.vx_loop.specs.Standing.{IsLoopKept}
use Rattle.vx_loop.proofs.link.LoopLink.is_kept.Goals as goal

pub returns : goal.returns
returns g c = subst (λ (l : LoopState). IfSome l.served IsLoopKept) c.self.view_is c.self.invariant
