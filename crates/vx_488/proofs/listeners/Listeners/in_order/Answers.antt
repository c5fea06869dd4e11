use Rattle.std.proofs.Common.{subst, arith}
use Rattle.vx_488.specs.Listening.{InOrder}
use Rattle.vx_488.proofs.Places.{flagged-in_order}
use Rattle.vx_488.proofs.listeners.Listeners.in_order.Goals as goal

pub returns : goal.returns
returns c = subst InOrder c.self.view_is (flagged-in_order 0 0 c.self.inside.flags (omega arith) (omega arith))
