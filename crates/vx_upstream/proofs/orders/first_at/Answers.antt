use Rattle.std.proofs.Common.{◌-◌, arith}
use Rattle.vx_upstream.proofs.Listed.{first-none, first-next, first-all}
use Rattle.vx_upstream.proofs.orders.first_at.Goals as goal

pub loop-place-init : goal.loop-place-init
loop-place-init c = (first-none c.args.p c.args.listeners.now c.in_order.ensures, omega arith)

pub loop-place-preserved : goal.loop-place-preserved
loop-place-preserved c = (
  first-next c.args.p c.args.listeners.now c.loop-place.found c.sooner-found.result c.loop-place.place (c.loop-place.place - 1) c.in_order.ensures (omega arith) c.loop-place.invariant.0 c.sooner-found.ensures,
  omega arith,
)

pub returns : goal.returns
returns c = first-all c.args.p c.args.listeners.now c.loop-place.found c.loop-place.place c.in_order.ensures (omega arith) c.loop-place.invariant.0
