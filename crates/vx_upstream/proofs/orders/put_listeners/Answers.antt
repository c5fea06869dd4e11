use Rattle.std.proofs.Common.{◌-◌, arith, refl}
use Rattle.vx_upstream.proofs.Listed.{listed-none, listed-next, listed-all}
use Rattle.vx_upstream.proofs.orders.put_listeners.Goals as goal

pub loop-place-init : goal.loop-place-init
loop-place-init c = (listed-none c.args.listeners.now c.args.orders.now.items c.in_order.ensures, omega arith, refl, omega arith)

pub loop-place-preserved : goal.loop-place-preserved
loop-place-preserved c = (
  listed-next c.args.listeners.now c.args.orders.now.items c.loop-place.orders.items c.put_listener.new.orders.items c.loop-place.place (c.loop-place.place - 1)
      c.in_order.ensures (omega arith) c.loop-place.invariant.0 c.put_listener.ensures.put,
  omega arith,
  omega arith,
  omega arith,
)

pub returns-clause-put : goal.returns-clause-put
returns-clause-put c =
    listed-all c.args.listeners.now c.args.orders.now.items c.loop-place.orders.items c.loop-place.place c.in_order.ensures (omega arith) c.loop-place.invariant.0
