use Rattle.std.proofs.Common.{◌≡◌, ◌≤◌, ◌+◌, ◌*◌, ◌++◌}
use Rattle.std.specs.Prelude.{vec_len, vec_capacity}
use Rattle.vx_upstream.specs.Restoring.{listener_orders}
use Rattle.vx_upstream.proofs.Listed.{from}
use Rattle.vx_upstream.proofs.orders.put_listeners.Given as goal

abbrev pub invariant-loop-place : goal.invariant-loop-place
invariant-loop-place l =
    (l.orders.items ≡ l.initial.orders.items ++ listener_orders (from l.place l.listeners))
    × (vec_len l.orders + 2 * l.place ≤ vec_len l.initial.orders + 1984)
    × (vec_capacity l.orders ≡ vec_capacity l.initial.orders)
    × (l.place ≤ 992)

abbrev pub decreases-loop-place : goal.decreases-loop-place
decreases-loop-place l = l.place
