use Rattle.std.proofs.Common.{◌≡◌, ◌≤◌}
use Rattle.vx_upstream.specs.Restoring.{first_at}
use Rattle.vx_upstream.proofs.Listed.{from}
use Rattle.vx_upstream.proofs.orders.first_at.Given as goal

abbrev pub invariant-loop-place : goal.invariant-loop-place
invariant-loop-place l = (l.found ≡ first_at l.p (from l.place l.listeners)) × (l.place ≤ 992)

abbrev pub decreases-loop-place : goal.decreases-loop-place
decreases-loop-place l = l.place
