use Rattle.std.proofs.Common.{◌-◌, ◌≤◌, length, take}
use Rattle.vx_upstream.specs.Sending.{words_of}
use Rattle.vx_upstream.specs.Bringing.{AllObeyed}
use Rattle.vx_upstream.proofs.tries.obey_all.Given as goal

abbrev pub invariant-loop-done : goal.invariant-loop-done
invariant-loop-done g l = AllObeyed (words_of g.L.Link g.L.Reach.refused g.L.Reach.tries) l.lid l.opts l.initial.client (take l.done l.orders) l.client × (l.done ≤ length l.orders)

abbrev pub decreases-loop-done : goal.decreases-loop-done
decreases-loop-done g l = length l.orders - l.done
