use Rattle.std.proofs.Common.{◌≡◌, true}
use Rattle.vx_startup.specs.Running.{net_shown}
use Rattle.vx_startup.specs.Taking.{TookSoFar}
use Rattle.vx_workers.proofs.accepting.accept_links.Given as goal

-- the net goes on from where it was, and as many links came as are counted
abbrev pub invariant-loop : goal.invariant-loop
invariant-loop g l =
    (g.N.Net.is_open l.net ≡ true)
    × TookSoFar l.limit (net_shown g.N.Net l.initial.net) (net_shown g.N.Net l.net) l.number
