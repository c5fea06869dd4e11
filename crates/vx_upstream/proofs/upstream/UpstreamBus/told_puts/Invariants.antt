use Rattle.std.proofs.Common.{◌≡◌, ◌+◌, ◌-◌, ◌≤◌, map, take}
use Rattle.vx_488.specs.declared.transfers.Transfer.TheVariants.{Put}
use Rattle.vx_488.specs.Steps.{Went}
use Rattle.vx_488.specs.Bursts.{ended}
use Rattle.vx_upstream.specs.UpstreamState.{past}
use Rattle.vx_upstream.proofs.upstream.UpstreamBus.told_puts.Given as goal

abbrev pub invariant-loop-moved : goal.invariant-loop-moved
invariant-loop-moved g l =
    (l.self ≡ record l.initial.self { kept = past l.initial.self.kept (map Went (take l.moved (ended Put l.end l.bytes))) })
    × (l.self.kept.means.asks ≡ l.initial.self.kept.means.asks + l.moved)
    × (l.moved ≤ l.many.moved)

abbrev pub decreases-loop-moved : goal.decreases-loop-moved
decreases-loop-moved g l = l.many.moved - l.moved
