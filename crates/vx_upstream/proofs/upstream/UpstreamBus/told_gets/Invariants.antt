use Rattle.std.proofs.Common.{◌≡◌, ◌+◌, ◌-◌, ◌≤◌, length, map, take}
use Rattle.vx_488.specs.declared.transfers.Transfer.TheVariants.{Got}
use Rattle.vx_488.specs.Steps.{Went}
use Rattle.vx_488.specs.Bursts.{ended}
use Rattle.vx_upstream.specs.UpstreamState.{past}
use Rattle.vx_upstream.proofs.upstream.UpstreamBus.told_gets.Given as goal

abbrev pub invariant-loop-got : goal.invariant-loop-got
invariant-loop-got g l =
    (l.self ≡ record l.initial.self { kept = past l.initial.self.kept (map Went (take l.got (ended Got l.end l.bytes))) })
    × (l.self.kept.means.asks ≡ l.initial.self.kept.means.asks + l.got)
    × (l.got ≤ length l.bytes)

abbrev pub decreases-loop-got : goal.decreases-loop-got
decreases-loop-got g l = length l.bytes - l.got
