use Rattle.std.proofs.Common.{length, ◌-◌}
use Rattle.vx_488.specs.Bursts.{PutsSoFar}
use Rattle.vx_upstream.specs.Sending.{words_of}
use Rattle.vx_upstream.specs.Stepping.{Through}
use Rattle.vx_upstream.proofs.upstream.UpstreamBus.put_each.Given as goal

abbrev pub invariant-loop-moved : goal.invariant-loop-moved
invariant-loop-moved g l = PutsSoFar (λ s. s.kept.means) (λ old s new. Through (words_of g.L.Link g.L.Reach.refused g.L.Reach.tries) old s new) l.bytes l.end l.moved l.initial.self l.self

abbrev pub decreases-loop-moved : goal.decreases-loop-moved
decreases-loop-moved g l = length l.bytes - l.moved
