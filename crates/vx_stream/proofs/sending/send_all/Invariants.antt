use Rattle.vx_door.specs.Going.{Went}
use Rattle.std.proofs.Common.{length, ◌-◌}
use Rattle.vx_stream.proofs.Sends.{SentSoFar}
use Rattle.vx_stream.proofs.sending.send_all.Given as goal

abbrev pub invariant-loop-sent : goal.invariant-loop-sent
invariant-loop-sent g l =
    SentSoFar g.L.Link l.initial.link l.link l.bytes l.sent
    × Went g.L.Link.receives g.L.Link.sends l.initial.link l.link

abbrev pub decreases-loop-sent : goal.decreases-loop-sent
decreases-loop-sent g l = length l.bytes - l.sent
