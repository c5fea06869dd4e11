use Rattle.std.proofs.Common.{◌≡◌, ◌≤◌, ◌+◌, ◌-◌, length, drop}
use Rattle.vx_record.specs.Buffer.{fed, taken}
use Rattle.vx_record.proofs.buffer.RecordBuf.feed.Given as goal

-- what is still to come of the piece makes of the buffer what the whole piece makes of it was
abbrev pub invariant-loop-took : goal.invariant-loop-took
invariant-loop-took l = (l.took ≤ length l.piece) × (fed l.fn.self l.piece ≡ fed l.self (drop l.took l.piece))
    × (taken l.fn.self l.piece ≡ l.took + taken l.self (drop l.took l.piece))

abbrev pub decreases-loop-took : goal.decreases-loop-took
decreases-loop-took l = length l.piece - l.took
