use Rattle.std.proofs.Common.{◌≡◌, length}
use Rattle.vx_record.specs.declared.Feed.TheVariants.{More}
use Rattle.vx_test_low.proofs.record_tests.take.Given as goal

-- the buffer wants more
abbrev pub invariant-loop-state : goal.invariant-loop-state
invariant-loop-state l = l.buf.state ≡ More

abbrev pub decreases-loop-state : goal.decreases-loop-state
decreases-loop-state l = length l.piece
