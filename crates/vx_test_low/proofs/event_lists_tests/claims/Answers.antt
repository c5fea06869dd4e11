use Rattle.std.proofs.Common.{refl}
use Rattle.vx_test_low.specs.Turns.{shared}
use Rattle.vx_test_low.specs.Locks.{beside, done}
use Rattle.vx_test_low.specs.Interrupts.{rises_gone, two_links}
use Rattle.vx_calls.specs.Call as call
use Rattle.vx_test_low.proofs.Claimed.{end_unasked, no_end, other_device, moves_to_locked, linearizes_to_locked}
use Rattle.vx_test_low.proofs.event_lists_tests.claims.Goals as goal

-- what holds of each list that is allowed holds of these
pub returns : goal.returns
returns c = record {
  heard = (c.claims_law.ensures 9011 shared _ refl).heard;
  end_unasked = end_unasked;
  no_end = no_end;
  other_device = other_device;
  free = (c.claims_law.ensures 9011 (beside (call.Lock 3 0 0) done) _ refl).moves_free;
  moves_to_locked = moves_to_locked;
  linearizes_to_locked = linearizes_to_locked;
  queued = (c.claims_law.ensures 9011 rises_gone _ refl).queued;
  gone = refl;
  taken = refl;
  due = refl;
  enables = (c.claims_law.ensures 9011 two_links _ refl).enables;
}
