-- What the fields of an `Srq` hold, as a state of service requests, and what is true of them.
use Rattle.std.specs.Prelude.{◌≤◌, map, vec_capacity}
use Rattle.std.specs.List.{All}
use Rattle.vx_calls.specs.declared.limits.TheConstants.{LINK_MAX}
use Rattle.vx_srq.specs.declared.srq.Srq.TheInside.{Inside}
use Rattle.vx_rules.specs.SrqState.{SrqState, IsSound}
use Rattle.vx_srq.specs.Shown.{slot_shown, enable_shown, SrqHasRoom}

abbrev pub srq_state_of : Inside → SrqState
srq_state_of t = record { slots = map slot_shown t.slots.items; enables = map enable_shown t.enables.items; next_channel = t.next; level = t.level }

-- the room of all enables and of each outbox stands, and the state of service requests is as every state of service requests is
pub record IsSrqKept (t : Inside) : Type 0 where
  pub places : LINK_MAX ≤ vec_capacity t.enables
  pub room : All SrqHasRoom t.slots.items
  pub sound : IsSound (srq_state_of t)
