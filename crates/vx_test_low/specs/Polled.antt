-- Polls behind a list: which events they make, why they may end without an answer, and how many transfers they make.
use Rattle.std.specs.Prelude.{◌≡◌, ℕ, true, false, List, [], ◌∷◌, Option, Some, None}
use Rattle.vx_calls.specs.declared.codes.ErrorCode.TheVariants as code
use Rattle.vx_calls.specs.Reply.{Reply}
use Rattle.vx_calls.specs.Reply as reply
use Rattle.vx_488.specs.declared.transfers.Transfer.{Transfer}
use Rattle.vx_488.specs.declared.transfers.Transfer.TheVariants.{Put}
use Rattle.vx_rules.specs.State.{Pending, pending_at}
use Rattle.vx_flow.specs.Event.{Event, Begin, Move}
use Rattle.vx_flow.specs.InterleavedState.{InterleavedState}
use Rattle.vx_flow.specs.Poll.{Ending, Answered, Waited, EndsBy, FitsSlice, run_events}
use Rattle.vx_flow.specs.declared.progress.Ran.TheVariants as ran
use Rattle.vx_flow.specs.declared.progress.Why.{Why}
use Rattle.vx_flow.specs.declared.progress.Why.TheVariants as why
use Rattle.vx_flow.specs.Laws.{interleaved_along}
use Rattle.vx_test_low.specs.Lists.{first, part, puts}
use Rattle.vx_test_low.specs.Turns.{shared}
use Rattle.vx_test_low.specs.Ends.{held}
use Rattle.vx_test_low.specs.Locks.{kept_off}

-- the events of a poll of the connection's call behind these, up to its end, where it makes these transfers
abbrev pub polled : ℕ → ℕ → List Transfer → List Event → Option (List Event)
polled conn now moves es = part (λ f. run_events f conn now moves) es

-- behind these events a poll of the connection's call may end so
abbrev pub EndsOn : InterleavedState → ℕ → ℕ → Ending → Option Pending → Type 0
EndsOn f conn now ending None = ⊥
EndsOn f conn now ending (Some p) = EndsBy f conn now p ending

abbrev pub EndsIn : ℕ → ℕ → Ending → Option InterleavedState → Type 0
EndsIn conn now ending None = ⊥
EndsIn conn now ending (Some f) = EndsOn f conn now ending (pending_at f.state.tables conn)

abbrev pub Ends : ℕ → ℕ → Ending → List Event → Type 0
Ends conn now ending es = EndsIn conn now ending (interleaved_along 9011 es)

-- without an answer, for this cause
abbrev pub Waits : ℕ → ℕ → Why → List Event → Type 0
Waits conn now why es = Ends conn now (Waited why) es

-- the answer that a write is too late, behind its first byte
abbrev pub too_late : Reply
too_late = reply.Write code.Timeout 1

pub record PollsMakeEvents : Type 0 where
  -- the first poll begins the turn, whether the bus lets a transfer through or not
  pub begins : polled 1 22 (puts 5 65 false) (first 8 shared) ≡ Some (Begin 1 22 ∷ Move 1 (puts 5 65 false) ∷ [])
  pub begins_held : polled 1 22 [] (first 8 shared) ≡ Some (Begin 1 22 ∷ [])
  -- the next one goes on
  pub goes_on : polled 1 24 (Put 66 true ∷ []) (first 11 shared) ≡ Some (Move 1 (Put 66 true ∷ []) ∷ [])
  -- in the turn of the other connection, and under a lock, none begins
  pub in_turn : polled 2 23 [] (first 11 shared) ≡ Some []
  pub under_lock : polled 1 30 [] (first 11 kept_off) ≡ Some []

pub record PollsWait : Type 0 where
  -- for the turn of the other connection, until it is over
  pub in_turn : Waits 2 23 (why.Turn 1) (first 11 shared)
  pub turn_over : Waits 2 24 (why.Turn 1) (first 13 shared) → ⊥
  -- for the bus, until the time from the turn's beginning has passed
  pub bus_held : Waits 1 124 why.Held (first 6 held)
  pub time_passed : Waits 1 125 why.Held (first 6 held) → ⊥
  -- for the link that holds the lock, until the lock's deadline
  pub locked : Waits 1 519 (why.Locked 2) (first 11 kept_off)
  pub deadline : Waits 1 520 (why.Locked 2) (first 11 kept_off) → ⊥
  -- for nobody where its own turn has a full slice, before that time has passed and behind it
  pub slice_in_time : Waits 1 124 why.Slice (first 6 held)
  pub slice_late : Waits 1 125 why.Slice (first 6 held)
  pub slice_later : Waits 1 100000 why.Slice (first 6 held)
  -- it isn't answered then, as it is where the bus held
  pub slice_answered : Ends 1 125 (Answered ran.Sliced false too_late) (first 6 held) → ⊥
  pub held_answered : Ends 1 125 (Answered ran.Paused false too_late) (first 6 held)
  -- in the turn of the other connection, behind that, and before its own begins, it has no slice
  pub slice_of_other : Waits 2 23 why.Slice (first 11 shared) → ⊥
  pub slice_behind : Waits 2 24 why.Slice (first 13 shared) → ⊥
  pub slice_unbegun : Waits 1 22 why.Slice (first 8 shared) → ⊥
  -- and under a lock none
  pub slice_locked : Waits 1 30 why.Slice (first 11 kept_off) → ⊥

-- a poll makes 256 transfers at most, and so many exactly where it ends as its slice is full
pub record SlicesFit : Type 0 where
  pub full : FitsSlice ran.Sliced 256
  pub not_full : FitsSlice ran.Sliced 255 → ⊥
  pub too_full : FitsSlice ran.Sliced 257 → ⊥
  -- it ends there, and asks the bus for no more that could be held or fail
  pub held : FitsSlice ran.Paused 255
  pub held_behind : FitsSlice ran.Paused 256 → ⊥
  pub failed : FitsSlice ran.Broken 255
  pub failed_behind : FitsSlice ran.Broken 256 → ⊥
  -- but a turn that is whole then is finished
  pub whole : FitsSlice ran.Finished 256
  pub whole_early : FitsSlice ran.Finished 1
  pub whole_behind : FitsSlice ran.Finished 257 → ⊥
