-- The place in a plan that a list has reached.
use Rattle.std.specs.Prelude.{◌≡◌, ℕ, ◌+◌, Bool, true, false, not, if◌then◌else◌, List, count_by, slice_index, Option, Some, None}
use Rattle.vx_488.specs.declared.transfers.Transfer.{Transfer}
use Rattle.vx_488.specs.declared.transfers.Transfer.TheVariants as transfer
use Rattle.vx_plan.specs.declared.tasks.Task.{Task}
use Rattle.vx_plan.specs.declared.tasks.Task.TheVariants.{Commands}
use Rattle.vx_plan.specs.declared.tasks.Place.{Place}
use Rattle.vx_plan.specs.declared.tasks.Next.{Next}
use Rattle.vx_plan.specs.declared.tasks.Next.TheVariants as next
use Rattle.vx_plan.specs.Transfers.{got_of}
use Rattle.vx_plan.specs.Plan.{Slot, This, AnyByte, Plan, left_after, next_slot}
use Rattle.vx_plan.specs.Results.{last_got}
use Rattle.vx_plan.specs.Tasks.{plan, HasBytes}

-- a transfer carries a data byte; of a send command each command byte is one
abbrev pub carries_data : Task → Transfer → Bool
carries_data task (transfer.Put b end) = true
carries_data task (transfer.Got b end) = true
carries_data (Commands len) (transfer.Cmd b) = true
carries_data task _ = false

-- the place of a list in the plan of a job
abbrev pub place_of : Task → Bool → ℕ → List Transfer → Place
place_of task polling own ts = record {
  polling = polling;
  own = own;
  step = count_by (λ t. not (carries_data task t)) ts;
  moved = count_by (carries_data task) ts;
  last = last_got ts;
}

-- the last byte got, after a transfer
abbrev pub last_after : Option (ℕ × Bool) → Option (ℕ × Bool) → Option (ℕ × Bool)
last_after before None = before
last_after before (Some g) = Some g

-- the place after one more transfer: one more data byte, or one more of the others
abbrev pub place_after : Task → Place → Transfer → Place
place_after task place t = record place {
  step = if carries_data task t then place.step else place.step + 1;
  moved = if carries_data task t then place.moved + 1 else place.moved;
  last = last_after place.last (got_of t);
}

-- a list that the plan of this job with these bytes doesn't leave, the place that it reaches, and what is left then
pub record Reaches (task : Task) (bytes : List ℕ) (ts : List Transfer) (left : Plan) (place : Place) : Type 0 where
  pub sent : HasBytes task bytes
  pub goes : left_after (Some (plan task bytes place.polling place.own)) ts ≡ Some left
  pub at : place ≡ place_of task place.polling place.own ts

-- some list reaches the place
abbrev pub IsReached : Task → Place → Type 0
IsReached task place = (bytes : List ℕ) × (ts : List Transfer) × (left : Plan) × Reaches task bytes ts left place

-- what a next move wants of the bus, where so many of these bytes were sent
abbrev pub slot_wanted : Next → List ℕ → ℕ → Option Slot
slot_wanted (next.Command b) bytes moved = Some (This (transfer.Cmd b))
slot_wanted next.CommandByte bytes moved = Some (This (transfer.Cmd (slice_index bytes moved)))
slot_wanted (next.Put end) bytes moved = Some (This (transfer.Put (slice_index bytes moved) end))
slot_wanted next.Get bytes moved = Some AnyByte
slot_wanted (next.Ren on) bytes moved = Some (This (transfer.Ren on))
slot_wanted (next.Atn on) bytes moved = Some (This (transfer.Atn on))
slot_wanted next.Ifc bytes moved = Some (This transfer.Ifc)
slot_wanted (next.Own a) bytes moved = Some (This (transfer.Own a))
slot_wanted next.Finished bytes moved = None

-- the next move is the one that is left, whichever bytes and list reached the place
abbrev pub IsNextMove : Task → Place → Next → Type 0
IsNextMove task place move =
    (bytes : List ℕ) (ts : List Transfer) (left : Plan) → Reaches task bytes ts left place → slot_wanted move bytes place.moved ≡ next_slot left
