-- Where a step of a job stands, and the moves behind its front.
use Rattle.std.specs.Prelude.{◌≡◌, ℕ, ◌+◌, ◌-◌, Bool, false, ◌||◌, ◌==◌, min, if◌then◌else◌, List, length, Option, Some}
use Rattle.std.specs.List.{slice_get}
use Rattle.std.specs.Option.{option_map, option_map_or}
use Rattle.vx_calls.specs.declared.limits.TheConstants.{READ_MAX}
use Rattle.vx_488.specs.declared.transfers.Transfer.{Transfer}
use Rattle.vx_488.specs.declared.transfers.Transfer.TheVariants as transfer
use Rattle.vx_plan.specs.declared.tasks.Next.{Next}
use Rattle.vx_plan.specs.declared.tasks.Next.TheVariants as next
use Rattle.vx_plan.specs.declared.moves.Step.{Step}
use Rattle.vx_plan.specs.declared.moves.Step.TheVariants.{Command, Behind}
use Rattle.vx_plan.specs.Plan.{This, is_stop}
use Rattle.vx_plan.specs.Places.{slot_wanted}

-- the step is at this command byte of the front, or so many behind it
abbrev pub IsStep : List Transfer → ℕ → Step → Type 0
IsStep front step (Command b) = slice_get front step ≡ Some (transfer.Cmd b)
IsStep front step (Behind k) = step ≡ length front + k

-- the command byte, or the move behind the front
abbrev pub move_at : Step → Next → Next
move_at (Command b) behind = next.Command b
move_at (Behind k) behind = behind

-- the move of a step of a job that makes these transfers, none of which has a data byte
abbrev pub IsMoveAt : List Transfer → ℕ → Next → Type 0
IsMoveAt fixed step move = (bytes : List ℕ) (moved : ℕ) → slot_wanted move bytes moved ≡ option_map This (slice_get fixed step)

-- a read is over after this last byte, or where so many bytes came
abbrev pub is_read_over : ℕ → Option ℕ → Option (ℕ × Bool) → ℕ → Bool
is_read_over max stop last moved = option_map_or (λ g. g.1 || is_stop stop g.0) last false || (moved == min max READ_MAX)

-- what a serial poll does behind its front: the status byte, then SPD and UNT
abbrev pub poll_tail : ℕ → ℕ → Next
poll_tail moved step =
    if moved == 0 then next.Get
    else if step == 0 then next.Command 0x19
    else if step == 1 then next.Command 0x5F
    else next.Finished

-- this move, where none was made yet
abbrev pub tail_after : Next → ℕ → Next
tail_after only step = if step == 0 then only else next.Finished

-- the data bytes that a write has left, where its next move is one of them, and those that a read may still get
abbrev pub puts_left : ℕ → ℕ → Next → ℕ
puts_left len moved (next.Put end) = len - moved
puts_left len moved _ = 0

abbrev pub gets_left : ℕ → ℕ → Next → ℕ
gets_left max moved next.Get = min max READ_MAX - moved
gets_left max moved _ = 0
