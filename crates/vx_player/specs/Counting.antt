-- Steps of a run as they are taken and counted.
use Rattle.std.specs.Prelude.{◌≡◌, ◌≤◌, ℕ, ◌+◌, ◌*◌, Bool, true, false, cond, is_some, List, length, count_by, Option, Some, None}
use Rattle.std.specs.List.{flat_map}
use Rattle.std.specs.Int.{from_bool}
use Rattle.vx_calls.specs.declared.codes.ErrorCode.{ErrorCode}
use Rattle.vx_calls.specs.declared.limits.TheConstants.{SLICE_MAX}
use Rattle.vx_script.specs.Command.{Command}
use Rattle.vx_trace.specs.Output.{Output, Irq}
use Rattle.vx_setup.specs.Rack.{SpareShown}
use Rattle.vx_gen.specs.declared.telling.Counts.{Counts}
use Rattle.vx_player.specs.declared.made_run.Halt.{Halt}
use Rattle.vx_player.specs.declared.note.StepMade.{StepMade}
use Rattle.vx_player.specs.declared.note.Note.{Note}
use Rattle.vx_player.specs.declared.note.Note.TheVariants as note
use Rattle.vx_run.specs.Item.{Item, errors_of, shown_moves}
use Rattle.vx_player.specs.Stage.{Stage}
use Rattle.vx_player.specs.PlayerState.{PlayerState}
use Rattle.vx_player.specs.Standing.{PlayerStands, TakesTo, made_lines}
use Rattle.vx_player.specs.Wanting.{StopsFor}
use Rattle.vx_run.specs.Notes.{is_wait}
use Rattle.vx_player.specs.Generated.{IsGenerated, IsDriven, counts_of, is_failure}

-- nothing is counted
abbrev pub no_counts : Counts
no_counts = record { answers = 0; errors = 0; transfers = 0; interrupts = 0; waits = 0 }

-- the line of an interrupt
abbrev pub is_interrupt : Output → Bool
is_interrupt (Irq conn bytes) = true
is_interrupt _ = false

-- the counts with a step of these lines, and of this error of the one answer, where there is one
abbrev pub counts_behind : Counts → Option ErrorCode → List Output → Counts
counts_behind c answered lines = record {
  answers = c.answers + length (errors_of answered);
  errors = c.errors + count_by is_failure (errors_of answered);
  transfers = c.transfers + length (flat_map shown_moves lines);
  interrupts = c.interrupts + count_by is_interrupt lines;
  waits = c.waits + count_by is_wait lines;
}

-- an answer with an error
abbrev pub has_error : Option ErrorCode → Bool
has_error None = false
has_error (Some error) = is_failure error

-- the notes of an interrupt, and of a call that waits
abbrev pub tells_interrupt : Note → Bool
tells_interrupt (note.Interrupt conn len) = true
tells_interrupt _ = false

abbrev pub tells_wait : Note → Bool
tells_wait (note.Waiting conn why) = true
tells_wait (note.Dialing conn) = true
tells_wait _ = false

-- the counts with a step that made this, after so many transfers
abbrev pub counts_made : Counts → StepMade → ℕ → Counts
counts_made c made moved = record {
  answers = c.answers + from_bool (is_some made.answered);
  errors = c.errors + from_bool (has_error made.answered);
  transfers = c.transfers + cond (is_some made.polled) moved 0;
  interrupts = c.interrupts + from_bool (tells_interrupt made.note);
  waits = c.waits + from_bool (tells_wait made.note);
}

-- none of the counts is above a bound
pub record IsPlayerWithin (most : ℕ) (c : Counts) : Type 0 where
  pub answers : c.answers ≤ most
  pub errors : c.errors ≤ most
  pub transfers : c.transfers ≤ most
  pub interrupts : c.interrupts ≤ most
  pub waits : c.waits ≤ most

-- a step was taken and counted
pub record TakesCounted (before : Stage) (command : Command) (old : Counts) (player : PlayerState) (new : Counts) : Type 0 where
  pub made : StepMade
  pub takes : TakesTo before command made player
  pub counted : new ≡ counts_behind old made.answered (made_lines player made)

-- so many steps of a run are taken and counted
pub record Running (seed : ℕ) (rack : List SpareShown) (count : ℕ) (player : PlayerState) (counts : Counts) : Type 0 where
  pub items : List Item
  pub stage : Stage
  pub front : IsDriven seed rack count items stage
  pub stands : PlayerStands player stage
  pub counted : counts ≡ counts_of items
  pub few : IsPlayerWithin (count * SLICE_MAX) counts

-- the next step of a run isn't taken
pub record HaltsIn (seed : ℕ) (rack : List SpareShown) (halt : Halt) : Type 0 where
  pub place : ℕ
  pub items : List Item
  pub stage : Stage
  pub front : IsDriven seed rack place items stage
  pub command : Command
  pub next : IsGenerated seed place stage command
  pub stops : StopsFor stage command halt.stop
  pub number : halt.number ≡ place + 1
