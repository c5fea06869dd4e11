-- To be believed.
-- When a play or a run is written whole.
use Rattle.std.specs.Prelude.{◌≡◌, ◌≤◌, ℕ, List, length, ◌++◌, Option, Some, None, ◌⊎◌}
use Rattle.std.specs.Io.KnownBytes.{Appends}
use Rattle.vx_io_traits.specs.Faults.{Rose}
use Rattle.vx_play.specs.declared.run.TheConstants.{SCRIPT_MAX}
use Rattle.vx_play.specs.declared.run.PlayStatus.{PlayStatus}
use Rattle.vx_play.specs.declared.run.PlayStatus.TheVariants as status
use Rattle.vx_run.specs.Item.{Item, Fault, last_line}
use Rattle.vx_run.specs.RunText.{text}
use Rattle.vx_play.specs.Ended.{version_in}
use Rattle.vx_setup.specs.Rack.{SpareShown}
use Rattle.vx_player.specs.Play.{IsPlay}
use Rattle.vx_gen.specs.declared.words.Ask.{Ask}
use Rattle.vx_gen.specs.Asked.{IsInRange, spelled}
use Rattle.vx_play.specs.Outcome.{PlayEnds, MakesRun, order_of, form_line, play_status_number}
use Rattle.vx_play.specs.declared.run.Order.{Order}
use Rattle.vx_play.specs.declared.run.Order.TheVariants as order
use Rattle.vx_lift.specs.Lifted.{lifted, strange_line}

-- the status of a play that is written whole
abbrev pub whole_status : Option Fault → PlayStatus
whole_status None = status.Done
whole_status (Some fault) = status.Fault

-- the source tells this script, which isn't too long, the words ask for this of it, and neither end's count of faults rose
pub record IsUndisturbed (asked : Order) (words : List (List ℕ)) (ends : PlayEnds) (script_text : List ℕ) : Type 0 where
  pub command : order_of words ≡ Some asked
  pub told : ends.source.bytes ≡ Some script_text
  pub within : length script_text ≤ SCRIPT_MAX
  pub source_good : Rose ends.source.faults ends.source_after.faults → ⊥
  pub sink_good : Rose ends.sink.faults ends.sink_after.faults → ⊥

-- a play of the script was written whole, with its last line, and the status is that of its fault, or of none
pub record WritesWhole (rack : List SpareShown) (ends : PlayEnds) (script_text : List ℕ) (number : ℕ) : Type 0 where
  pub items : List Item
  pub fault : Option Fault
  pub play : IsPlay script_text rack items fault
  pub status : number ≡ play_status_number (whole_status fault)
  pub written : Appends ends.sink.bytes ends.sink_after.bytes (text (version_in script_text) items ++ last_line fault)

-- Where nothing disturbs it, a play of the script is written whole, or memory is wanting. So the status is 0 where no line
-- is outside the grammar and no step is refused.
abbrev pub Completes : List (List ℕ) → List SpareShown → PlayEnds → ℕ → Type 0
Completes words rack ends number = (script_text : List ℕ) → IsUndisturbed order.Play words ends script_text
    → (number ≡ play_status_number status.NoMemory) ⊎ WritesWhole rack ends script_text number

-- a script was lifted whole, or to its first line outside the grammar, and the status is that
abbrev pub IsLifted : PlayEnds → List ℕ → ℕ → Option ℕ → Type 0
IsLifted ends script_text number None =
    (number ≡ play_status_number status.Done) × Appends ends.sink.bytes ends.sink_after.bytes (lifted script_text)
IsLifted ends script_text number (Some line) =
    (number ≡ play_status_number status.Fault) × Appends ends.sink.bytes ends.sink_after.bytes (lifted script_text ++ form_line line)

-- Where nothing disturbs it, a script is lifted, or memory is wanting. So the status is 0 where no line is outside the grammar of
-- version 1, and else 3.
abbrev pub CompletesLift : List (List ℕ) → PlayEnds → ℕ → Type 0
CompletesLift words ends number = (script_text : List ℕ) → IsUndisturbed order.Lift words ends script_text
    → (number ≡ play_status_number status.NoMemory) ⊎ IsLifted ends script_text number (strange_line script_text)

-- Where words ask for a run and the sink's count of faults doesn't rise, the run is made whole or up to a step that is refused, and
-- written so, or memory is wanting.
abbrev pub CompletesRun : List (List ℕ) → List SpareShown → PlayEnds → ℕ → Type 0
CompletesRun words rack ends number = (ask : Ask) → IsInRange ask → words ≡ spelled ask → (Rose ends.sink.faults ends.sink_after.faults → ⊥)
    → (number ≡ play_status_number status.NoMemory)
    ⊎ ((fault : Option Fault) × (number ≡ play_status_number (whole_status fault)) × MakesRun words rack ends (whole_status fault))
