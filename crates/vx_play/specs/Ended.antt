-- To be believed.
-- How the play of a script ends: at its end, at its first fault, or where the sink fails or memory runs out.
use Rattle.std.specs.Prelude.{◌≡◌, ℕ, List, ◌∷◌, ◌++◌, Option, Some, None, ◌⊎◌}
use Rattle.std.specs.Io.KnownBytes.{Appends}
use Rattle.vx_play.specs.declared.run.Ending.{Ending}
use Rattle.vx_play.specs.declared.run.Ending.TheVariants as ending
use Rattle.vx_play.specs.declared.run.PlayStatus.{PlayStatus}
use Rattle.vx_play.specs.declared.run.PlayStatus.TheVariants as status
use Rattle.vx_text.specs.Ends.{End}
use Rattle.vx_text.specs.Writing.{StopsIn}
use Rattle.vx_setup.specs.Script.{Step, script, version_of_lines}
use Rattle.vx_text.specs.TextLines.{lines}
use Rattle.vx_run.specs.Item.{Item, Fault, last_line}
use Rattle.vx_run.specs.RunText.{text}
use Rattle.vx_script.specs.declared.Version.{Version}
use Rattle.vx_setup.specs.Rack.{SpareShown}
use Rattle.vx_player.specs.Stage.{Stage}
use Rattle.vx_player.specs.Play.{PlaysFront, IsPlay}
use Rattle.vx_player.specs.Upholding.{Upholds, ArePrintable}
use Rattle.vx_player.specs.Wanting.{WantsMemory}

-- the version of a script's text
abbrev pub version_in : List ℕ → Version
version_in script_text = version_of_lines (lines script_text)

-- a script that is played to its end or to its first fault, with these spares
pub record IsPlayed (script_text : List ℕ) (rack : List SpareShown) (items : List Item) (fault : Option Fault) : Type 0 where
  pub play : IsPlay script_text rack items fault
  pub upholds : Upholds items
  pub printable : ArePrintable (version_in script_text) items

-- the steps in front of a place of a script are played
pub record IsFront (script_text : List ℕ) (rack : List SpareShown) (items : List Item) : Type 0 where
  pub steps : List Step
  pub stage : Stage
  pub played : PlaysFront script_text rack steps items stage
  pub upholds : Upholds items
  pub printable : ArePrintable (version_in script_text) items

-- the next step wants memory
pub record WantsAtStep (script_text : List ℕ) (steps : List Step) (stage : Stage) : Type 0 where
  pub step : Step
  pub later : List Step
  pub next : (script script_text).steps ≡ steps ++ step ∷ later
  pub wants : WantsMemory stage step.command

-- the steps in front of one that wants memory are played
pub record IsShort (script_text : List ℕ) (rack : List SpareShown) (items : List Item) : Type 0 where
  pub front : IsFront script_text rack items
  pub wants : WantsAtStep script_text front.steps front.stage

-- how the play of a script's lines ends, and what was written
abbrev pub EndsLines : List ℕ → List SpareShown → End → End → Ending → Type 0
EndsLines script_text rack before after ending.Whole =
    (items : List Item) × IsPlayed script_text rack items None × Appends before.bytes after.bytes (text (version_in script_text) items)
EndsLines script_text rack before after (ending.Fault line why) =
    (items : List Item) × IsPlayed script_text rack items (Some (record { line = line; cause = why })) × Appends before.bytes after.bytes (text (version_in script_text) items)
EndsLines script_text rack before after ending.SinkFailed =
    (items : List Item) × IsFront script_text rack items × StopsIn before after (text (version_in script_text) items)
EndsLines script_text rack before after ending.NoMemory =
    (items : List Item) × IsShort script_text rack items × Appends before.bytes after.bytes (text (version_in script_text) items)

-- the last line was written, or the sink failed in it
abbrev pub PutsLast : PlayStatus → List ℕ → End → End → PlayStatus → Type 0
PutsLast how line before after result =
    ((result ≡ how) × Appends before.bytes after.bytes line) ⊎ ((result ≡ status.SinkFailed) × StopsIn before after line)

-- How the play of a script ends, its last line with it. Where the sink failed, a front was written of the text of some first
-- steps, or of the whole play and its last line. Where memory ran out, nothing was written, as the play began, or the text of
-- the steps in front of the one that wants it.
abbrev pub EndsScript : List ℕ → List SpareShown → End → End → PlayStatus → Type 0
EndsScript script_text rack before after status.Done =
    (items : List Item) × IsPlayed script_text rack items None × Appends before.bytes after.bytes (text (version_in script_text) items ++ last_line None)
EndsScript script_text rack before after status.Fault =
    (items : List Item) × (fault : Fault) × IsPlayed script_text rack items (Some fault) × Appends before.bytes after.bytes (text (version_in script_text) items ++ last_line (Some fault))
EndsScript script_text rack before after status.SinkFailed =
    ((items : List Item) × IsFront script_text rack items × StopsIn before after (text (version_in script_text) items))
    ⊎ ((items : List Item) × (fault : Option Fault) × IsPlayed script_text rack items fault × StopsIn before after (text (version_in script_text) items ++ last_line fault))
EndsScript script_text rack before after status.NoMemory =
    (after ≡ before) ⊎ ((items : List Item) × IsShort script_text rack items × Appends before.bytes after.bytes (text (version_in script_text) items))
EndsScript script_text rack before after _ = ⊥
