-- The play of a script under way.
use Rattle.std.specs.Prelude.{◌≡◌, ℕ, ◌+◌, ◌≤◌, List}
use Rattle.std.specs.Io.KnownBytes.{Appends}
use Rattle.vx_text.specs.Ends.{End}
use Rattle.vx_text.specs.TextLines.{lines}
use Rattle.vx_setup.specs.Script.{Step, script, script_from, behind_steps}
use Rattle.vx_setup.specs.Rack.{SpareShown}
use Rattle.vx_run.specs.Item.{Item}
use Rattle.vx_run.specs.RunText.{text}
use Rattle.vx_script.specs.declared.Version.{Version}
use Rattle.vx_player.specs.Stage.{Stage, beginning}
use Rattle.vx_player.specs.Play.{Plays}
use Rattle.vx_player.specs.Upholding.{ArePrintable}
use Rattle.vx_player.specs.PlayerState.{PlayerState}
use Rattle.vx_player.specs.Standing.{PlayerStands}
use Rattle.vx_play.specs.Ended.{version_in}

-- a play of a script of this version under way: so many lines are played, and this text is what is left
pub record PlayUnderWay (script_text : List ℕ) (rack : List SpareShown) (v : Version) (rest : List ℕ) (count : ℕ) (player : PlayerState) (before after : End) : Type 0 where
  pub steps : List Step
  pub items : List Item
  pub stage : Stage
  pub version_is : version_in script_text ≡ v
  pub is_front : script script_text ≡ behind_steps steps (script_from v (count + 1) (lines rest))
  pub played : Plays (beginning rack) steps items stage
  pub stands : PlayerStands player stage
  pub printable : ArePrintable v items
  pub written : Appends before.bytes after.bytes (text v items)
  pub counted : before.faults ≤ after.faults
