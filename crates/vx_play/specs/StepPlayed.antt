-- What playing one step does: the step of a line, behind its moment where it has one.
use Rattle.std.specs.Prelude.{◌≡◌, [], ◌∷◌, Some}
use Rattle.std.specs.Io.KnownBytes.{Appends}
use Rattle.vx_script.specs.declared.Version.{Version}
use Rattle.vx_script.specs.Command.{Command}
use Rattle.vx_play.specs.declared.run.LineEnd.{LineEnd}
use Rattle.vx_play.specs.declared.run.LineEnd.TheVariants as line_end
use Rattle.vx_text.specs.Ends.{End}
use Rattle.vx_text.specs.Writing.{StopsIn}
use Rattle.vx_run.specs.Item.{Item}
use Rattle.vx_run.specs.RunText.{item_text}
use Rattle.vx_player.specs.Stage.{Stage, refusal}
use Rattle.vx_player.specs.Play.{PlayerTakes}
use Rattle.vx_player.specs.Upholding.{ArePrintable}
use Rattle.vx_player.specs.PlayerState.{PlayerState}
use Rattle.vx_player.specs.Standing.{PlayerStands}
use Rattle.vx_player.specs.Wanting.{WantsMemory}

-- a command was taken, and its lines can be printed
pub record IsTaken (v : Version) (stage : Stage) (command : Command) : Type 0 where
  pub item : Item
  pub after : Stage
  pub command_is : item.command ≡ command
  pub takes : PlayerTakes stage item after
  pub printable : ArePrintable v (item ∷ [])

-- its text was written
pub record IsWritten (v : Version) (stage : Stage) (command : Command) (player : PlayerState) (before after : End) : Type 0 where
  pub taken : IsTaken v stage command
  pub stands : PlayerStands player taken.after
  pub written : Appends before.bytes after.bytes (item_text v taken.item)

-- the sink failed in its text
pub record IsCutShort (v : Version) (stage : Stage) (command : Command) (before after : End) : Type 0 where
  pub taken : IsTaken v stage command
  pub stops : StopsIn before after (item_text v taken.item)

abbrev pub EndsStep : Version → Command → Stage → PlayerState → End → End → LineEnd → Type 0
EndsStep v command stage player before after line_end.Played = IsWritten v stage command player before after
EndsStep v command stage player before after (line_end.Refused why) = (refusal stage command ≡ Some why) × Appends before.bytes after.bytes []
EndsStep v command stage player before after line_end.SinkFailed = IsCutShort v stage command before after
EndsStep v command stage player before after line_end.NoMemory = WantsMemory stage command × Appends before.bytes after.bytes []
