-- What playing one line of a script does.
use Rattle.std.specs.Prelude.{◌≡◌, List, [], ◌∷◌, ◌++◌, Option, Some, None, ◌⊎◌}
use Rattle.std.specs.List.{flat_map}
use Rattle.std.specs.Io.KnownBytes.{Appends}
use Rattle.vx_script.specs.declared.Cause.{Cause}
use Rattle.vx_script.specs.declared.Cause.TheVariants as cause
use Rattle.vx_script.specs.declared.Version.{Version}
use Rattle.vx_script.specs.Command.{Command}
use Rattle.vx_play.specs.declared.run.LineEnd.{LineEnd}
use Rattle.vx_play.specs.declared.run.LineEnd.TheVariants as line_end
use Rattle.vx_text.specs.Ends.{End}
use Rattle.vx_text.specs.Writing.{StopsIn}
use Rattle.vx_run.specs.Item.{Item}
use Rattle.vx_run.specs.RunText.{item_text}
use Rattle.vx_player.specs.Stage.{Stage, refusal}
use Rattle.vx_player.specs.Play.{PlayerTakes}
use Rattle.vx_player.specs.Upholding.{ArePrintable}
use Rattle.vx_player.specs.PlayerState.{PlayerState}
use Rattle.vx_player.specs.Standing.{PlayerStands}
use Rattle.vx_player.specs.Wanting.{WantsMemory}

-- these commands, one item each, take a play from one stage to another
abbrev pub TakesAll : Stage → List Command → List Item → Stage → Type 0
TakesAll before [] [] after = after ≡ before
TakesAll before (command ∷ commands) (item ∷ items) after =
    (item.command ≡ command) × (next : Stage) × PlayerTakes before item next × TakesAll next commands items after
TakesAll before [] (item ∷ items) after = ⊥
TakesAll before (command ∷ commands) [] after = ⊥

-- some first commands of a line were taken, and their lines can be printed
pub record TakesFront (v : Version) (before : Stage) (commands : List Command) : Type 0 where
  pub items : List Item
  pub after : Stage
  pub takes : TakesAll before commands items after
  pub printable : ArePrintable v items

-- a line's commands, none or more, were taken, and their text written
pub record IsPlayed (v : Version) (said : Option (List Command)) (stage : Stage) (player : PlayerState) (before after : End) : Type 0 where
  pub commands : List Command
  pub said_is : said ≡ Some commands
  pub front : TakesFront v stage commands
  pub stands : PlayerStands player front.after
  pub written : Appends before.bytes after.bytes (flat_map (item_text v) front.items)

-- a line's commands were taken, and the sink failed at their text
pub record IsCut (v : Version) (said : Option (List Command)) (stage : Stage) (before after : End) : Type 0 where
  pub commands : List Command
  pub said_is : said ≡ Some commands
  pub front : TakesFront v stage commands
  pub stops : StopsIn before after (flat_map (item_text v) front.items)

-- a line outside the grammar
pub record IsPlayBad (said : Option (List Command)) (why : Cause) (before after : End) : Type 0 where
  pub outside : said ≡ None
  pub form : why ≡ cause.Form
  pub unwritten : Appends before.bytes after.bytes []

-- the commands of a line in front of one of them were taken, and their text written
pub record IsFrontOf (v : Version) (said : Option (List Command)) (stage : Stage) (before after : End) : Type 0 where
  pub commands : List Command
  pub command : Command
  pub later : List Command
  pub said_is : said ≡ Some (commands ++ command ∷ later)
  pub front : TakesFront v stage commands
  pub written : Appends before.bytes after.bytes (flat_map (item_text v) front.items)

-- a command of the line is refused behind them
pub record IsTurnedDown (v : Version) (said : Option (List Command)) (stage : Stage) (why : Cause) (before after : End) : Type 0 where
  pub at : IsFrontOf v said stage before after
  pub refused : refusal at.front.after at.command ≡ Some why

-- a command of the line wants memory
pub record IsWanting (v : Version) (said : Option (List Command)) (stage : Stage) (before after : End) : Type 0 where
  pub at : IsFrontOf v said stage before after
  pub wants : WantsMemory at.front.after at.command

abbrev pub PlayEndsLine : Version → Option (List Command) → Stage → PlayerState → End → End → LineEnd → Type 0
PlayEndsLine v said stage player before after line_end.Played = IsPlayed v said stage player before after
PlayEndsLine v said stage player before after (line_end.Refused why) = IsPlayBad said why before after ⊎ IsTurnedDown v said stage why before after
PlayEndsLine v said stage player before after line_end.SinkFailed = IsCut v said stage before after
PlayEndsLine v said stage player before after line_end.NoMemory = IsWanting v said stage before after
