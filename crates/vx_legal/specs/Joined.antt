-- What the player writes is what the checker calls legal.
use Rattle.std.specs.Prelude.{◌≡◌, ◌≤◌, ℕ, List, [], length, Option, Some, None, ◌⊎◌}
use Rattle.std.specs.Io.KnownBytes.{Appends}
use Rattle.vx_text.specs.Ends.{End}
use Rattle.vx_text.specs.Reading.{GivesAll}
use Rattle.vx_script.specs.declared.Version.TheVariants as version
use Rattle.vx_setup.specs.Rack.{SpareShown}
use Rattle.vx_rules.specs.Legal.{IsLegal}
use Rattle.vx_flow.specs.Linearization.{linearization}
use Rattle.vx_run.specs.Item.{Item, events}
use Rattle.vx_play.specs.declared.run.TheConstants.{SCRIPT_MAX}
use Rattle.vx_play.specs.declared.run.Order.TheVariants as order
use Rattle.vx_play.specs.declared.run.PlayStatus.TheVariants as status
use Rattle.vx_player.specs.Play.{IsPlay}
use Rattle.vx_play.specs.Ended.{EndsScript, version_in}
use Rattle.vx_play.specs.Outcome as player
use Rattle.vx_play.specs.Outcome.{order_of}
use Rattle.vx_history.specs.declared.limits.TheConstants.{TRACE_MAX}
use Rattle.vx_history.specs.CheckState.{abort_port}
use Rattle.vx_history.specs.History.{Lawful, TraceTells}
use Rattle.vx_history.specs.Formed.{run_trace, told_events}
use Rattle.vx_check.specs.Outcome as checker
use Rattle.vx_check.specs.Outcome.{Wrote, legal_line}
use Rattle.vx_check.specs.Verdicts.{IsUndisturbed, RanOut, Completes}

-- What was written is the trace of a play of this script, and it tells a history that is legal: that of all events of the play.
pub record WritesLegal (script_text : List ℕ) (rack : List SpareShown) (before after : Option (List ℕ)) : Type 0 where
  pub items : List Item
  pub play : IsPlay script_text rack items None
  pub written : Appends before after (run_trace items)
  pub tells : TraceTells (run_trace items) (Lawful (told_events items))
  pub legal : IsLegal abort_port (linearization (told_events items))
  pub all : linearization (told_events items) ≡ linearization (events items)

-- a script of version 2 that is played to its end is written so
abbrev pub PlaysAreLegal : Type 0
PlaysAreLegal = (script_text : List ℕ) (rack : List SpareShown) (before after : End) → EndsScript script_text rack before after status.Done
    → version_in script_text ≡ version.Two → WritesLegal script_text rack before.bytes after.bytes

-- the source gave a script whole; if that has version 2, it is written so
pub record PlaysLegal (rack : List SpareShown) (ends : player.PlayEnds) : Type 0 where
  pub script_text : List ℕ
  pub read : GivesAll SCRIPT_MAX ends.source ends.source_after script_text
  pub legal : version_in script_text ≡ version.Two → WritesLegal script_text rack ends.sink.bytes ends.sink_after.bytes

-- so it is where the player is asked for a play, and ends with 0
abbrev pub RunsAreLegal : Type 0
RunsAreLegal = (words : List (List ℕ)) (rack : List SpareShown) (ends : player.PlayEnds) → player.PlayEndsSo words rack ends 0 → order_of words ≡ Some order.Play
    → PlaysLegal rack ends

-- The player is asked for the play of a script of version 2, which its source tells, and its sink tells what it took, at first nothing.
-- Just that is what the source of a check has to give. It isn't too long, and no count of faults rose in the check.
pub record IsHandedOn (words : List (List ℕ)) (played : player.PlayEnds) (checked : checker.CheckEnds) : Type 0 where
  pub command : order_of words ≡ Some order.Play
  pub script_text : List ℕ
  pub told : played.source.bytes ≡ Some script_text
  pub version_is : version_in script_text ≡ version.Two
  pub empty : played.sink.bytes ≡ Some []
  pub trace : List ℕ
  pub taken : played.sink_after.bytes ≡ Some trace
  pub few : length trace ≤ TRACE_MAX
  pub given : IsUndisturbed [] checked trace

-- then where the play ended with 0, the check answers with 0 and `legal`, or with 5 for want of memory
abbrev pub PlaysAreAnswered : Type 0
PlaysAreAnswered = (words : List (List ℕ)) (rack : List SpareShown) (played : player.PlayEnds) (checked : checker.CheckEnds) (number : ℕ) → IsHandedOn words played checked
    → player.PlayEndsSo words rack played 0 → Completes TRACE_MAX [] checked number → RanOut checked number ⊎ ((number ≡ 0) × Wrote checked legal_line)
