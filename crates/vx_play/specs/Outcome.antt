-- To be believed.
-- How the program ends, that plays a source or makes a run: for each status, what was read, what was written, and why.
use Rattle.std.specs.Prelude.{◌≡◌, ◌≢◌, ℕ, ◌+◌, if◌then◌else◌, List, [], ◌∷◌, ◌++◌, Option, Some, None, IsSome, codes, ◌⊎◌}
use Rattle.std.specs.Str.{bytes_eq}
use Rattle.std.specs.Io.KnownBytes.{Appends}
use Rattle.vx_io_traits.specs.Faults.{Rose}
use Rattle.vx_trace.specs.Output.{Usage, FaultLong}
use Rattle.vx_trace.specs.Text.{line_text}
use Rattle.vx_play.specs.declared.run.TheConstants.{SCRIPT_MAX}
use Rattle.vx_play.specs.declared.run.PlayStatus.{PlayStatus}
use Rattle.vx_play.specs.declared.run.PlayStatus.TheVariants as status
use Rattle.vx_text.specs.Ends.{End}
use Rattle.vx_text.specs.Reading.{GivesAll, GivesTooMuch, GivesUpTo}
use Rattle.vx_text.specs.Writing.{StopsIn}
use Rattle.vx_setup.specs.Rack.{SpareShown}
use Rattle.vx_gen.specs.declared.words.Ask.{Ask}
use Rattle.vx_gen.specs.Asked.{IsInRange, spelled}
use Rattle.vx_play.specs.declared.run.Order.{Order}
use Rattle.vx_play.specs.declared.run.Order.TheVariants as order
use Rattle.vx_script.specs.declared.Cause.TheVariants as cause
use Rattle.vx_run.specs.Item.{last_line}
use Rattle.vx_lift.specs.Lifted.{lifted, strange_line}
use Rattle.vx_play.specs.Ended.{EndsScript}
use Rattle.vx_play.specs.RunEnded.{PlayEndsRun}

-- the number of a status
abbrev pub play_status_number : PlayStatus → ℕ
play_status_number status.Done = 0
play_status_number status.Usage = 1
play_status_number status.SourceFailed = 2
play_status_number status.Fault = 3
play_status_number status.SinkFailed = 4
play_status_number status.NoMemory = 5
play_status_number status.TooLong = 6

-- what words ask for that read the source: `run` alone plays a script, and `lift` alone lifts one
abbrev pub order_by : List ℕ → Option Order
order_by word = if bytes_eq word (codes "run") then Some order.Play else if bytes_eq word (codes "lift") then Some order.Lift else None

abbrev pub order_of : List (List ℕ) → Option Order
order_of (word ∷ []) = order_by word
order_of _ = None

-- the last lines that are printed where no script is played
abbrev pub play_usage_line : List ℕ
play_usage_line = line_text Usage

abbrev pub play_long_line : List ℕ
play_long_line = line_text FaultLong

-- the source and the sink, before and after
pub record PlayEnds : Type 0 where
  pub source : End
  pub source_after : End
  pub sink : End
  pub sink_after : End

-- the words are those of no command, neither one that reads the source nor one that makes a run, and the source is as it was
pub record IsUnread (words : List (List ℕ)) (ends : PlayEnds) : Type 0 where
  pub no_command : order_of words ≡ None
  pub no_run : (ask : Ask) → IsInRange ask → words ≢ spelled ask
  pub unread : ends.source_after ≡ ends.source

-- the source gave more than a script has
pub record ReadsTooMuch (words : List (List ℕ)) (ends : PlayEnds) : Type 0 where
  pub command : IsSome (order_of words)
  pub bytes : List ℕ
  pub read : GivesTooMuch SCRIPT_MAX ends.source ends.source_after bytes

-- the source gave no more than one byte above the longest script, and nothing was written
pub record ReadsAtMost (words : List (List ℕ)) (ends : PlayEnds) : Type 0 where
  pub command : IsSome (order_of words)
  pub read : GivesUpTo (SCRIPT_MAX + 1) ends.source ends.source_after
  pub unwritten : ends.sink_after ≡ ends.sink

-- the source gave a script, and its play ended so
pub record PlaysScript (words : List (List ℕ)) (rack : List SpareShown) (ends : PlayEnds) (how : PlayStatus) : Type 0 where
  pub command : order_of words ≡ Some order.Play
  pub bytes : List ℕ
  pub read : GivesAll SCRIPT_MAX ends.source ends.source_after bytes
  pub ended : EndsScript bytes rack ends.sink ends.sink_after how

-- the line of the fault of a lift
abbrev pub form_line : ℕ → List ℕ
form_line line = last_line (Some (record { line = line; cause = cause.Form }))

-- How the lift of a script ends: where no line is outside the grammar of version 1 all of it was lifted; else what stands in front of
-- the first that is, and the line of the fault were written. Where memory ran out, nothing was written.
abbrev pub EndsLifted : List ℕ → End → End → PlayStatus → Type 0
EndsLifted script_text before after status.Done = (strange_line script_text ≡ None) × Appends before.bytes after.bytes (lifted script_text)
EndsLifted script_text before after status.Fault =
    (line : ℕ) × (strange_line script_text ≡ Some line) × Appends before.bytes after.bytes (lifted script_text ++ form_line line)
EndsLifted script_text before after status.SinkFailed =
    StopsIn before after (lifted script_text)
    ⊎ ((line : ℕ) × (strange_line script_text ≡ Some line) × StopsIn before after (lifted script_text ++ form_line line))
EndsLifted script_text before after status.NoMemory = after ≡ before
EndsLifted script_text before after _ = ⊥

-- the source gave a script, and its lift ended so
pub record LiftsScript (words : List (List ℕ)) (ends : PlayEnds) (how : PlayStatus) : Type 0 where
  pub command : order_of words ≡ Some order.Lift
  pub bytes : List ℕ
  pub read : GivesAll SCRIPT_MAX ends.source ends.source_after bytes
  pub ended : EndsLifted bytes ends.sink ends.sink_after how

-- the words ask for a run, which ended so, and the source is as it was
pub record MakesRun (words : List (List ℕ)) (rack : List SpareShown) (ends : PlayEnds) (how : PlayStatus) : Type 0 where
  pub ask : Ask
  pub in_range : IsInRange ask
  pub words_are : words ≡ spelled ask
  pub unread : ends.source_after ≡ ends.source
  pub ended : PlayEndsRun ask rack ends.sink ends.sink_after how

-- how a play ends, a lift, or a run
abbrev pub IsOutcome : List (List ℕ) → List SpareShown → PlayEnds → PlayStatus → Type 0
-- the script was played to its end: its text and `done` were written; or it was lifted; or the run was made whole, and its text was
-- written
IsOutcome words rack ends status.Done = PlaysScript words rack ends status.Done ⊎ LiftsScript words ends status.Done ⊎ MakesRun words rack ends status.Done
-- the words aren't a command: the source is as it was, and the usage line was written
IsOutcome words rack ends status.Usage = IsUnread words ends × Appends ends.sink.bytes ends.sink_after.bytes play_usage_line
-- the source failed: nothing was written
IsOutcome words rack ends status.SourceFailed = ReadsAtMost words ends × Rose ends.source.faults ends.source_after.faults
-- the script was played or lifted to its first fault: the text of what stands before it, and the line of the fault, were written; or a
-- step of the run was refused, and the line of the fault was written behind the first line
IsOutcome words rack ends status.Fault = PlaysScript words rack ends status.Fault ⊎ LiftsScript words ends status.Fault ⊎ MakesRun words rack ends status.Fault
-- the sink failed: a front of the usage line was written, of the line of a script that is too long, or of what the play, the lift or
-- the run is due
IsOutcome words rack ends status.SinkFailed =
    (IsUnread words ends × StopsIn ends.sink ends.sink_after play_usage_line)
    ⊎ (ReadsTooMuch words ends × StopsIn ends.sink ends.sink_after play_long_line)
    ⊎ PlaysScript words rack ends status.SinkFailed
    ⊎ LiftsScript words ends status.SinkFailed
    ⊎ MakesRun words rack ends status.SinkFailed
-- memory ran out: as the source was read, with nothing written; or in the play or the lift; or in the run, behind its first line
IsOutcome words rack ends status.NoMemory =
    ReadsAtMost words ends ⊎ PlaysScript words rack ends status.NoMemory ⊎ LiftsScript words ends status.NoMemory ⊎ MakesRun words rack ends status.NoMemory
-- the source has more bytes than a script may have: the line that says so was written
IsOutcome words rack ends status.TooLong = ReadsTooMuch words ends × Appends ends.sink.bytes ends.sink_after.bytes play_long_line

-- the program ends with the number of its status
abbrev pub PlayEndsSo : List (List ℕ) → List SpareShown → PlayEnds → ℕ → Type 0
PlayEndsSo words rack ends number = (how : PlayStatus) × (number ≡ play_status_number how) × IsOutcome words rack ends how
