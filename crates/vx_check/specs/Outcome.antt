-- To be believed.
-- How a check ends: for each status, what was read, what was written, and why.
use Rattle.std.specs.Prelude.{◌≡◌, ◌≢◌, ℕ, ◌+◌, List, [], ◌++◌, take, codes, decimal, ◌⊎◌}
use Rattle.std.specs.Io.KnownBytes.{Appends}
use Rattle.vx_io_traits.specs.Faults.{Rose}
use Rattle.vx_text.specs.Ends.{End}
use Rattle.vx_text.specs.Reading.{GivesAll, GivesTooMuch, GivesUpTo}
use Rattle.vx_text.specs.Writing.{StopsIn}
use Rattle.vx_rules.specs.Legal.{IsLegal}
use Rattle.vx_flow.specs.Event.{Event}
use Rattle.vx_flow.specs.Linearization.{linearization}
use Rattle.vx_history.specs.declared.cause.Cause.{Cause}
use Rattle.vx_history.specs.declared.cause.Cause.TheVariants as cause
use Rattle.vx_check.specs.declared.run.CheckStatus.{CheckStatus}
use Rattle.vx_check.specs.declared.run.CheckStatus.TheVariants as status
use Rattle.vx_history.specs.CheckState.{CheckState, abort_port}
use Rattle.vx_history.specs.History.{Lawful, Faulty, Through, Stops, TraceTells, TraceBegins}

-- the number of a status
abbrev pub check_status_number : CheckStatus → ℕ
check_status_number status.Legal = 0
check_status_number status.Usage = 1
check_status_number status.SourceFailed = 2
check_status_number status.Spoiled = 3
check_status_number status.SinkFailed = 4
check_status_number status.NoMemory = 5
check_status_number status.TooLong = 6

-- ---- what is printed

-- the name of a cause
abbrev pub cause_name : Cause → List ℕ
cause_name cause.Form = codes "form"
cause_name cause.Moment = codes "moment"
cause_name cause.Place = codes "place"
cause_name cause.Reply = codes "reply"
cause_name cause.Entry = codes "entry"

abbrev pub legal_line : List ℕ
legal_line = codes "legal\n"

abbrev pub spoiled_line : ℕ → Cause → List ℕ
spoiled_line line why = codes "line " ++ decimal line ++ codes " " ++ cause_name why ++ codes "\n"

abbrev pub check_long_line : List ℕ
check_long_line = codes "long\n"

abbrev pub check_usage_line : List ℕ
check_usage_line = codes "usage: vxcheck\n"

-- ---- what was read, where the longest trace has `most` bytes

-- the source and the sink, before and after
pub record CheckEnds : Type 0 where
  pub source : End
  pub source_after : End
  pub sink : End
  pub sink_after : End

-- there are words, and the source is as it was
pub record IsUnread (words : List (List ℕ)) (ends : CheckEnds) : Type 0 where
  pub some : words ≢ []
  pub unread : ends.source_after ≡ ends.source

-- the whole source was read, whose bytes tell a history; and that is legal
pub record ReadsLegal (most : ℕ) (words : List (List ℕ)) (ends : CheckEnds) : Type 0 where
  pub no_words : words ≡ []
  pub bytes : List ℕ
  pub read : GivesAll most ends.source ends.source_after bytes
  pub events : List Event
  pub tells : TraceTells bytes (Lawful events)
  pub legal : IsLegal abort_port (linearization events)

-- the whole source was read, and this is its first line that has a cause against it
pub record ReadsSpoiled (most : ℕ) (ends : CheckEnds) (line : ℕ) (why : Cause) : Type 0 where
  pub bytes : List ℕ
  pub read : GivesAll most ends.source ends.source_after bytes
  pub tells : TraceTells bytes (Faulty line why)

-- one byte more than a trace may have was read, and this is the first line that has a cause against it among those that end, with their
-- LF, before that byte
pub record ReadsFront (most : ℕ) (ends : CheckEnds) (line : ℕ) (why : Cause) : Type 0 where
  pub bytes : List ℕ
  pub read : GivesTooMuch most ends.source ends.source_after bytes
  pub begins : TraceBegins (take most bytes) (Stops line why)

pub record Spoils (most : ℕ) (words : List (List ℕ)) (ends : CheckEnds) (line : ℕ) (why : Cause) : Type 0 where
  pub no_words : words ≡ []
  pub reads : ReadsSpoiled most ends line why ⊎ ReadsFront most ends line why

-- one byte more than a trace may have was read, and none of those lines has a cause against it
pub record ReadsTooMuch (most : ℕ) (words : List (List ℕ)) (ends : CheckEnds) : Type 0 where
  pub no_words : words ≡ []
  pub bytes : List ℕ
  pub read : GivesTooMuch most ends.source ends.source_after bytes
  pub events : List Event
  pub after : CheckState
  pub begins : TraceBegins (take most bytes) (Through events after)

-- no more than one byte above the longest trace was read, and nothing was written
pub record ReadsAtMost (most : ℕ) (words : List (List ℕ)) (ends : CheckEnds) : Type 0 where
  pub no_words : words ≡ []
  pub read : GivesUpTo (most + 1) ends.source ends.source_after
  pub unwritten : ends.sink_after ≡ ends.sink

-- ---- how a check ends

abbrev pub Wrote : CheckEnds → List ℕ → Type 0
Wrote ends line = Appends ends.sink.bytes ends.sink_after.bytes line

abbrev pub StopsWriting : CheckEnds → List ℕ → Type 0
StopsWriting ends line = StopsIn ends.sink ends.sink_after line

abbrev pub IsOutcome : ℕ → List (List ℕ) → CheckEnds → CheckStatus → Type 0
-- the trace tells a history, which is legal
IsOutcome most words ends status.Legal = ReadsLegal most words ends × Wrote ends legal_line
-- there are words: the source is as it was, and the usage line was written
IsOutcome most words ends status.Usage = IsUnread words ends × Wrote ends check_usage_line
-- the source failed: nothing was written
IsOutcome most words ends status.SourceFailed = ReadsAtMost most words ends × Rose ends.source.faults ends.source_after.faults
-- the trace has a line with a cause against it, the first such, which was named
IsOutcome most words ends status.Spoiled = (line : ℕ) × (why : Cause) × Spoils most words ends line why × Wrote ends (spoiled_line line why)
-- the sink failed in the line that was due
IsOutcome most words ends status.SinkFailed =
    (ReadsLegal most words ends × StopsWriting ends legal_line)
    ⊎ (IsUnread words ends × StopsWriting ends check_usage_line)
    ⊎ ((line : ℕ) × (why : Cause) × Spoils most words ends line why × StopsWriting ends (spoiled_line line why))
    ⊎ (ReadsTooMuch most words ends × StopsWriting ends check_long_line)
-- memory ran out: nothing was written
IsOutcome most words ends status.NoMemory = ReadsAtMost most words ends
-- more bytes came than a trace may have before a cause was found
IsOutcome most words ends status.TooLong = ReadsTooMuch most words ends × Wrote ends check_long_line

-- the check ends with the number of its status
abbrev pub CheckEndsSo : ℕ → List (List ℕ) → CheckEnds → ℕ → Type 0
CheckEndsSo most words ends number = (how : CheckStatus) × (number ≡ check_status_number how) × IsOutcome most words ends how
