-- To be believed.
-- One step of a run, and the lines of the output that every version has.
use Rattle.std.specs.Prelude.{ℕ, List, [], ◌∷◌, ◌++◌, Option, Some, None}
use Rattle.std.specs.List.{flat_map}
use Rattle.vx_488.specs.declared.transfers.Transfer.{Transfer}
use Rattle.vx_script.specs.declared.Cause.{Cause}
use Rattle.vx_script.specs.Command.{Command}
use Rattle.vx_script.specs.Cause.{cause_word}
use Rattle.vx_trace.specs.Output.{Output, Bus, Done, FaultLine}
use Rattle.vx_trace.specs.Text.{line_text}
use Rattle.vx_calls.specs.declared.codes.ErrorCode.{ErrorCode}
use Rattle.vx_flow.specs.Event.{Event, Answer, Move}
use Rattle.vx_exchange.specs.Doing.{reply_error}

-- a step that was taken: its command; its moment in milliseconds, the greatest that was told up to it; the message of the record
-- that it brought to its end, without marks, where it brought one; the events that it made in the gateway; and the line that there
-- is to tell of it, or none
pub record Item : Type 0 where
  pub command : Command
  pub moment : ℕ
  pub message : Option (List ℕ)
  pub group : List Event
  pub note : Option Output

-- the line of a turn that moved: the transfers that it made, in order
abbrev pub bus_lines : Event → List Output
bus_lines (Move conn moves) = Bus conn moves ∷ []
bus_lines _ = []

abbrev pub noted : Option Output → List Output
noted None = []
noted (Some line) = line ∷ []

-- the lines of an item: its transfers before what else there is to tell
abbrev pub item_lines : Item → List Output
item_lines item = flat_map bus_lines item.group ++ noted item.note

-- the lines of these steps
abbrev pub outputs : List Item → List Output
outputs items = flat_map item_lines items

-- the events that these steps made
abbrev pub events : List Item → List Event
events items = flat_map (λ item. item.group) items

-- the error of an answer to a call
abbrev pub answer_errors : Event → List ErrorCode
answer_errors (Answer conn now failed dialed level told) = reply_error told ∷ []
answer_errors _ = []

abbrev pub errors_of : Option ErrorCode → List ErrorCode
errors_of None = []
errors_of (Some error) = error ∷ []

-- the transfers of a turn's moves, and those that a line shows
abbrev pub moved : Event → List Transfer
moved (Move conn moves) = moves
moved _ = []

abbrev pub shown_moves : Output → List Transfer
shown_moves (Bus conn moves) = moves
shown_moves _ = []

-- a line at which a run ends, and why
pub record Fault : Type 0 where
  pub line : ℕ
  pub cause : Cause

-- the last line of a run
abbrev pub last_output : Option Fault → Output
last_output None = Done
last_output (Some fault) = FaultLine fault.line (cause_word fault.cause)

abbrev pub last_line : Option Fault → List ℕ
last_line fault = line_text (last_output fault)
