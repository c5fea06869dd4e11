-- To be believed.
-- The text of a run, in both versions of the output.
use Rattle.std.specs.Prelude.{ℕ, ◌<◌, ◌^◌, List, [], ◌∷◌, ◌++◌, Option, Some, None}
use Rattle.std.specs.List.{flat_map, All}
use Rattle.vx_script.specs.Command.{Command, In}
use Rattle.vx_script.specs.declared.Version.{Version}
use Rattle.vx_script.specs.declared.Version.TheVariants as version
use Rattle.vx_trace.specs.Output.{Output, TraceHead, Up, Call, Begin, Bus, DialDone, Srq}
use Rattle.vx_trace.specs.Text.{HasRanges, line_text, line_text2}
use Rattle.vx_flow.specs.Event.{Event}
use Rattle.vx_flow.specs.Event as event
use Rattle.vx_run.specs.Item.{Item, item_lines, noted}

-- the line that version 2 has of an event: a connection comes up, a turn begins and makes transfers, a dial was made, and the SRQ line
-- was looked at
abbrev pub event_lines : Event → List Output
event_lines (event.Up conn role) = Up conn role ∷ []
event_lines (event.Begin conn now) = Begin conn ∷ []
event_lines (event.Move conn moves) = Bus conn moves ∷ []
event_lines (event.Answer conn now failed (Some up) level told) = DialDone conn up ∷ []
event_lines (event.Sample now level) = Srq level ∷ []
event_lines _ = []

-- the line of the message that a piece of a connection's stream brought
abbrev pub message_lines : Command → Option (List ℕ) → List Output
message_lines (In conn bytes) (Some message) = Call conn message ∷ []
message_lines _ _ = []

-- the lines of an item in version 2: the message that came, what happened in the gateway, and what else there is to tell
abbrev pub item_lines2 : Item → List Output
item_lines2 item = message_lines item.command item.message ++ flat_map event_lines item.group ++ noted item.note

-- the text of an item; in version 2 each line has the item's moment in front
abbrev pub item_text : Version → Item → List ℕ
item_text version.One item = flat_map line_text (item_lines item)
item_text version.Two item = flat_map (line_text2 item.moment) (item_lines2 item)

-- an item can be printed in version 2: its moment fits 64 bits, and the numbers and bytes of its lines are such as lines hold
pub record IsPrintable (item : Item) : Type 0 where
  pub moment : item.moment < 2 ^ 64
  pub lines : All HasRanges (item_lines2 item)

-- the line that a text of version 2 begins with
abbrev pub head_text : Version → List ℕ
head_text version.One = []
head_text version.Two = line_text TraceHead

-- the text of a run's items
abbrev pub text : Version → List Item → List ℕ
text v items = head_text v ++ flat_map (item_text v) items
