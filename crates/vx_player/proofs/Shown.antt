-- The transfers that the lines of a play show are those of the turns' moves.
use Rattle.std.proofs.Common.{◌≡◌, ◌≤◌, ◌+◌, ℕ, true, false, arith, List, [], ◌∷◌, ◌++◌, Option, Some, None, refl, sym, ap, ◌∙◌}
use Rattle.std.specs.List.{flat_map}
use Rattle.std.proofs.lemmas.List.{append-nil}
use Rattle.std.proofs.lemmas.Grind.{flat_map-append}
use Rattle.vx_calls.specs.declared.calls.Role.{Role}
use Rattle.vx_script.specs.Command.{Command, Up, In, Down, At, Poll, Sample, Take, Dial, Inst, Plug, Pull, Set, Fail}
use Rattle.vx_trace.specs.Output.{Output}
use Rattle.vx_trace.specs.Text.{IsWhole, is_first, text_room}
use Rattle.vx_player.specs.declared.printer.TheConstants.{STAMP_ROOM, NOTE_ROOM}
use Rattle.vx_exchange.specs.SrqState.{Channel, Given, Front, channel_at}
use Rattle.vx_rules.specs.State.{role_at}
use Rattle.vx_flow.specs.Event.{Event}
use Rattle.vx_flow.specs.Event as event
use Rattle.vx_flow.specs.Poll.{Ending, Waited}
use Rattle.vx_flow.specs.declared.progress.Why.{Why}
use Rattle.vx_flow.specs.declared.progress.Why.TheVariants as why
use Rattle.vx_player.specs.Gateway.{Gateway}
use Rattle.vx_setup.specs.Script.{Step}
use Rattle.vx_exchange.specs.Meaning.{Meaning, Junk, Asks, Aborts, meaning}
use Rattle.vx_exchange.specs.Meaning as meant
use Rattle.vx_run.specs.Stream.{Brought, NoEnd, Whole, TooLong, After, brought}
use Rattle.vx_run.specs.Item.{Item, bus_lines, noted, item_lines, outputs, events, moved, shown_moves}
use Rattle.vx_player.specs.Stage.{Stage, tables_of}
use Rattle.vx_player.specs.Making.{MessageMakes, RecordMakes, PieceMakes, ChannelMakes, Makes}
use Rattle.vx_run.specs.Notes.{wait_line, is_wait, poll_line, take_line}
use Rattle.vx_player.specs.Play.{Plays}
use Rattle.vx_player.specs.Counting.{is_interrupt}

-- a note shows no transfers
abbrev pub IsPlain : Option Output → Type 0
IsPlain output = flat_map shown_moves (noted output) ≡ []

-- so does one of a line that shows none
plain-line : (output : Option Output) (line : Output) → output ≡ Some line → shown_moves line ≡ [] → IsPlain output
plain-line output line told none = ap (λ n. flat_map shown_moves (noted n)) told ∙ ap (λ moves. moves ++ []) none

-- and none at all
plain-none : (output : Option Output) → output ≡ None → IsPlain output
plain-none output none = ap (λ n. flat_map shown_moves (noted n)) none

-- the line of a call that waits shows none, is a wait and no interrupt, and is short
pub record Waits (line : Output) : Type 0 where
  pub moves : shown_moves line ≡ []
  pub wait : is_wait line ≡ true
  pub no_interrupt : is_interrupt line ≡ false
  pub whole : IsWhole line
  pub first : is_first line ≡ true
  pub fits : STAMP_ROOM + text_room line ≤ NOTE_ROOM

pub waits : (conn : ℕ) (why : Why) → Waits (wait_line conn why)
waits conn why.Held = record { moves = refl; wait = refl; no_interrupt = refl; whole = tt; first = refl; fits = omega arith }
waits conn _ = record { moves = refl; wait = refl; no_interrupt = refl; whole = tt; first = refl; fits = omega arith }

-- the line of a poll
poll-plain : (conn xid : ℕ) (ending : Ending) → shown_moves (poll_line conn xid ending) ≡ []
poll-plain conn xid (Waited why) = (waits conn why).moves
poll-plain conn xid _ = refl

-- the line of a take
take-plain : (conn : ℕ) (given : Given) → shown_moves (take_line conn given) ≡ []
take-plain conn (Front srq) = refl
take-plain conn _ = refl

-- what a message tells
message-plain : (g : Gateway) (conn now : ℕ) (m : Meaning) (group : List Event) (output : Option Output) (after : Gateway)
    → MessageMakes g conn now m group output after → IsPlain output
message-plain g conn now Junk group output after h = plain-line output _ h.told refl
message-plain g conn now (meant.Answered message) group output after h = plain-line output _ h.1 refl
message-plain g conn now (Asks xid asked) group output after h = plain-line output _ h.polled.told (poll-plain conn xid h.polled.ending)
message-plain g conn now (Aborts xid lid) group output after h = plain-line output _ h.told refl

-- what a record tells
record-plain : (g : Gateway) (conn now : ℕ) (message : List ℕ) (r : Option Role) (group : List Event) (output : Option Output) (after : Gateway)
    → RecordMakes g conn now message r group output after → IsPlain output
record-plain g conn now message None group output after h = absurd h
record-plain g conn now message (Some r) group output after h = message-plain g conn now (meaning message r) group output after h

-- what a piece tells
piece-plain : (g : Gateway) (conn now : ℕ) (b : Brought) (group : List Event) (output : Option Output) (after : Gateway)
    → PieceMakes g conn now b group output after → IsPlain output
piece-plain g conn now NoEnd group output after h = plain-none output h.1
piece-plain g conn now (Whole message) group output after h =
    record-plain g conn now message (role_at g.interleaved.state.tables conn) group output after h
piece-plain g conn now TooLong group output after h = plain-line output _ h.told refl
piece-plain g conn now After group output after h = absurd h

-- what a take tells
channel-plain : (g : Gateway) (conn : ℕ) (c : Option Channel) (group : List Event) (output : Option Output) (after : Gateway)
    → ChannelMakes g conn c group output after → IsPlain output
channel-plain g conn None group output after h = plain-line output _ h.1 refl
channel-plain g conn (Some c) group output after h = plain-line output _ h.told (take-plain conn h.given)

-- so shows none what a command tells beside its transfers
pub makes-plain : (s : Stage) (command : Command) (group : List Event) (output : Option Output) (after : Gateway) → Makes s command group output after → IsPlain output
makes-plain s (Up conn r) group output after h = plain-none output h.2
makes-plain s (In conn bytes) group output after h = piece-plain s.gateway conn s.moment (brought (s.streams conn) bytes) group output after h
makes-plain s (Down conn) group output after h = plain-line output _ h.told refl
makes-plain s (At moment) group output after h = plain-none output h.1
makes-plain s (Poll conn) group output after h = plain-line output _ h.told (poll-plain conn (s.xids conn) h.ending)
makes-plain s Sample group output after h = plain-none output h.told
makes-plain s (Take conn) group output after h = channel-plain s.gateway conn (channel_at (tables_of s).srq_state conn) group output after h
makes-plain s (Dial conn up) group output after h = plain-line output _ h.told refl
makes-plain s (Inst p secondary text) group output after h = plain-none output h.told
makes-plain s (Plug p secondary name) group output after h = plain-none output h.told
makes-plain s (Pull p secondary) group output after h = plain-none output h.told
makes-plain s (Set p secondary b) group output after h = plain-none output h.told
makes-plain s (Fail n) group output after h = plain-none output h.told

-- the lines of events show the transfers of their moves
lines-moves : (group : List Event) → flat_map shown_moves (flat_map bus_lines group) ≡ flat_map moved group
lines-moves [] = refl
lines-moves (event.Move conn moves ∷ group) = ap (λ rest. moves ++ rest) (lines-moves group)
lines-moves (e ∷ group) = lines-moves group

-- and so do those of an item
pub item-shown : (item : Item) → IsPlain item.note → flat_map shown_moves (item_lines item) ≡ flat_map moved item.group
item-shown item plain =
    flat_map-append shown_moves (flat_map bus_lines item.group) (noted item.note)
    ∙ ap (λ rest. flat_map shown_moves (flat_map bus_lines item.group) ++ rest) plain
    ∙ append-nil (flat_map shown_moves (flat_map bus_lines item.group)) ∙ lines-moves item.group

-- the lines of a play show the transfers of the turns' moves, in order
pub lines-shown : (before : Stage) (steps : List Step) (items : List Item) (after : Stage) → Plays before steps items after
    → flat_map shown_moves (outputs items) ≡ flat_map moved (events items)
lines-shown before [] [] after plays = refl
lines-shown before (step ∷ steps) [] after plays = absurd plays
lines-shown before [] (item ∷ items) after plays = absurd plays
lines-shown before (step ∷ steps) (item ∷ items) after plays =
    let takes = plays.2 in
    flat_map-append shown_moves (item_lines item) (outputs items)
    ∙ ap (λ front. front ++ flat_map shown_moves (outputs items))
    (item-shown item (makes-plain before item.command item.group item.note plays.1.gateway takes.makes))
    ∙ ap (λ rest. flat_map moved item.group ++ rest) (lines-shown plays.1 steps items after plays.3)
    ∙ sym (flat_map-append moved item.group (events items))
