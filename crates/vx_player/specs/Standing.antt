-- A player that stands at a stage of a play, and what a step leaves of it.
use Rattle.std.specs.Prelude.{◌≡◌, ◌≤◌, ◌<◌, ℕ, Bool, true, List, [], ◌∷◌, ◌++◌, length, take, Option, Some, None, IfSome, IsSome}
use Rattle.std.specs.List.{flat_map}
use Rattle.vx_calls.specs.declared.calls.Role.{Role}
use Rattle.vx_calls.specs.declared.limits.TheConstants.{RECORD_MAX}
use Rattle.vx_488.specs.declared.transfers.Transfer.{Transfer}
use Rattle.vx_calls.specs.declared.limits.TheConstants.{SLICE_MAX}
use Rattle.vx_record.specs.Buffer.{fresh, fed}
use Rattle.vx_record.specs.declared.Feed.TheVariants.{More}
use Rattle.vx_script.specs.Command.{Command}
use Rattle.vx_trace.specs.Output.{Output, Up, Call, Begin, DialDone, Srq, Bus, Out, Irq, IrqNone, IrqClosed, WaitDial, GoneDown, GoneJunk, GoneLong}
use Rattle.vx_rules.specs.State.{role_at}
use Rattle.vx_player.specs.declared.pieces.Incoming.{Incoming}
use Rattle.vx_player.specs.declared.note.Intake.{Intake}
use Rattle.vx_player.specs.declared.note.Intake.TheVariants as intake
use Rattle.vx_player.specs.declared.note.Gone.{Gone}
use Rattle.vx_player.specs.declared.note.Gone.TheVariants as gone
use Rattle.vx_player.specs.declared.note.Note.{Note}
use Rattle.vx_player.specs.declared.note.Note.TheVariants as note
use Rattle.vx_player.specs.declared.note.StepMade.{StepMade}
use Rattle.vx_player.specs.Gateway.{gateway_of}
use Rattle.vx_run.specs.Item.{Item, item_lines, noted, answer_errors, errors_of}
use Rattle.vx_run.specs.RunText.{item_lines2}
use Rattle.vx_player.specs.Stage.{Stage, tables_of}
use Rattle.vx_run.specs.Notes.{wait_line}
use Rattle.vx_player.specs.Play.{PlayerTakes}
use Rattle.vx_player.specs.PlayerState.{PlayerState, incoming_at}

-- what is kept of a connection that lives: its buffer holds the stream since its last whole record and waits for more of it,
-- and the last call that it kept has this xid
pub record HoldsStream (kept : Incoming) (stream : List ℕ) (xid : ℕ) : Type 0 where
  pub held : kept.buffer ≡ fed (fresh RECORD_MAX) stream
  pub waits : kept.buffer.state ≡ More
  pub called : kept.xid ≡ xid

abbrev pub PlayerHolds : Option Role → Option Incoming → List ℕ → ℕ → Type 0
PlayerHolds None kept stream xid = kept ≡ None
PlayerHolds (Some role) None stream xid = ⊥
PlayerHolds (Some role) (Some kept) stream xid = HoldsStream kept stream xid

-- the player is at the stage
pub record PlayerStands (player : PlayerState) (stage : Stage) : Type 0 where
  pub gateway : gateway_of player.core ≡ stage.gateway
  pub late : player.core.interleaved.state.moment ≤ player.moment
  pub moment : player.moment ≡ stage.moment
  pub rack : player.rack ≡ stage.rack
  pub incoming : (conn : ℕ) → PlayerHolds (role_at (tables_of stage) conn) (incoming_at player.incoming conn) (stage.streams conn) (stage.xids conn)

-- a step may be taken: each buffer waits for more, of a record up to the limit, and the core was told no later moment
pub record IsPlayerReady (player : PlayerState) : Type 0 where
  pub waits : (conn : ℕ) → IfSome (incoming_at player.incoming conn) (λ kept. kept.buffer.state ≡ More)
  pub limits : (conn : ℕ) → IfSome (incoming_at player.incoming conn) (λ kept. kept.buffer.limit ≡ RECORD_MAX)
  pub late : player.core.interleaved.state.moment ≤ player.moment

abbrev pub gone_line : ℕ → Gone → Output
gone_line conn gone.Down = GoneDown conn
gone_line conn gone.Junk = GoneJunk conn
gone_line conn gone.Long = GoneLong conn

-- the line of a note, whose record stands at the front of the room
abbrev pub note_line : List ℕ → Note → Option Output
note_line room note.Nothing = None
note_line room (note.Replied conn len) = Some (Out conn (take len room))
note_line room (note.Waiting conn why) = Some (wait_line conn why)
note_line room (note.Dialing conn) = Some (WaitDial conn)
note_line room (note.Interrupt conn len) = Some (Irq conn (take len room))
note_line room (note.NoInterrupt conn) = Some (IrqNone conn)
note_line room (note.NoChannel conn) = Some (IrqClosed conn)
note_line room (note.Ended conn how) = Some (gone_line conn how)

-- the line of the transfers that a connection's poll made, where it made any
abbrev pub moves_lines : Option ℕ → List Transfer → List Output
moves_lines None moves = []
moves_lines (Some conn) [] = []
moves_lines (Some conn) (t ∷ ts) = Bus conn (t ∷ ts) ∷ []

-- the lines of a step that made this
abbrev pub made_lines : PlayerState → StepMade → List Output
made_lines player made = moves_lines made.polled player.core.bus.means.moves ++ noted (note_line player.reply made.note)

-- the line of what a step gave the gateway, where the last whole record has this message
abbrev pub intake_lines : List ℕ → Intake → List Output
intake_lines message intake.Nothing = []
intake_lines message (intake.Up conn role) = Up conn role ∷ []
intake_lines message (intake.Message conn) = Call conn message ∷ []
intake_lines message (intake.Dialed conn up) = DialDone conn up ∷ []
intake_lines message (intake.Sampled level) = Srq level ∷ []

-- the line of the turn that a connection's poll began, where it began one
abbrev pub begun_lines : Option ℕ → Bool → List Output
begun_lines (Some conn) true = Begin conn ∷ []
begun_lines _ _ = []

-- the lines of a step that made this, in version 2
abbrev pub made_lines2 : PlayerState → StepMade → List Output
made_lines2 player made =
    intake_lines player.message made.intake ++ begun_lines made.polled player.core.began
    ++ moves_lines made.polled player.core.bus.means.moves ++ noted (note_line player.reply made.note)

-- a record that a note tells of lies within the room, and isn't empty
abbrev pub NoteWithin : ℕ → Note → Type 0
NoteWithin room (note.Replied conn len) = (0 < len) × (len ≤ room)
NoteWithin room (note.Interrupt conn len) = (0 < len) × (len ≤ room)
NoteWithin room _ = Unit {0}

-- there is room for the lines of a step that made this
pub record HasLineRoom (player : PlayerState) (made : StepMade) : Type 0 where
  pub note : NoteWithin (length player.reply) made.note
  pub few : IsSome made.polled → length player.core.bus.means.moves ≤ SLICE_MAX

-- a command was taken and made this, with its lines in both versions, and with the error of the one answer to a call, where there is
-- one: the player stands at the next stage
pub record TakesTo (before : Stage) (command : Command) (made : StepMade) (player : PlayerState) : Type 0 where
  pub item : Item
  pub after : Stage
  pub command_is : item.command ≡ command
  pub lines_are : item_lines item ≡ made_lines player made
  pub lines2_are : item_lines2 item ≡ made_lines2 player made
  pub moment_is : item.moment ≡ player.moment
  pub answered_is : flat_map answer_errors item.group ≡ errors_of made.answered
  pub takes : PlayerTakes before item after
  pub stands : PlayerStands player after
