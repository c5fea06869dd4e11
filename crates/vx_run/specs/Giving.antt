-- To be believed.
-- What each step of a run makes in the gateway, whatever hangs on the bus: the events, and the line that there is to tell.
use Rattle.std.specs.Prelude.{◌≡◌, ℕ, Bool, true, false, List, [], ◌∷◌, ◌++◌, Option, Some, None}
use Rattle.vx_calls.specs.declared.calls.Role.{Role}
use Rattle.vx_calls.specs.declared.codes.ErrorCode.{ErrorCode}
use Rattle.vx_calls.specs.Call.{Call}
use Rattle.vx_calls.specs.Reply as reply
use Rattle.vx_488.specs.declared.transfers.Transfer.{Transfer}
use Rattle.vx_script.specs.Command.{Command, Up, In, Down, At, Poll, Sample, Take, Dial, Inst, Plug, Pull, Set, Fail}
use Rattle.vx_trace.specs.Output.{Output, Out, IrqClosed, GoneDown, GoneJunk, GoneLong}
use Rattle.vx_record.specs.Fragments.{record_of}
use Rattle.vx_exchange.specs.SrqState.{Channel, Given, channel_at}
use Rattle.vx_exchange.specs.Meaning.{Meaning, Junk, Asks, Aborts, meaning, reply_record}
use Rattle.vx_exchange.specs.Meaning as meant
use Rattle.vx_rules.specs.Lists.{along}
use Rattle.vx_rules.specs.State.{role_at}
use Rattle.vx_flow.specs.Event.{Event}
use Rattle.vx_flow.specs.Event as event
use Rattle.vx_flow.specs.InterleavedState.{InterleavedState}
use Rattle.vx_flow.specs.InterleavedStep.{interleaved_step}
use Rattle.vx_flow.specs.Poll.{Ending, Polls, run_events, end_events}
use Rattle.vx_run.specs.Notes.{poll_line, take_line}
use Rattle.vx_run.specs.Position.{Position}
use Rattle.vx_run.specs.Stream.{Brought, NoEnd, Whole, TooLong, After, brought}

-- these events happen in the gateway, and this is told
pub record Gives (before : InterleavedState) (given : List Event) (line : Option Output) (group : List Event) (note : Option Output) (after : InterleavedState) : Type 0 where
  pub events : group ≡ given
  pub told : note ≡ line
  pub happens : along interleaved_step (Some before) given ≡ Some after

-- a connection's call, of this xid, is polled at this moment: with some transfers and some end, as the bus has it
pub record PollGives (before : InterleavedState) (conn now xid : ℕ) (group : List Event) (note : Option Output) (after : InterleavedState) : Type 0 where
  pub moves : List Transfer
  pub ending : Ending
  pub polls : Polls before conn now moves ending after
  pub events : group ≡ run_events before conn now moves ++ end_events conn now ending
  pub told : note ≡ Some (poll_line conn xid ending)

-- a call comes at this moment, and is polled
pub record CallGives (before : InterleavedState) (conn now xid : ℕ) (asked : Call) (group : List Event) (note : Option Output) (after : InterleavedState) : Type 0 where
  pub come : InterleavedState
  pub comes : interleaved_step before (event.Arrive conn asked now) ≡ Some come
  pub rest : List Event
  pub polled : PollGives come conn now xid rest note after
  pub events : group ≡ event.Arrive conn asked now ∷ rest

-- what a message makes: junk ends the connection; an answer without the core makes no event; a call comes; an abort is answered
abbrev pub MessageGives : InterleavedState → ℕ → ℕ → Meaning → List Event → Option Output → InterleavedState → Type 0
MessageGives f conn now Junk group shown after = Gives f (event.Down conn ∷ []) (Some (GoneJunk conn)) group shown after
MessageGives f conn now (meant.Answered message) group shown after = Gives f [] (Some (Out conn (record_of message))) group shown after
MessageGives f conn now (Asks xid asked) group shown after = CallGives f conn now xid asked group shown after
MessageGives f conn now (Aborts xid lid) group shown after =
    (error : ErrorCode) × Gives f (event.Abort conn lid error ∷ []) (Some (Out conn (reply_record xid (reply.Error error)))) group shown after

-- what a message makes on the connection, by its role
abbrev pub RecordGives : InterleavedState → ℕ → ℕ → List ℕ → Option Role → List Event → Option Output → InterleavedState → Type 0
RecordGives f conn now message None group shown after = ⊥
RecordGives f conn now message (Some r) group shown after = MessageGives f conn now (meaning message r) group shown after

-- what a piece of a stream makes
abbrev pub PieceGives : InterleavedState → ℕ → ℕ → Brought → List Event → Option Output → InterleavedState → Type 0
PieceGives f conn now NoEnd group shown after = Gives f [] None group shown after
PieceGives f conn now (Whole message) group shown after = RecordGives f conn now message (role_at f.state.tables conn) group shown after
PieceGives f conn now TooLong group shown after = Gives f (event.Down conn ∷ []) (Some (GoneLong conn)) group shown after
PieceGives f conn now After group shown after = ⊥

-- what a take makes, by the channel that the connection has
abbrev pub ChannelGives : InterleavedState → ℕ → Option Channel → List Event → Option Output → InterleavedState → Type 0
ChannelGives f conn None group shown after = Gives f [] (Some (IrqClosed conn)) group shown after
ChannelGives f conn (Some c) group shown after = (given : Given) × Gives f (event.Take conn c.number given ∷ []) (Some (take_line conn given)) group shown after

-- what a command makes, with any levels of the bus; what hangs on it makes no event
abbrev pub StepGives : Position → Command → List Event → Option Output → InterleavedState → Type 0
StepGives s (Up conn r) group shown after = Gives s.interleaved (event.Up conn r ∷ []) None group shown after
StepGives s (In conn bytes) group shown after = PieceGives s.interleaved conn s.moment (brought (s.streams conn) bytes) group shown after
StepGives s (Down conn) group shown after = Gives s.interleaved (event.Down conn ∷ []) (Some (GoneDown conn)) group shown after
StepGives s (Poll conn) group shown after = PollGives s.interleaved conn s.moment (s.xids conn) group shown after
StepGives s Sample group shown after = (level : Bool) × Gives s.interleaved (event.Sample s.moment level ∷ []) None group shown after
StepGives s (Take conn) group shown after = ChannelGives s.interleaved conn (channel_at s.interleaved.state.tables.srq_state conn) group shown after
StepGives s (Dial conn up) group shown after =
    (error : ErrorCode)
    × Gives s.interleaved (event.Answer conn s.moment false (Some up) false (reply.Error error) ∷ []) (Some (Out conn (reply_record (s.xids conn) (reply.Error error)))) group shown after
StepGives s (At moment) group shown after = Gives s.interleaved [] None group shown after
StepGives s (Inst p secondary text) group shown after = Gives s.interleaved [] None group shown after
StepGives s (Plug p secondary name) group shown after = Gives s.interleaved [] None group shown after
StepGives s (Pull p secondary) group shown after = Gives s.interleaved [] None group shown after
StepGives s (Set p secondary b) group shown after = Gives s.interleaved [] None group shown after
StepGives s (Fail n) group shown after = Gives s.interleaved [] None group shown after
