-- To be believed.
-- What each step of a play makes: the events in the gateway, the steps of its bus, and the line that there is to tell.
use Rattle.std.specs.Prelude.{◌≡◌, ℕ, Bool, true, false, List, [], ◌∷◌, ◌++◌, Option, Some, None}
use Rattle.vx_calls.specs.declared.calls.Role.{Role}
use Rattle.vx_calls.specs.declared.codes.ErrorCode.{ErrorCode}
use Rattle.vx_calls.specs.Call.{Call}
use Rattle.vx_calls.specs.Reply as reply
use Rattle.vx_script.specs.Command.{Command, Up, In, Down, At, Poll, Sample, Take, Dial, Inst, Plug, Pull, Set, Fail}
use Rattle.vx_trace.specs.Output.{Output, Out, IrqClosed, GoneDown, GoneJunk, GoneLong}
use Rattle.vx_488.specs.Steps.{Told, Cut}
use Rattle.vx_sim.specs.Bench.{some_asks, some_refuses}
use Rattle.vx_sim.specs.SimState.{SimState, Through}
use Rattle.vx_sim.specs.Attaching.{without_place, IsSet}
use Rattle.vx_exchange.specs.SrqState.{Channel, Given, channel_at}
use Rattle.vx_rules.specs.State.{Pending, role_at, pending_at}
use Rattle.vx_flow.specs.Event.{Event}
use Rattle.vx_flow.specs.Event as event
use Rattle.vx_flow.specs.Poll.{Ending, run_events, end_events}
use Rattle.vx_core.specs.Polling.{PollOnBus}
use Rattle.vx_run.specs.Notes.{poll_line, take_line}
use Rattle.vx_player.specs.Gateway.{Gateway, BusGoes, Happens}
use Rattle.vx_player.specs.Hearing.{is_write, TakesHeard}
use Rattle.vx_record.specs.Fragments.{record_of}
use Rattle.vx_exchange.specs.Meaning.{Meaning, Junk, Asks, Aborts, meaning, reply_record}
use Rattle.vx_exchange.specs.Meaning as meant
use Rattle.vx_run.specs.Stream.{Brought, NoEnd, Whole, TooLong, After, brought}
use Rattle.vx_setup.specs.Rack.{spare_at}
use Rattle.vx_player.specs.Stage.{Stage, tables_of}
use Rattle.vx_setup.specs.Refusing.{address, rules_in}
use Rattle.vx_setup.specs.Attaches.{AttachesTable, AttachesSpare}

-- nothing happens in the gateway
pub record IsQuiet (before : Gateway) (group : List Event) (after : Gateway) : Type 0 where
  pub none : group ≡ []
  pub same : after ≡ before

-- a connection's call is polled at this moment
pub record PollMakes (before : Gateway) (conn now xid : ℕ) (group : List Event) (note : Option Output) (after : Gateway) : Type 0 where
  pub ending : Ending
  pub over : PollOnBus (λ s. s.means) Through (λ s. some_asks s.bench) (λ s. some_refuses s.means.wire s.bench) before.interleaved before.bus conn now
      (Cut ∷ Told now ∷ []) ending after.interleaved after.bus
  pub events : group ≡ run_events before.interleaved conn now after.bus.means.moves ++ end_events conn now ending
  pub told : note ≡ Some (poll_line conn xid ending)
  -- the bytes of a write are taken by whoever is addressed, each once
  pub taken : (p : Pending) → pending_at before.interleaved.state.tables conn ≡ Some p → is_write p.call ≡ true
      → TakesHeard before.bus now after.bus.means.moves after.bus

-- a call comes at this moment, and is polled
pub record CallMakes (before : Gateway) (conn now xid : ℕ) (asked : Call) (group : List Event) (note : Option Output) (after : Gateway) : Type 0 where
  pub come : Gateway
  pub comes : Happens before (event.Arrive conn asked now ∷ []) (Cut ∷ Told now ∷ []) come
  pub rest : List Event
  pub polled : PollMakes come conn now xid rest note after
  pub events : group ≡ event.Arrive conn asked now ∷ rest

-- a device_abort of a link comes, and is answered
pub record AbortMakes (before : Gateway) (conn xid lid : ℕ) (group : List Event) (note : Option Output) (after : Gateway) : Type 0 where
  pub error : ErrorCode
  pub events : group ≡ event.Abort conn lid error ∷ []
  pub happens : Happens before group (Cut ∷ []) after
  pub told : note ≡ Some (Out conn (reply_record xid (reply.Error error)))

-- a connection ends
pub record EndMakes (before : Gateway) (conn : ℕ) (line : Output) (group : List Event) (note : Option Output) (after : Gateway) : Type 0 where
  pub events : group ≡ event.Down conn ∷ []
  pub happens : Happens before group (Cut ∷ []) after
  pub told : note ≡ Some line

-- what a message makes: junk ends the connection; an answer without the core makes no event; a call comes
abbrev pub MessageMakes : Gateway → ℕ → ℕ → Meaning → List Event → Option Output → Gateway → Type 0
MessageMakes g conn now Junk group line after = EndMakes g conn (GoneJunk conn) group line after
MessageMakes g conn now (meant.Answered message) group line after = IsQuiet g group after × (line ≡ Some (Out conn (record_of message)))
MessageMakes g conn now (Asks xid asked) group line after = CallMakes g conn now xid asked group line after
MessageMakes g conn now (Aborts xid lid) group line after = AbortMakes g conn xid lid group line after

-- what a message makes on the connection, by its role
abbrev pub RecordMakes : Gateway → ℕ → ℕ → List ℕ → Option Role → List Event → Option Output → Gateway → Type 0
RecordMakes g conn now message None group line after = ⊥
RecordMakes g conn now message (Some r) group line after = MessageMakes g conn now (meaning message r) group line after

-- what a piece of a stream makes
abbrev pub PieceMakes : Gateway → ℕ → ℕ → Brought → List Event → Option Output → Gateway → Type 0
PieceMakes g conn now NoEnd group line after = IsQuiet g group after × (line ≡ None)
PieceMakes g conn now (Whole message) group line after = RecordMakes g conn now message (role_at g.interleaved.state.tables conn) group line after
PieceMakes g conn now TooLong group line after = EndMakes g conn (GoneLong conn) group line after
PieceMakes g conn now After group line after = ⊥

-- an interrupt is taken from this channel
pub record TakeMakes (before : Gateway) (conn : ℕ) (c : Channel) (group : List Event) (note : Option Output) (after : Gateway) : Type 0 where
  pub given : Given
  pub events : group ≡ event.Take conn c.number given ∷ []
  pub happens : Happens before group (Cut ∷ []) after
  pub told : note ≡ Some (take_line conn given)

-- where the connection has no channel, nothing happens
abbrev pub ChannelMakes : Gateway → ℕ → Option Channel → List Event → Option Output → Gateway → Type 0
ChannelMakes g conn None group line after = IsQuiet g group after × (line ≡ Some (IrqClosed conn))
ChannelMakes g conn (Some c) group line after = TakeMakes g conn c group line after

-- the dial of a connection's call was made
pub record DialMakes (before : Gateway) (conn now xid : ℕ) (up : Bool) (group : List Event) (note : Option Output) (after : Gateway) : Type 0 where
  pub error : ErrorCode
  pub events : group ≡ event.Answer conn now false (Some up) false (reply.Error error) ∷ []
  pub happens : Happens before group (Cut ∷ Told now ∷ []) after
  pub told : note ≡ Some (Out conn (reply_record xid (reply.Error error)))

-- the SRQ line is looked at
pub record SampleMakes (before : Gateway) (now : ℕ) (group : List Event) (note : Option Output) (after : Gateway) : Type 0 where
  pub events : group ≡ event.Sample now (some_asks after.bus.bench) ∷ []
  pub happens : Happens before group (Cut ∷ Told now ∷ []) after
  pub told : note ≡ None

-- what hangs on the bus is changed so, behind a cut of its list
pub record Tweaks (before : Gateway) (Change : SimState → SimState → Type 0) (group : List Event) (note : Option Output) (after : Gateway) : Type 0 where
  pub none : group ≡ []
  pub interleaved : after.interleaved ≡ before.interleaved
  pub cut : SimState
  pub bus : BusGoes before.bus (Cut ∷ []) cut
  pub change : Change cut after.bus
  pub told : note ≡ None

-- what a command makes
abbrev pub Makes : Stage → Command → List Event → Option Output → Gateway → Type 0
Makes s (Up conn r) group line after =
    (group ≡ event.Up conn r ∷ []) × Happens s.gateway group (Cut ∷ []) after × (line ≡ None)
Makes s (In conn bytes) group line after = PieceMakes s.gateway conn s.moment (brought (s.streams conn) bytes) group line after
Makes s (Down conn) group line after = EndMakes s.gateway conn (GoneDown conn) group line after
Makes s (At moment) group line after = IsQuiet s.gateway group after × (line ≡ None)
Makes s (Poll conn) group line after = PollMakes s.gateway conn s.moment (s.xids conn) group line after
Makes s Sample group line after = SampleMakes s.gateway s.moment group line after
Makes s (Take conn) group line after = ChannelMakes s.gateway conn (channel_at (tables_of s).srq_state conn) group line after
Makes s (Dial conn up) group line after = DialMakes s.gateway conn s.moment (s.xids conn) up group line after
Makes s (Inst p secondary text) group line after = Tweaks s.gateway (AttachesTable (address p secondary) (rules_in text)) group line after
Makes s (Plug p secondary name) group line after = Tweaks s.gateway (AttachesSpare (address p secondary) (spare_at s.rack name)) group line after
Makes s (Pull p secondary) group line after = Tweaks s.gateway (λ old new. new ≡ without_place (address p secondary) old) group line after
Makes s (Set p secondary b) group line after = Tweaks s.gateway (IsSet (address p secondary) b) group line after
Makes s (Fail n) group line after = Tweaks s.gateway (λ old new. new ≡ record old { failing = Some n }) group line after
