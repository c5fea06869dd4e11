-- A play is a formed run: what its steps make in the gateway is what steps may make, whatever hangs on the bus.
use Rattle.std.proofs.Common.{◌≡◌, ℕ, ◌==◌, Bool, true, false, cond, not, List, [], ◌∷◌, Option, Some, None, refl, sym, ap, subst}
use Rattle.vx_calls.specs.declared.calls.Role.{Role}
use Rattle.vx_script.specs.declared.Cause.TheVariants as cause
use Rattle.vx_script.specs.Command.{Command, Up, In, Down, At, Poll, Sample, Take, Dial, Inst, Plug, Pull, Set, Fail}
use Rattle.vx_trace.specs.Output.{Output}
use Rattle.vx_sim.specs.SimState.{SimState}
use Rattle.vx_exchange.specs.SrqState.{Channel, channel_at}
use Rattle.vx_exchange.specs.Meaning.{Meaning, Junk, Asks, Aborts, meaning}
use Rattle.vx_exchange.specs.Meaning as meant
use Rattle.vx_rules.specs.Lists.{along}
use Rattle.vx_rules.specs.State.{role_at, has_room}
use Rattle.vx_flow.specs.Event.{Event}
use Rattle.vx_flow.specs.Event as event
use Rattle.vx_flow.specs.InterleavedState.{InterleavedState}
use Rattle.vx_flow.specs.InterleavedStep.{interleaved_step}
use Rattle.vx_setup.specs.Script.{Step}
use Rattle.vx_setup.specs.Rack.{SpareShown}
use Rattle.vx_run.specs.Stream.{Brought, NoEnd, Whole, TooLong, After, brought}
use Rattle.vx_run.specs.Item.{Item}
use Rattle.vx_run.specs.Position.{Position}
use Rattle.vx_run.specs.Giving.{Gives, PollGives, MessageGives, RecordGives, PieceGives, ChannelGives, StepGives}
use Rattle.vx_run.specs.Forming.{gateway_refusal, Forms, FormsAll, IsFormed}
use Rattle.vx_player.specs.Gateway.{Gateway, abort_port}
use Rattle.vx_player.specs.Stage.{Stage, tables_of, beginning, refusal}
use Rattle.vx_player.specs.Making.{IsQuiet, EndMakes, PollMakes, Tweaks, MessageMakes, RecordMakes, PieceMakes, ChannelMakes, Makes}
use Rattle.vx_player.specs.Play.{PlayerTakes, Plays}

-- where a play stands in the gateway
abbrev pub position : Stage → Position
position s = record { interleaved = s.gateway.interleaved; streams = s.streams; xids = s.xids; moment = s.moment }

-- ---- what a step makes

given : (f g : InterleavedState) (events group : List Event) (line shown : Option Output) → group ≡ events → shown ≡ line → along interleaved_step (Some f) group ≡ Some g
    → Gives f events line group shown g
given f g events group line shown events_are told happens = record {
  events = events_are;
  told = told;
  happens = subst (λ es. along interleaved_step (Some f) es ≡ Some g) events_are happens;
}

-- nothing happens
quiet : (before after : Gateway) (group : List Event) (line shown : Option Output) → IsQuiet before group after → shown ≡ line → Gives before.interleaved [] line group shown after.interleaved
quiet before after group line shown h told = record { events = h.none; told = told; happens = ap (λ (g : Gateway). Some g.interleaved) (sym h.same) }

tweaked : (before after : Gateway) (Change : SimState → SimState → Type 0) (group : List Event) (shown : Option Output) → Tweaks before Change group shown after
    → Gives before.interleaved [] None group shown after.interleaved
tweaked before after Change group shown h = record { events = h.none; told = h.told; happens = ap (λ f. Some f) (sym h.interleaved) }

polled : (before after : Gateway) (conn now xid : ℕ) (group : List Event) (shown : Option Output) → PollMakes before conn now xid group shown after
    → PollGives before.interleaved conn now xid group shown after.interleaved
polled before after conn now xid group shown h =
    record { moves = after.bus.means.moves; ending = h.ending; polls = h.over.polls; events = h.events; told = h.told }

ended : (before after : Gateway) (conn : ℕ) (line : Output) (group : List Event) (shown : Option Output) → (h : EndMakes before conn line group shown after)
    → Gives before.interleaved (event.Down conn ∷ []) (Some line) group shown after.interleaved
ended before after conn line group shown h = given before.interleaved after.interleaved (event.Down conn ∷ []) group (Some line) shown h.events h.told h.happens.events

message-gives : (g : Gateway) (conn now : ℕ) (m : Meaning) (group : List Event) (shown : Option Output) (after : Gateway)
    → MessageMakes g conn now m group shown after → MessageGives g.interleaved conn now m group shown after.interleaved
message-gives g conn now Junk group shown after h = ended g after conn _ group shown h
message-gives g conn now (meant.Answered message) group shown after h = quiet g after group _ shown h.0 h.1
message-gives g conn now (Asks xid asked) group shown after h = record {
  come = h.come.interleaved;
  comes = h.comes.events;
  rest = h.rest;
  polled = polled h.come after conn now xid h.rest shown h.polled;
  events = h.events;
}
message-gives g conn now (Aborts xid lid) group shown after h = (h.error, given g.interleaved after.interleaved _ group _ shown h.events h.told h.happens.events)

record-gives : (g : Gateway) (conn now : ℕ) (message : List ℕ) (r : Option Role) (group : List Event) (shown : Option Output) (after : Gateway)
    → RecordMakes g conn now message r group shown after → RecordGives g.interleaved conn now message r group shown after.interleaved
record-gives g conn now message None group shown after h = absurd h
record-gives g conn now message (Some r) group shown after h = message-gives g conn now (meaning message r) group shown after h

piece-gives : (g : Gateway) (conn now : ℕ) (b : Brought) (group : List Event) (shown : Option Output) (after : Gateway)
    → PieceMakes g conn now b group shown after → PieceGives g.interleaved conn now b group shown after.interleaved
piece-gives g conn now NoEnd group shown after h = quiet g after group _ shown h.0 h.1
piece-gives g conn now (Whole message) group shown after h = record-gives g conn now message (role_at g.interleaved.state.tables conn) group shown after h
piece-gives g conn now TooLong group shown after h = ended g after conn _ group shown h
piece-gives g conn now After group shown after h = absurd h

channel-gives : (g : Gateway) (conn : ℕ) (c : Option Channel) (group : List Event) (shown : Option Output) (after : Gateway)
    → ChannelMakes g conn c group shown after → ChannelGives g.interleaved conn c group shown after.interleaved
channel-gives g conn None group shown after h = quiet g after group _ shown h.0 h.1
channel-gives g conn (Some c) group shown after h = (h.given, given g.interleaved after.interleaved _ group _ shown h.events h.told h.happens.events)

makes-gives : (s : Stage) (command : Command) (group : List Event) (shown : Option Output) (after : Gateway) → Makes s command group shown after
    → StepGives (position s) command group shown after.interleaved
makes-gives s (Up conn r) group shown after h = given s.gateway.interleaved after.interleaved _ group _ shown h.0 h.2 h.1.events
makes-gives s (In conn bytes) group shown after h = piece-gives s.gateway conn s.moment (brought (s.streams conn) bytes) group shown after h
makes-gives s (Down conn) group shown after h = ended s.gateway after conn _ group shown h
makes-gives s (At moment) group shown after h = quiet s.gateway after group _ shown h.0 h.1
makes-gives s (Poll conn) group shown after h = polled s.gateway after conn s.moment (s.xids conn) group shown h
makes-gives s Sample group shown after h = (_, given s.gateway.interleaved after.interleaved _ group _ shown h.events h.told h.happens.events)
makes-gives s (Take conn) group shown after h = channel-gives s.gateway conn (channel_at (tables_of s).srq_state conn) group shown after h
makes-gives s (Dial conn up) group shown after h = (h.error, given s.gateway.interleaved after.interleaved _ group _ shown h.events h.told h.happens.events)
makes-gives s (Inst p secondary text) group shown after h = tweaked s.gateway after _ group shown h
makes-gives s (Plug p secondary name) group shown after h = tweaked s.gateway after _ group shown h
makes-gives s (Pull p secondary) group shown after h = tweaked s.gateway after _ group shown h
makes-gives s (Set p secondary b) group shown after h = tweaked s.gateway after _ group shown h
makes-gives s (Fail n) group shown after h = tweaked s.gateway after _ group shown h

-- ---- a step that isn't refused

-- the gateway refuses nothing that is allowed
allowed : (s : Stage) (command : Command) → refusal s command ≡ None → gateway_refusal (position s) command ≡ None
allowed s (Up conn r) h = by (conn == (tables_of s).next_connection) h where
  by : (b : Bool) → cond (not b) (Some cause.Number) (cond (has_room (tables_of s) r) None (Some cause.Full)) ≡ None → cond b None (Some cause.Number) ≡ None
  by true e = refl
  by false e = absurd (cc)
allowed s (In conn bytes) h = h
allowed s (Down conn) h = h
allowed s (Poll conn) h = h
allowed s (Take conn) h = h
allowed s (Dial conn up) h = h
allowed s _ h = refl

-- ---- all steps

forms : (before after : Stage) (item : Item) → PlayerTakes before item after → Forms (position before) item (position after)
forms before after item t = record {
  allowed = allowed before item.command t.allowed;
  gives = makes-gives before item.command item.group item.note after.gateway t.makes;
  message = t.message;
  at = t.at;
  streams = t.streams;
  xids = t.xids;
  moment = t.moment;
}

forms-all : (before after : Stage) (steps : List Step) (items : List Item) → Plays before steps items after → FormsAll (position before) items (position after)
forms-all before after [] [] played = ap (λ s. position s) played
forms-all before after [] (i ∷ items) played = absurd played
forms-all before after (s ∷ steps) [] played = absurd played
forms-all before after (s ∷ steps) (item ∷ items) (same, next, takes, rest) = (position next, forms before next item takes, forms-all next after steps items rest)

-- a play is formed
pub plays-formed : (rack : List SpareShown) (steps : List Step) (items : List Item) (end : Stage) → Plays (beginning rack) steps items end → IsFormed abort_port items
plays-formed rack steps items end played = (position end, forms-all (beginning rack) end steps items played)
