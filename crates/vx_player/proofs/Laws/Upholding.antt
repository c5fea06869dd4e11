-- All claims hold of the events of a play: each is allowed at its place.
use Rattle.std.proofs.Common.{◌≡◌, ◌≤◌, ◌==◌, ℕ, Bool, true, false, List, [], ◌∷◌, ◌++◌, Option, Some, None, refl, sym, ap, ◌∙◌, subst, arith}
use Rattle.std.specs.List.{list_all}
use Rattle.std.proofs.lemmas.Bool.{false≢true, and_parts, and_from, eqb-true, eq-eqb}
use Rattle.std.proofs.lemmas.Option.{none-some, same_Some}
use Rattle.vx_calls.specs.declared.calls.Role.{Role}
use Rattle.vx_488.specs.declared.transfers.Transfer.{Transfer}
use Rattle.vx_script.specs.Command.{Command, Up, In, Down, At, Poll, Sample, Take, Dial, Inst, Plug, Pull, Set, Fail}
use Rattle.vx_trace.specs.Output.{Output}
use Rattle.vx_488.specs.Steps.{Step}
use Rattle.vx_exchange.specs.SrqState.{Channel, channel_at}
use Rattle.vx_sim.specs.SimState.{SimState}
use Rattle.vx_rules.specs.Lists.{along}
use Rattle.vx_rules.specs.State.{role_at}
use Rattle.vx_flow.specs.Event.{Event}
use Rattle.vx_flow.specs.Event as event
use Rattle.vx_flow.specs.InterleavedState.{InterleavedState, first_interleaved}
use Rattle.vx_flow.specs.InterleavedStep.{interleaved_step}
use Rattle.vx_flow.specs.Frames.{moment_after}
use Rattle.vx_flow.specs.Poll.{Ending, Waited, Polls, run_events, end_events, at_moment}
use Rattle.vx_rules.proofs.Laws.Lists.{along-none}
use Rattle.vx_flow.specs.Sound.{IsSound}
use Rattle.vx_flow.proofs.Laws.{interleaved-frame, first-sound, linearizes, earlier_law-holds, claims_law-holds}
use Rattle.vx_player.specs.Gateway.{Gateway, Happens, abort_port}
use Rattle.vx_setup.specs.Script as script
use Rattle.vx_exchange.specs.Meaning.{Meaning, Junk, Asks, Aborts, meaning}
use Rattle.vx_exchange.specs.Meaning as meant
use Rattle.vx_run.specs.Stream.{Brought, NoEnd, Whole, TooLong, After, brought}
use Rattle.vx_run.specs.Item.{Item, events}
use Rattle.vx_setup.specs.Rack.{SpareShown}
use Rattle.vx_player.specs.Stage.{Stage, tables_of, beginning}
use Rattle.vx_player.specs.Making.{IsQuiet, PollMakes, Tweaks, MessageMakes, RecordMakes, PieceMakes, ChannelMakes, Makes}
use Rattle.vx_player.proofs.Formed.{plays-formed}
use Rattle.vx_player.specs.Play.{Plays}
use Rattle.vx_player.specs.Upholding.{Upholds}
use Rattle.vx_player.proofs.PollEvents.{poll-all, along-both}
use Rattle.vx_player.proofs.Shown.{lines-shown}

-- Events lead from one state to another, but for a later moment.
pub record Leads (f : InterleavedState) (group : List Event) (g : InterleavedState) : Type 0 where
  pub last : InterleavedState
  pub now : ℕ
  pub goes : along interleaved_step (Some f) group ≡ Some last
  pub late : last.state.moment ≤ now
  pub at_now : g ≡ at_moment last now

-- ---- the moment behind a poll

-- the event is one of a poll at this moment
abbrev is_polled_at : ℕ → Event → Bool
is_polled_at now (event.Begin conn told) = told == now
is_polled_at now (event.Move conn moves) = true
is_polled_at now (event.Answer conn told failed dialed level reply) = told == now
is_polled_at now (event.Dial conn told) = told == now
is_polled_at now _ = false

-- a moment that is another
same-late : (told now : ℕ) → (told == now) ≡ true → told ≤ now
same-late told now h = let same = eqb-true told now h in omega arith

-- behind such an event the moment hasn't passed
moment-late : (e : Event) (moment now : ℕ) → is_polled_at now e ≡ true → moment ≤ now → moment_after moment e ≤ now
moment-late (event.Begin conn told) moment now is late = same-late told now is
moment-late (event.Move conn moves) moment now is late = late
moment-late (event.Answer conn told failed dialed level reply) moment now is late = same-late told now is
moment-late (event.Dial conn told) moment now is late = same-late told now is
moment-late _ moment now is late = absurd (false≢true is)

-- nor behind a list of them
along-late : (f g : InterleavedState) (es : List Event) (now : ℕ) → list_all (is_polled_at now) es ≡ true → f.state.moment ≤ now → along interleaved_step (Some f) es ≡ Some g
    → g.state.moment ≤ now
along-late f g [] now are late h = subst (λ (x : InterleavedState). x.state.moment ≤ now) (same_Some f g h) late
along-late f g (e ∷ es) now are late h =
    let parts = and_parts (is_polled_at now e) (list_all (is_polled_at now) es) are in
    by (interleaved_step f e) refl h (λ mid is. subst (λ m. m ≤ now) (sym (interleaved-frame f mid e is).moment_is) (moment-late e f.state.moment now parts.0 late))
    (λ mid so x. along-late mid g es now parts.1 so x)
  where
    by : (o : Option InterleavedState) → interleaved_step f e ≡ o → along interleaved_step o es ≡ Some g → ((mid : InterleavedState) → interleaved_step f e ≡ Some mid → mid.state.moment ≤ now)
        → ((mid : InterleavedState) → mid.state.moment ≤ now → along interleaved_step (Some mid) es ≡ Some g → g.state.moment ≤ now) → g.state.moment ≤ now
    by None is x first rest = absurd (none-some g (sym (along-none interleaved_step es) ∙ x))
    by (Some mid) is x first rest = rest mid (first mid is) x

-- the events of a poll are such
poll-polled : (f : InterleavedState) (conn now : ℕ) (moves : List Transfer) (ending : Ending)
    → list_all (is_polled_at now) (run_events f conn now moves ++ end_events conn now ending) ≡ true
poll-polled f conn now moves ending = poll-all (is_polled_at now) f conn now moves ending same refl (ended ending) where
  same : (now == now) ≡ true
  same = eq-eqb now now refl

  ended : (ending : Ending) → list_all (is_polled_at now) (end_events conn now ending) ≡ true
  ended (Waited why) = refl
  ended _ = and_from (now == now) true same refl

-- ---- what each step leads to

-- events that happen
happens-leads : (before after : Gateway) (group : List Event) (steps : List Step) → Happens before group steps after → Leads before.interleaved group after.interleaved
happens-leads before after group steps h = record {
  last = after.interleaved;
  now = after.interleaved.state.moment;
  goes = h.events;
  late = omega arith;
  at_now = refl;
}

-- no event
none-leads : (f g : InterleavedState) (group : List Event) → group ≡ [] → g ≡ f → Leads f group g
none-leads f g group none same = record {
  last = f;
  now = f.state.moment;
  goes = ap (along interleaved_step (Some f)) none;
  late = omega arith;
  at_now = same;
}

-- nothing
quiet-leads : (before after : Gateway) (group : List Event) → IsQuiet before group after → Leads before.interleaved group after.interleaved
quiet-leads before after group h = none-leads before.interleaved after.interleaved group h.none (ap (λ (g : Gateway). g.interleaved) h.same)

-- the events of a poll
pub polls-leads : (old : InterleavedState) (conn now : ℕ) (moves : List Transfer) (ending : Ending) (new : InterleavedState) → Polls old conn now moves ending new
    → Leads old (run_events old conn now moves ++ end_events conn now ending) new
polls-leads old conn now moves ending new h =
    let group = run_events old conn now moves ++ end_events conn now ending in
    let goes : along interleaved_step (Some old) group ≡ Some h.last =
    along-both old h.behind (Some h.last) (run_events old conn now moves) (end_events conn now ending) h.runs_to h.ended in
    record {
      last = h.last;
      now = now;
      goes = goes;
      late = along-late old h.last group now (poll-polled old conn now moves ending) h.late goes;
      at_now = h.at_now;
    }

-- a poll
poll-leads : (before after : Gateway) (conn now xid : ℕ) (group : List Event) (output : Option Output) → PollMakes before conn now xid group output after
    → Leads before.interleaved group after.interleaved
poll-leads before after conn now xid group output h =
    subst (λ es. Leads before.interleaved es after.interleaved) (sym h.events)
    (polls-leads before.interleaved conn now after.bus.means.moves h.ending after.interleaved h.over.polls)

-- events that lead on behind others
behind-leads : (f mid g : InterleavedState) (xs ys : List Event) → along interleaved_step (Some f) xs ≡ Some mid → Leads mid ys g → Leads f (xs ++ ys) g
behind-leads f mid g xs ys first h = record {
  last = h.last;
  now = h.now;
  goes = along-both f mid (Some h.last) xs ys first h.goes;
  late = h.late;
  at_now = h.at_now;
}

-- what a message makes
message-leads : (g : Gateway) (conn now : ℕ) (m : Meaning) (group : List Event) (output : Option Output) (after : Gateway)
    → MessageMakes g conn now m group output after → Leads g.interleaved group after.interleaved
message-leads g conn now Junk group output after h = happens-leads g after group _ h.happens
message-leads g conn now (meant.Answered message) group output after h = quiet-leads g after group h.0
message-leads g conn now (Asks xid asked) group output after h =
    subst (λ es. Leads g.interleaved es after.interleaved) (sym h.events)
    (behind-leads g.interleaved h.come.interleaved after.interleaved (event.Arrive conn asked now ∷ []) h.rest h.comes.events (poll-leads h.come after conn now xid h.rest output h.polled))
message-leads g conn now (Aborts xid lid) group output after h = happens-leads g after group _ h.happens

-- what a record makes
record-leads : (g : Gateway) (conn now : ℕ) (message : List ℕ) (r : Option Role) (group : List Event) (output : Option Output) (after : Gateway)
    → RecordMakes g conn now message r group output after → Leads g.interleaved group after.interleaved
record-leads g conn now message None group output after h = absurd h
record-leads g conn now message (Some r) group output after h = message-leads g conn now (meaning message r) group output after h

-- what a piece makes
piece-leads : (g : Gateway) (conn now : ℕ) (b : Brought) (group : List Event) (output : Option Output) (after : Gateway)
    → PieceMakes g conn now b group output after → Leads g.interleaved group after.interleaved
piece-leads g conn now NoEnd group output after h = quiet-leads g after group h.0
piece-leads g conn now (Whole message) group output after h = record-leads g conn now message (role_at g.interleaved.state.tables conn) group output after h
piece-leads g conn now TooLong group output after h = happens-leads g after group _ h.happens
piece-leads g conn now After group output after h = absurd h

-- what a take makes
channel-leads : (g : Gateway) (conn : ℕ) (c : Option Channel) (group : List Event) (output : Option Output) (after : Gateway)
    → ChannelMakes g conn c group output after → Leads g.interleaved group after.interleaved
channel-leads g conn None group output after h = quiet-leads g after group h.0
channel-leads g conn (Some c) group output after h = happens-leads g after group _ h.happens

-- what a tweak makes
tweak-leads : (g : Gateway) (Change : SimState → SimState → Type 0) (group : List Event) (output : Option Output) (after : Gateway)
    → Tweaks g Change group output after → Leads g.interleaved group after.interleaved
tweak-leads g Change group output after h = none-leads g.interleaved after.interleaved group h.none h.interleaved

-- the events of a command lead to the state behind it, but for a later moment
makes-leads : (s : Stage) (command : Command) (group : List Event) (output : Option Output) (after : Gateway) → Makes s command group output after
    → Leads s.gateway.interleaved group after.interleaved
makes-leads s (Up conn r) group output after h = happens-leads s.gateway after group _ h.1
makes-leads s (In conn bytes) group output after h = piece-leads s.gateway conn s.moment (brought (s.streams conn) bytes) group output after h
makes-leads s (Down conn) group output after h = happens-leads s.gateway after group _ h.happens
makes-leads s (At moment) group output after h = quiet-leads s.gateway after group h.0
makes-leads s (Poll conn) group output after h = poll-leads s.gateway after conn s.moment (s.xids conn) group output h
makes-leads s Sample group output after h = happens-leads s.gateway after group _ h.happens
makes-leads s (Take conn) group output after h = channel-leads s.gateway conn (channel_at (tables_of s).srq_state conn) group output after h
makes-leads s (Dial conn up) group output after h = happens-leads s.gateway after group _ h.happens
makes-leads s (Inst p secondary text) group output after h = tweak-leads s.gateway _ group output after h
makes-leads s (Plug p secondary name) group output after h = tweak-leads s.gateway _ group output after h
makes-leads s (Pull p secondary) group output after h = tweak-leads s.gateway _ group output after h
makes-leads s (Set p secondary b) group output after h = tweak-leads s.gateway _ group output after h
makes-leads s (Fail n) group output after h = tweak-leads s.gateway _ group output after h

-- ---- a whole play

-- A stage's state is this one at a later moment, and what holds between events holds of it.
record IsLater (f : InterleavedState) (s : Stage) : Type 0 where
  now : ℕ
  sound : IsSound f
  late : f.state.moment ≤ now
  at_now : s.gateway.interleaved ≡ at_moment f now

-- events that lead from a state lead from it at an earlier moment, to a state that the next stage's is at a later one
leads-earlier : (f : InterleavedState) (before after : Stage) (group : List Event) → IsLater f before → Leads before.gateway.interleaved group after.gateway.interleaved
    → (mid : InterleavedState) × (along interleaved_step (Some f) group ≡ Some mid) × IsLater mid after
leads-earlier f before after group later h =
    let led = earlier_law-holds f h.last later.now group later.sound later.late (ap (λ x. along interleaved_step (Some x) group) (sym later.at_now) ∙ h.goes) in
    let late : led.0 ≤ h.now = (let a = led.2 in let b = h.late in omega arith) in
    let made = linearizes group f (at_moment h.last led.0) f.state.moment later.sound (omega arith) led.1 in
    (at_moment h.last led.0, led.1, record { now = h.now; sound = made.sound; late = late; at_now = h.at_now })

-- the events of a play are allowed, each at its place, and lead to the last stage's state, but for a later moment
plays-leads : (f : InterleavedState) (before : Stage) (steps : List script.Step) (items : List Item) (end : Stage) → IsLater f before → Plays before steps items end
    → (g : InterleavedState) × (along interleaved_step (Some f) (events items) ≡ Some g) × IsLater g end
plays-leads f before [] [] end later plays = (f, refl, subst (IsLater f) (sym plays) later)
plays-leads f before (step ∷ steps) [] end later plays = absurd plays
plays-leads f before [] (item ∷ items) end later plays = absurd plays
plays-leads f before (step ∷ steps) (item ∷ items) end later plays =
    let led = leads-earlier f before plays.1 item.group later (makes-leads before item.command item.group item.note plays.1.gateway plays.2.makes) in
    let rest = plays-leads led.0 plays.1 steps items end led.2 plays.3 in
    (rest.0, along-both f led.0 (Some rest.0) item.group (events items) led.1 rest.1, rest.2)

-- all claims hold of the events of a play, and its lines show the transfers
pub plays-uphold : (rack : List SpareShown) (steps : List script.Step) (items : List Item) (end : Stage) → Plays (beginning rack) steps items end → Upholds items
plays-uphold rack steps items end plays =
    let led = plays-leads (first_interleaved abort_port) (beginning rack) steps items end (record { now = 0; sound = first-sound abort_port; late = omega arith; at_now = refl }) plays in
    record {
      claims = claims_law-holds abort_port (events items) led.0 led.1;
      shown = lines-shown (beginning rack) steps items end plays;
      formed = plays-formed rack steps items end plays;
    }
