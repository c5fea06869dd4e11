-- What a step that calls the core leaves of the stage that a player stands at.
use Rattle.std.proofs.Common.{◌≡◌, ℕ, ◌≤◌, max, Bool, true, false, cond, not, ◌==◌, List, [], ◌∷◌, length, Option, Some, None, IfSome, refl, sym, ap, ◌∙◌, subst, arith}
use Rattle.std.specs.Prelude.{is_none, is_some}
use Rattle.std.specs.Option.{option_map}
use Rattle.std.specs.List.{list_any}
use Rattle.std.proofs.Math.Nat.{max-eq_right}
use Rattle.std.proofs.lemmas.Bool.{cond-true, cond-false, false≢true}
use Rattle.vx_calls.specs.declared.calls.Role.{Role}
use Rattle.vx_calls.specs.declared.calls.Role.TheVariants as role
use Rattle.vx_calls.specs.Reply as reply
use Rattle.vx_488.specs.Steps.{Told, Cut}
use Rattle.vx_sim.specs.Bench.{some_asks}
use Rattle.vx_sim.specs.SimState.{SimState, Through}
use Rattle.vx_488.specs.Walks.{Walk}
use Rattle.vx_script.specs.Command.{Command, At, Poll, Sample, Take, Dial}
use Rattle.vx_script.specs.declared.Cause.TheVariants as cause
use Rattle.vx_trace.specs.Output.{Output, Srq}
use Rattle.vx_exchange.specs.SrqState.{Given, Channel, channel_at}
use Rattle.vx_rules.specs.SrqState.{SrqState, is_rise, risen_slot, sampled}
use Rattle.std.specs.Prelude.{map}
use Rattle.vx_flow.proofs.Laws.{interleaved-does}
use Rattle.vx_rules.specs.State.{Connection, connection_at, pending_at, role_at, lives_as, has_role_of}
use Rattle.vx_flow.specs.Event as event
use Rattle.vx_flow.specs.InterleavedState.{InterleavedState}
use Rattle.vx_flow.specs.InterleavedStep.{interleaved_step}
use Rattle.vx_flow.proofs.Laws.{interleaved-frame}
use Rattle.vx_core.specs.CoreState.{CoreState}
use Rattle.vx_player.specs.declared.pieces.Incoming.{Incoming}
use Rattle.vx_player.specs.declared.note.Intake.TheVariants as intake
use Rattle.vx_player.specs.declared.note.StepMade.{StepMade}
use Rattle.vx_player.specs.declared.note.Note.{Note}
use Rattle.vx_player.specs.declared.note.Note.TheVariants as note
use Rattle.vx_player.specs.Gateway.{Gateway, gateway_of, Happens}
use Rattle.vx_player.specs.Stage.{Stage, tables_of, refusal}
use Rattle.vx_player.specs.Wanting.{StopsFor}
use Rattle.vx_setup.specs.declared.stops.Refusal.{Refusal}
use Rattle.vx_setup.specs.declared.stops.Refusal.TheVariants as stop
use Rattle.vx_exchange.specs.Meaning.{reply_record}
use Rattle.vx_exchange.specs.declared.polls.DialAnswered.{DialAnswered}
use Rattle.vx_exchange.specs.Doing.{Settles}
use Rattle.vx_player.specs.Making.{Makes, SampleMakes, PollMakes, ChannelMakes, DialMakes}
use Rattle.vx_run.specs.Notes.{take_line}
use Rattle.vx_player.specs.Play.{stream_after, xid_after, rack_after, message_of}
use Rattle.vx_run.specs.Position.{moment_after}
use Rattle.vx_run.specs.RunText.{message_lines}
use Rattle.vx_player.specs.PlayerState.{PlayerState, incoming_at}
use Rattle.vx_player.specs.Serving.{MadeBy}
use Rattle.vx_player.specs.Standing.{PlayerStands, PlayerHolds, TakesTo, NoteWithin, note_line}
use Rattle.vx_player.proofs.Stepping.{made-there, takes-to, call_lines}
use Rattle.vx_player.proofs.PollMade.{sim, record-made}
use Rattle.vx_player.proofs.Roles.{roles-stay, polls-roles}

-- ---- what is kept of connections

-- a connection that lives in a role has one
has-role : (r : Role) (o : Option Connection) → has_role_of r o ≡ true → is_some (option_map (λ (c : Connection). c.role) o) ≡ true
has-role r None h = absurd (false≢true h)
has-role r (Some c) h = refl

-- the xid that is kept of a connection that lives
xid-kept : (r : Option Role) (kept : Option Incoming) (stream : List ℕ) (last xid : ℕ) → is_some r ≡ true → PlayerHolds r kept stream last
    → IfSome kept (λ k. xid ≡ k.xid) → xid ≡ last
xid-kept None kept stream last xid lives holds is = absurd (false≢true lives)
xid-kept (Some r) None stream last xid lives holds is = absurd holds
xid-kept (Some r) (Some kept) stream last xid lives holds is = is ∙ holds.called

-- ---- a step of the core

-- A step that leaves who lives in which role, the streams, the xids, the spares and the moment of the next steps.
pub core-takes : (p : PlayerState) (stage : Stage) (command : Command) (core : CoreState SimState) (room : List ℕ) (made : StepMade) → PlayerStands p stage
    → refusal stage command ≡ None → MadeBy (Makes stage command) room made core → core.interleaved.state.moment ≤ p.moment
    → ((n : ℕ) → role_at core.interleaved.state.tables n ≡ role_at p.core.interleaved.state.tables n)
    → stream_after stage command ≡ stage.streams → xid_after stage command ≡ stage.xids → rack_after stage.rack command ≡ stage.rack
    → moment_after stage.moment command ≡ stage.moment → message_lines command (message_of stage command) ≡ call_lines p.message made.intake
    → TakesTo stage command made (record p { core = core; reply = room })
core-takes p stage command core room made stands allowed makes late roles streams xids rack moment called =
    takes-to stage command (record p { core = core; reply = room }) made allowed makes called late (stands.moment ∙ sym moment) (stands.rack ∙ sym rack)
    (λ n.
    subst (λ r. PlayerHolds r (incoming_at p.incoming n) (stream_after stage command n) (xid_after stage command n))
    (sym (roles n ∙ ap (λ (g : Gateway). role_at g.interleaved.state.tables n) stands.gateway))
    (subst (λ s. PlayerHolds (role_at (tables_of stage) n) (incoming_at p.incoming n) (s n) (xid_after stage command n)) (sym streams)
    (subst (λ x. PlayerHolds (role_at (tables_of stage) n) (incoming_at p.incoming n) (stage.streams n) (x n)) (sym xids) (stands.incoming n))))

-- the moment comes
pub at-takes : (p : PlayerState) (stage : Stage) (later : ℕ) → PlayerStands p stage
    → TakesTo stage (At later) (record { intake = intake.Nothing; polled = None; note = note.Nothing; answered = None }) (record p { moment = max p.moment later })
at-takes p stage later stands =
    takes-to stage (At later) (record p { moment = max p.moment later }) (record { intake = intake.Nothing; polled = None; note = note.Nothing; answered = None }) refl
    (record {
      group = [];
      makes = (record { none = refl; same = stands.gateway }, refl);
      lines = refl;
      lines2 = refl;
      answered = refl;
      note = tt;
      few = λ h. absurd (false≢true h);
    }) refl (let late : p.core.interleaved.state.moment ≤ p.moment = stands.late in omega arith) (ap (λ n. max n later) stands.moment) stands.rack
    (λ n.
    subst (λ r. PlayerHolds r (incoming_at p.incoming n) (stage.streams n) (stage.xids n))
    (sym (ap (λ (g : Gateway). role_at g.interleaved.state.tables n) stands.gateway)) (stands.incoming n))

-- the level that is kept is the one that was looked at
sampled-level : (d : SrqState) (level : Bool) → (sampled d level).level ≡ level
sampled-level d level = by (is_rise d.level level) where
  by : (b : Bool) → (cond b (record d { slots = map (risen_slot d.enables) d.slots; level = level }) (record d { level = level })).level ≡ level
  by true = refl
  by false = refl

sample-level : (f g : InterleavedState) (now : ℕ) (level : Bool) → interleaved_step f (event.Sample now level) ≡ Some g → g.state.tables.srq_state.level ≡ level
sample-level f g now level went =
    ap (λ (h : InterleavedState). h.state.tables.srq_state.level) (interleaved-does f g (event.Sample now level) went).step.leads
    ∙ sampled-level f.state.tables.srq_state level

-- the SRQ line is looked at
pub sample-takes : (p : PlayerState) (stage : Stage) (core : CoreState SimState) → PlayerStands p stage
    → interleaved_step p.core.interleaved (event.Sample (max p.core.interleaved.state.moment p.moment) (some_asks core.bus.bench)) ≡ Some core.interleaved
    → Walk (λ (s : SimState). s.means) Through p.core.bus (Cut ∷ Told (max p.core.interleaved.state.moment p.moment) ∷ []) core.bus
    → TakesTo stage Sample (record { intake = intake.Sampled core.interleaved.state.tables.srq_state.level; polled = None; note = note.Nothing; answered = None }) (record p { core = core })
sample-takes p stage core stands went walk =
    let at : max p.core.interleaved.state.moment p.moment ≡ p.moment = max-eq_right stands.late in
    let now = max p.core.interleaved.state.moment p.moment in
    let made : StepMade = record { intake = intake.Sampled core.interleaved.state.tables.srq_state.level; polled = None; note = note.Nothing; answered = None } in
    let made_by : MadeBy (SampleMakes (gateway_of p.core) now) p.reply made core = record {
      group = event.Sample now (some_asks core.bus.bench) ∷ [];
      makes = record { events = refl; happens = record { events = went; bus = walk }; told = refl };
      lines = refl;
      lines2 = ap (λ level. Srq level ∷ []) (sym (sample-level p.core.interleaved core.interleaved now (some_asks core.bus.bench) went));
      answered = refl;
      note = tt;
      few = λ h. absurd (false≢true h);
    } in
    core-takes p stage Sample core p.reply made stands refl
    (made-there SampleMakes p stage p.reply made core stands (subst (λ m. MadeBy (SampleMakes (gateway_of p.core) m) p.reply made core) at made_by))
    (let told : core.interleaved.state.moment ≡ p.moment = (interleaved-frame p.core.interleaved core.interleaved (event.Sample now (some_asks core.bus.bench)) went).moment_is ∙ at in omega arith)
    (λ n. roles-stay p.core.interleaved core.interleaved (event.Sample now (some_asks core.bus.bench)) n refl went) refl refl refl refl refl

-- ---- a step of a core connection

some-not-none : {A : Type 0} (o : Option A) → is_some o ≡ true → is_none o ≡ false
some-not-none None h = absurd (false≢true h)
some-not-none (Some x) h = refl

not-some-none : {A : Type 0} (o : Option A) → is_some o ≡ false → is_none o ≡ true
not-some-none None h = refl
not-some-none (Some x) h = absurd (false≢true (sym h))

-- what a test says of the stage's tables
pub at-stage : (p : PlayerState) (stage : Stage) (test : InterleavedState → Bool) (b : Bool) → PlayerStands p stage → test p.core.interleaved ≡ b → test stage.gateway.interleaved ≡ b
at-stage p stage test b stands h = subst (λ (g : Gateway). test g.interleaved ≡ b) stands.gateway h

-- a connection that lives not as a core one
pub poll-unknown : (p : PlayerState) (stage : Stage) (conn : ℕ) → PlayerStands p stage → lives_as p.core.interleaved.state.tables conn role.Core ≡ false
    → refusal stage (Poll conn) ≡ Some cause.Conn
poll-unknown p stage conn stands unknown =
    let lives = at-stage p stage (λ f. lives_as f.state.tables conn role.Core) false stands unknown in
    cond-true _ (Some cause.Conn) (cond (is_none (pending_at (tables_of stage) conn)) (Some cause.Idle) None) (ap not lives)

pub take-unknown : (p : PlayerState) (stage : Stage) (conn : ℕ) → PlayerStands p stage → lives_as p.core.interleaved.state.tables conn role.Core ≡ false
    → refusal stage (Take conn) ≡ Some cause.Conn
take-unknown p stage conn stands unknown = cond-false _ None (Some cause.Conn) (at-stage p stage (λ f. lives_as f.state.tables conn role.Core) false stands unknown)

pub dial-unknown : (p : PlayerState) (stage : Stage) (conn : ℕ) (up : Bool) → PlayerStands p stage → lives_as p.core.interleaved.state.tables conn role.Core ≡ false
    → refusal stage (Dial conn up) ≡ Some cause.Conn
dial-unknown p stage conn up stands unknown =
    let lives = at-stage p stage (λ f. lives_as f.state.tables conn role.Core) false stands unknown in
    cond-true _ (Some cause.Conn) (cond (list_any (λ n. n == conn) stage.gateway.interleaved.dialed) None (Some cause.Idle)) (ap not lives)

-- so a step there stops for that
pub poll-stranger : (p : PlayerState) (stage : Stage) (conn : ℕ) (why : Refusal) → PlayerStands p stage
    → (why ≡ stop.Refused cause.Conn) × (lives_as p.core.interleaved.state.tables conn role.Core ≡ false) → StopsFor stage (Poll conn) why
poll-stranger p stage conn why stands told = subst (StopsFor stage (Poll conn)) (sym told.0) (poll-unknown p stage conn stands told.1)

pub take-stranger : (p : PlayerState) (stage : Stage) (conn : ℕ) (why : Refusal) → PlayerStands p stage
    → (why ≡ stop.Refused cause.Conn) × (lives_as p.core.interleaved.state.tables conn role.Core ≡ false) → StopsFor stage (Take conn) why
take-stranger p stage conn why stands told = subst (StopsFor stage (Take conn)) (sym told.0) (take-unknown p stage conn stands told.1)

pub dial-stranger : (p : PlayerState) (stage : Stage) (conn : ℕ) (up : Bool) (why : Refusal) → PlayerStands p stage
    → (why ≡ stop.Refused cause.Conn) × (lives_as p.core.interleaved.state.tables conn role.Core ≡ false) → StopsFor stage (Dial conn up) why
dial-stranger p stage conn up why stands told = subst (StopsFor stage (Dial conn up)) (sym told.0) (dial-unknown p stage conn up stands told.1)

-- one without a call, and one whose call asked for no dial
pub poll-idle : (p : PlayerState) (stage : Stage) (conn : ℕ) → PlayerStands p stage → lives_as p.core.interleaved.state.tables conn role.Core ≡ true
    → is_some (pending_at p.core.interleaved.state.tables conn) ≡ false → refusal stage (Poll conn) ≡ Some cause.Idle
poll-idle p stage conn stands known idle =
    let lives = at-stage p stage (λ f. lives_as f.state.tables conn role.Core) true stands known in
    let none = not-some-none (pending_at (tables_of stage) conn) (at-stage p stage (λ f. is_some (pending_at f.state.tables conn)) false stands idle) in
    cond-false _ (Some cause.Conn) (cond (is_none (pending_at (tables_of stage) conn)) (Some cause.Idle) None) (ap not lives)
    ∙ cond-true _ (Some cause.Idle) None none

pub dial-idle : (p : PlayerState) (stage : Stage) (conn : ℕ) (up : Bool) → PlayerStands p stage → lives_as p.core.interleaved.state.tables conn role.Core ≡ true
    → list_any (λ n. n == conn) p.core.interleaved.dialed ≡ false → refusal stage (Dial conn up) ≡ Some cause.Idle
dial-idle p stage conn up stands known idle =
    let lives = at-stage p stage (λ f. lives_as f.state.tables conn role.Core) true stands known in
    let none = at-stage p stage (λ f. list_any (λ n. n == conn) f.dialed) false stands idle in
    cond-false _ (Some cause.Conn) (cond (list_any (λ n. n == conn) stage.gateway.interleaved.dialed) None (Some cause.Idle)) (ap not lives)
    ∙ cond-false _ None (Some cause.Idle) none

-- the xid of a live connection's last call
xid-is : (p : PlayerState) (stage : Stage) (conn xid : ℕ) → PlayerStands p stage → lives_as p.core.interleaved.state.tables conn role.Core ≡ true
    → IfSome (incoming_at p.incoming conn) (λ kept. xid ≡ kept.xid) → xid ≡ stage.xids conn
xid-is p stage conn xid stands known is =
    xid-kept (role_at (tables_of stage) conn) (incoming_at p.incoming conn) (stage.streams conn) (stage.xids conn) xid
    (has-role role.Core (connection_at (tables_of stage) conn) (at-stage p stage (λ f. lives_as f.state.tables conn role.Core) true stands known))
    (stands.incoming conn) is

-- a connection's call is polled
pub poll-takes : (p : PlayerState) (stage : Stage) (core : CoreState SimState) (room : List ℕ) (made : StepMade) (conn xid : ℕ) → PlayerStands p stage
    → lives_as p.core.interleaved.state.tables conn role.Core ≡ true → is_some (pending_at p.core.interleaved.state.tables conn) ≡ true
    → IfSome (incoming_at p.incoming conn) (λ kept. xid ≡ kept.xid)
    → MadeBy (PollMakes (gateway_of p.core) conn p.moment xid) room made core → made.intake ≡ intake.Nothing → core.interleaved.state.moment ≤ p.moment
    → TakesTo stage (Poll conn) made (record p { core = core; reply = room })
poll-takes p stage core room made conn xid stands known pending is makes quiet late =
    let lives = at-stage p stage (λ f. lives_as f.state.tables conn role.Core) true stands known in
    let some = some-not-none (pending_at (tables_of stage) conn) (at-stage p stage (λ f. is_some (pending_at f.state.tables conn)) true stands pending) in
    core-takes p stage (Poll conn) core room made stands
    (cond-false _ (Some cause.Conn) (cond (is_none (pending_at (tables_of stage) conn)) (Some cause.Idle) None) (ap not lives)
    ∙ cond-false _ (Some cause.Idle) None some)
    (subst (λ x. MadeBy (PollMakes stage.gateway conn stage.moment x) room made core) (xid-is p stage conn xid stands known is)
    (made-there (λ g now. PollMakes g conn now xid) p stage room made core stands makes))
    late
    (λ n. polls-roles p.core.interleaved conn p.moment core.bus.means.moves makes.makes.ending core.interleaved n makes.makes.over.polls) refl refl refl refl (sym (ap (call_lines p.message) quiet))

-- the dial of a connection's call was made
pub dial-takes : (p : PlayerState) (stage : Stage) (core : CoreState SimState) (room : List ℕ) (conn xid : ℕ) (up : Bool) (answered : DialAnswered)
    → PlayerStands p stage → lives_as p.core.interleaved.state.tables conn role.Core ≡ true → list_any (λ n. n == conn) p.core.interleaved.dialed ≡ true
    → IfSome (incoming_at p.incoming conn) (λ kept. xid ≡ kept.xid)
    → Settles sim p.core conn (max p.core.interleaved.state.moment p.moment) xid up room answered core
    → TakesTo stage (Dial conn up)
    (record { intake = intake.Dialed conn up; polled = None; note = note.Replied conn answered.len; answered = Some answered.error }) (record p { core = core; reply = room })
dial-takes p stage core room conn xid up answered stands known dialed is told =
    let lives = at-stage p stage (λ f. lives_as f.state.tables conn role.Core) true stands known in
    let asked = at-stage p stage (λ f. list_any (λ n. n == conn) f.dialed) true stands dialed in
    let settles = subst (λ now. Settles sim p.core conn now xid up room answered core) (max-eq_right stands.late) told in
    let answer = event.Answer conn p.moment false (Some up) false (reply.Error answered.error) in
    let made : StepMade = record { intake = intake.Dialed conn up; polled = None; note = note.Replied conn answered.len; answered = Some answered.error } in
    core-takes p stage (Dial conn up) core room made stands
    (cond-false _ (Some cause.Conn) (cond (list_any (λ n. n == conn) stage.gateway.interleaved.dialed) None (Some cause.Idle)) (ap not lives)
    ∙ cond-true _ None (Some cause.Idle) asked)
    (subst (λ x. MadeBy (DialMakes stage.gateway conn stage.moment x up) room made core) (xid-is p stage conn xid stands known is)
    (made-there (λ g now. DialMakes g conn now xid up) p stage room made core stands
    (record-made (DialMakes (gateway_of p.core) conn p.moment xid up) (answer ∷ []) (reply_record xid (reply.Error answered.error)) room conn answered.len (intake.Dialed conn up) (Some answered.error) core
    (record { error = answered.error; events = refl; happens = record { events = settles.answers; bus = settles.walk }; told = refl }) refl refl refl settles.stands)))
    (let later : core.interleaved.state.moment ≡ p.moment = (interleaved-frame p.core.interleaved core.interleaved answer settles.answers).moment_is in omega arith)
    (λ n. roles-stay p.core.interleaved core.interleaved answer n refl settles.answers) refl refl refl refl refl

-- ---- an interrupt is taken

none-mapped : (o : Option Channel) → None ≡ option_map (λ (c : Channel). c.number) o → o ≡ None
none-mapped None h = refl
none-mapped (Some c) h = absurd (cc)

-- where the connection has no channel
pub none-takes : (p : PlayerState) (stage : Stage) (conn : ℕ) → PlayerStands p stage → lives_as p.core.interleaved.state.tables conn role.Core ≡ true
    → None ≡ option_map (λ (c : Channel). c.number) (channel_at p.core.interleaved.state.tables.srq_state conn)
    → TakesTo stage (Take conn) (record { intake = intake.Nothing; polled = None; note = note.NoChannel conn; answered = None }) p
none-takes p stage conn stands known none =
    let lives = at-stage p stage (λ f. lives_as f.state.tables conn role.Core) true stands known in
    let made : StepMade = record { intake = intake.Nothing; polled = None; note = note.NoChannel conn; answered = None } in
    let free : channel_at (tables_of stage).srq_state conn ≡ None =
    subst (λ (g : Gateway). channel_at g.interleaved.state.tables.srq_state conn ≡ None) stands.gateway (none-mapped (channel_at p.core.interleaved.state.tables.srq_state conn) none) in
    let made_by : MadeBy (λ group line after. ChannelMakes stage.gateway conn None group line after) p.reply made p.core = record {
      group = [];
      makes = (record { none = refl; same = stands.gateway }, refl);
      lines = refl;
      lines2 = refl;
      answered = refl;
      note = tt;
      few = λ h. absurd (false≢true h);
    } in
    core-takes p stage (Take conn) p.core p.reply made stands (cond-true _ None (Some cause.Conn) lives)
    (subst (λ c. MadeBy (λ group line after. ChannelMakes stage.gateway conn c group line after) p.reply made p.core) (sym free) made_by)
    stands.late (λ n. refl) refl refl refl refl refl

-- what a take makes, by the channel that the connection has
channel-makes : (before after : Gateway) (conn chan : ℕ) (o : Option Channel) (told : Given) (line : Option Output)
    → Some chan ≡ option_map (λ (c : Channel). c.number) o → Happens before (event.Take conn chan told ∷ []) (Cut ∷ []) after
    → line ≡ Some (take_line conn told) → ChannelMakes before conn o (event.Take conn chan told ∷ []) line after
channel-makes before after conn chan None told line is happens shown = absurd (cc)
channel-makes before after conn chan (Some c) told line is happens shown =
    let same : chan ≡ c.number = cc in
    record { given = told; events = ap (λ k. event.Take conn k told ∷ []) same; happens = happens; told = shown }

-- where it has one
pub take-takes : (p : PlayerState) (stage : Stage) (core : CoreState SimState) (room : List ℕ) (noted : Note) (conn chan : ℕ) (told : Given) → PlayerStands p stage
    → lives_as p.core.interleaved.state.tables conn role.Core ≡ true
    → Some chan ≡ option_map (λ (c : Channel). c.number) (channel_at p.core.interleaved.state.tables.srq_state conn)
    → interleaved_step p.core.interleaved (event.Take conn chan told) ≡ Some core.interleaved → Walk (λ (s : SimState). s.means) Through p.core.bus (Cut ∷ []) core.bus
    → note_line room noted ≡ Some (take_line conn told) → NoteWithin (length room) noted
    → TakesTo stage (Take conn) (record { intake = intake.Nothing; polled = None; note = noted; answered = None }) (record p { core = core; reply = room })
take-takes p stage core room noted conn chan told stands known has went walk shown within =
    let lives = at-stage p stage (λ f. lives_as f.state.tables conn role.Core) true stands known in
    let made : StepMade = record { intake = intake.Nothing; polled = None; note = noted; answered = None } in
    let made_by : MadeBy (ChannelMakes (gateway_of p.core) conn (channel_at p.core.interleaved.state.tables.srq_state conn)) room made core = record {
      group = event.Take conn chan told ∷ [];
      makes = channel-makes (gateway_of p.core) (gateway_of core) conn chan (channel_at p.core.interleaved.state.tables.srq_state conn) told (note_line room noted) has
          (record { events = went; bus = walk }) shown;
      lines = refl;
      lines2 = refl;
      answered = refl;
      note = within;
      few = λ h. absurd (false≢true h);
    } in
    core-takes p stage (Take conn) core room made stands (cond-true _ None (Some cause.Conn) lives)
    (made-there (λ g now. ChannelMakes g conn (channel_at g.interleaved.state.tables.srq_state conn)) p stage room made core stands made_by)
    (let same : core.interleaved.state.moment ≡ p.core.interleaved.state.moment = (interleaved-frame p.core.interleaved core.interleaved (event.Take conn chan told) went).moment_is in let late = stands.late in omega arith)
    (λ n. roles-stay p.core.interleaved core.interleaved (event.Take conn chan told) n refl went) refl refl refl refl refl
