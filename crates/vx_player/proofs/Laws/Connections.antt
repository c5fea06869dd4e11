-- What each step on a connection makes of the stage that a player stands at.
use Rattle.std.proofs.Common.{◌≡◌, ◌≢◌, ◌==◌, ℕ, ◌<◌, ◌≤◌, Bool, true, false, not, List, [], ◌∷◌, ◌++◌, length, Option, Some, None, is_some, is_none, IfSome, IsSome, IfOk, IfErr, OnOk, Result, Ok, Err, ◌⊎◌, inl, inr, ⊎_elim, refl, sym, ap, ◌∙◌, subst, arith}
use Rattle.std.proofs.lemmas.Bool.{cond-true, cond-false, false≢true, cases_eq, eq-eqb, ne_eqb}
use Rattle.vx_calls.specs.declared.calls.Role.{Role}
use Rattle.vx_calls.specs.declared.limits.TheConstants.{RECORD_MAX}
use Rattle.vx_record.specs.Buffer.{BufState, fresh, fed, taken}
use Rattle.vx_record.specs.declared.Feed.{Feed}
use Rattle.vx_record.specs.declared.Feed.TheVariants as feed
use Rattle.vx_record.specs.Records.{records}
use Rattle.vx_record.specs.Ends.{FeedEnds}
use Rattle.vx_record.proofs.Laws.{fed-limit, fed-append}
use Rattle.vx_record.proofs.Laws.Ends.{feed-ends}
use Rattle.vx_488.specs.Steps.{Cut}
use Rattle.vx_script.specs.declared.Cause.TheVariants as cause
use Rattle.vx_script.specs.Command.{Command, Up, In, Down}
use Rattle.vx_trace.specs.Output.{Output, Call}
use Rattle.vx_rules.specs.Lists.{along}
use Rattle.vx_rules.specs.State.{Pending, role_at, pending_at, has_room}
use Rattle.vx_flow.specs.Event.{Event}
use Rattle.vx_flow.specs.Event as event
use Rattle.vx_flow.specs.InterleavedState.{InterleavedState}
use Rattle.vx_flow.specs.InterleavedStep.{interleaved_step}
use Rattle.vx_flow.proofs.Laws.{interleaved-does, interleaved-frame}
use Rattle.vx_player.specs.declared.note.Intake.TheVariants as intake
use Rattle.vx_player.specs.declared.note.StepMade.{StepMade}
use Rattle.vx_player.specs.declared.note.Gone.TheVariants as gone
use Rattle.vx_player.specs.declared.note.Note.TheVariants as note
use Rattle.vx_setup.specs.declared.stops.Refusal.{Refusal}
use Rattle.vx_setup.specs.declared.stops.Refusal.TheVariants as stop
use Rattle.vx_player.specs.declared.pieces.Incoming.{Incoming}
use Rattle.vx_player.specs.Gateway.{Gateway, gateway_of, BusGoes, Happens}
use Rattle.vx_run.specs.Stream.{Brought, NoEnd, Whole, TooLong, After, brought, by_split, kept_after, message_by}
use Rattle.vx_run.specs.RunText.{message_lines}
use Rattle.vx_exchange.specs.Meaning.{Meaning, Junk, Answered, Asks, Aborts, meaning, xid_by}
use Rattle.vx_player.specs.Stage.{Stage, tables_of, refusal}
use Rattle.vx_run.specs.Forming.{refused_by}
use Rattle.vx_player.specs.Making.{MessageMakes, RecordMakes, PieceMakes, Makes}
use Rattle.vx_player.specs.Play.{stream_after, xid_after}
use Rattle.vx_run.specs.Position.{xid_of, xid_brought}
use Rattle.vx_player.specs.PlayerState.{PlayerState, incoming_at}
use Rattle.vx_player.specs.Serving.{MadeBy}
use Rattle.vx_player.specs.Feeding.{kept_behind, AnswersRecord, FeedMakes, FeedsPiece, StopsPiece}
use Rattle.vx_player.specs.Standing.{HoldsStream, PlayerHolds, PlayerStands, IsPlayerReady, HasLineRoom, TakesTo}
use Rattle.vx_player.specs.Wanting.{StopsFor}
use Rattle.vx_player.proofs.Laws.{by_end, brought_of}
use Rattle.vx_player.proofs.Roles.{roles-stay, polls-roles, up-lives, up-others, down-roles, down-others}
use Rattle.vx_player.proofs.Stepping.{HoldsBehind, made-there, takes-to, call_lines}
use Rattle.vx_player.proofs.Feeds.{kept-behind}

-- ---- what is kept of connections

-- what is kept stays where role, buffer, stream and xid stay
holds-same : (r t : Option Role) (k j : Option Incoming) (x y : List ℕ) (a b : ℕ) → t ≡ r → j ≡ k → y ≡ x → b ≡ a → PlayerHolds r k x a → PlayerHolds t j y b
holds-same r t k j x y a b er ek ex ea h =
    subst (λ v. PlayerHolds v j y b) (sym er) (subst (λ v. PlayerHolds r v y b) (sym ek) (subst (λ v. PlayerHolds r k v b) (sym ex) (subst (λ v. PlayerHolds r k x v) (sym ea) h)))

-- nothing is kept of a connection that is gone
holds-none : (r : Option Role) (k : Option Incoming) (x : List ℕ) (a : ℕ) → r ≡ None → k ≡ None → PlayerHolds r k x a
holds-none r k x a er ek = subst (λ v. PlayerHolds v k x a) (sym er) ek

-- the buffer of one that lives
holds-some : (r : Option Role) (role : Role) (k : Option Incoming) (kept : Incoming) (x : List ℕ) (a : ℕ) → r ≡ Some role → k ≡ Some kept → HoldsStream kept x a → PlayerHolds r k x a
holds-some r role k kept x a er ek h = subst (λ v. PlayerHolds v k x a) (sym er) (subst (λ v. PlayerHolds (Some role) v x a) (sym ek) h)

held-stream : (r : Option Role) (role : Role) (k : Option Incoming) (kept : Incoming) (x : List ℕ) (a : ℕ) → r ≡ Some role → k ≡ Some kept → PlayerHolds r k x a → HoldsStream kept x a
held-stream r role k kept x a er ek h = subst (λ v. PlayerHolds (Some role) v x a) ek (subst (λ v. PlayerHolds v k x a) er h)

-- one that lives has a buffer
has-buffer : (r : Option Role) (role : Role) (k : Option Incoming) (x : List ℕ) (a : ℕ) → r ≡ Some role → PlayerHolds r k x a → (kept : Incoming) × (k ≡ Some kept)
has-buffer r role None x a er h = absurd (subst (λ v. PlayerHolds v None x a) er h)
has-buffer r role (Some kept) x a er h = (kept, refl)

-- a player that stands at a stage is ready for a step
waits-held : (r : Option Role) (k : Option Incoming) (x : List ℕ) (a : ℕ) → PlayerHolds r k x a → IfSome k (λ kept. kept.buffer.state ≡ feed.More)
waits-held r None x a h = tt
waits-held None (Some kept) x a h = cc
waits-held (Some role) (Some kept) x a h = h.waits

limits-held : (r : Option Role) (k : Option Incoming) (x : List ℕ) (a : ℕ) → PlayerHolds r k x a → IfSome k (λ kept. kept.buffer.limit ≡ RECORD_MAX)
limits-held r None x a h = tt
limits-held None (Some kept) x a h = cc
limits-held (Some role) (Some kept) x a h = ap (λ (b : BufState). b.limit) h.held ∙ fed-limit (fresh RECORD_MAX) x

pub stands-ready : (player : PlayerState) (stage : Stage) → PlayerStands player stage → IsPlayerReady player
stands-ready player stage stands = record {
  waits = λ n. waits-held (role_at (tables_of stage) n) (incoming_at player.incoming n) (stage.streams n) (stage.xids n) (stands.incoming n);
  limits = λ n. limits-held (role_at (tables_of stage) n) (incoming_at player.incoming n) (stage.streams n) (stage.xids n) (stands.incoming n);
  late = stands.late;
}

-- a role in the player's gateway is the stage's
stage-role : (stage : Stage) (old : PlayerState) (conn : ℕ) → PlayerStands old stage → role_at (tables_of stage) conn ≡ role_at old.core.interleaved.state.tables conn
stage-role stage old conn stands = ap (λ (g : Gateway). role_at g.interleaved.state.tables conn) (sym stands.gateway)

-- a command on one connection leaves every other as it is
record Elsewhere (before : Stage) (command : Command) (conn : ℕ) (old new : PlayerState) : Type 0 where
  roles : (n : ℕ) → n ≢ conn → role_at new.core.interleaved.state.tables n ≡ role_at old.core.interleaved.state.tables n
  incoming : (n : ℕ) → n ≢ conn → incoming_at new.incoming n ≡ incoming_at old.incoming n
  streams : (n : ℕ) → n ≢ conn → stream_after before command n ≡ before.streams n
  xids : (n : ℕ) → n ≢ conn → xid_after before command n ≡ before.xids n

-- what is kept of each connection behind it, where that connection's is known
behind : (before : Stage) (command : Command) (conn : ℕ) (old new : PlayerState) → PlayerStands old before → Elsewhere before command conn old new
    → PlayerHolds (role_at new.core.interleaved.state.tables conn) (incoming_at new.incoming conn) (stream_after before command conn) (xid_after before command conn)
    → HoldsBehind before command new
behind before command conn old new stands others here = λ n.
    ⊎_elim
    (λ e. subst (λ m. PlayerHolds (role_at new.core.interleaved.state.tables m) (incoming_at new.incoming m) (stream_after before command m) (xid_after before command m)) (sym e) here)
    (λ ne. holds-same (role_at (tables_of before) n) (role_at new.core.interleaved.state.tables n) (incoming_at old.incoming n) (incoming_at new.incoming n)
    (before.streams n) (stream_after before command n) (before.xids n) (xid_after before command n)
    (others.roles n ne ∙ sym (stage-role before old n stands)) (others.incoming n ne) (others.streams n ne) (others.xids n ne) (stands.incoming n))
    (cases_eq n conn)

-- ---- a connection comes up

-- a number of the stage
number-next : (stage : Stage) (old : PlayerState) (conn : ℕ) → PlayerStands old stage → conn ≡ old.core.interleaved.state.tables.next_connection
    → not (conn == (tables_of stage).next_connection) ≡ false
number-next stage old conn stands at =
    ap not (eq-eqb conn (tables_of stage).next_connection (at ∙ ap (λ (g : Gateway). g.interleaved.state.tables.next_connection) stands.gateway))

stage-room : (stage : Stage) (old : PlayerState) (r : Role) (b : Bool) → PlayerStands old stage → has_room old.core.interleaved.state.tables r ≡ b → has_room (tables_of stage) r ≡ b
stage-room stage old r b stands room = ap (λ (g : Gateway). has_room g.interleaved.state.tables r) (sym stands.gateway) ∙ room

-- another number than the next is refused
pub up-number : (stage : Stage) (old : PlayerState) (conn : ℕ) (r : Role) → PlayerStands old stage → conn ≢ old.core.interleaved.state.tables.next_connection
    → refusal stage (Up conn r) ≡ Some cause.Number
up-number stage old conn r stands ne =
    cond-true _ (Some cause.Number) _
    (ap not (ne_eqb conn (tables_of stage).next_connection (λ e. ne (e ∙ ap (λ (g : Gateway). g.interleaved.state.tables.next_connection) (sym stands.gateway)))))

-- so is one for which there is no room
pub up-full : (stage : Stage) (old : PlayerState) (conn : ℕ) (r : Role) → PlayerStands old stage → conn ≡ old.core.interleaved.state.tables.next_connection
    → has_room old.core.interleaved.state.tables r ≡ false → refusal stage (Up conn r) ≡ Some cause.Full
up-full stage old conn r stands at room =
    cond-false _ (Some cause.Number) _ (number-next stage old conn stands at) ∙ cond-false _ None (Some cause.Full) (stage-room stage old r false stands room)

-- and any other isn't
pub up-allowed : (stage : Stage) (old : PlayerState) (conn : ℕ) (r : Role) → PlayerStands old stage → conn ≡ old.core.interleaved.state.tables.next_connection
    → has_room old.core.interleaved.state.tables r ≡ true → refusal stage (Up conn r) ≡ None
up-allowed stage old conn r stands at room =
    cond-false _ (Some cause.Number) _ (number-next stage old conn stands at) ∙ cond-true _ None (Some cause.Full) (stage-room stage old r true stands room)

not-false : (b : Bool) → (b ≡ false → ⊥) → b ≡ true
not-false true h = refl
not-false false h = absurd (h refl)

-- memory is wanted for one that isn't refused
pub up-wants : (stage : Stage) (old : PlayerState) (conn : ℕ) (r : Role) → PlayerStands old stage → conn ≡ old.core.interleaved.state.tables.next_connection
    → (has_room old.core.interleaved.state.tables r ≡ false → ⊥) → refusal stage (Up conn r) ≡ None
up-wants stage old conn r stands at room = up-allowed stage old conn r stands at (not-false (has_room old.core.interleaved.state.tables r) room)

pub up-came : (stage : Stage) (old : PlayerState) (g : InterleavedState) (conn n : ℕ) (r : Role) → PlayerStands old stage → conn ≡ old.core.interleaved.state.tables.next_connection
    → interleaved_step old.core.interleaved (event.Up n r) ≡ Some g → refusal stage (Up conn r) ≡ None
up-came stage old g conn n r stands at came = up-allowed stage old conn r stands at (interleaved-does old.core.interleaved g (event.Up n r) came).step.room

pub up-takes : (stage : Stage) (old new : PlayerState) (conn n : ℕ) (r : Role) → PlayerStands old stage → conn ≡ old.core.interleaved.state.tables.next_connection
    → interleaved_step old.core.interleaved (event.Up n r) ≡ Some new.core.interleaved → BusGoes old.core.bus (Cut ∷ []) new.core.bus
    → incoming_at new.incoming conn ≡ Some (record { buffer = fresh RECORD_MAX; xid = 0 })
    → ((m : ℕ) → m ≢ conn → incoming_at new.incoming m ≡ incoming_at old.incoming m) → new.rack ≡ old.rack → new.moment ≡ old.moment
    → TakesTo stage (Up conn r) (record { intake = intake.Up conn r; polled = None; note = note.Nothing; answered = None }) new
up-takes stage old new conn n r stands at came walk here others rack moment =
    let made : StepMade = record { intake = intake.Up conn r; polled = None; note = note.Nothing; answered = None } in
    let same : n ≡ conn = (interleaved-does old.core.interleaved new.core.interleaved (event.Up n r) came).step.number ∙ sym at in
    let up : interleaved_step old.core.interleaved (event.Up conn r) ≡ Some new.core.interleaved = subst (λ k. interleaved_step old.core.interleaved (event.Up k r) ≡ Some new.core.interleaved) same came in
    let lives = up-lives old.core.interleaved new.core.interleaved conn r up in
    let still : new.core.interleaved.state.moment ≡ old.core.interleaved.state.moment = (interleaved-frame old.core.interleaved new.core.interleaved (event.Up conn r) up).moment_is in
    let late : old.core.interleaved.state.moment ≤ old.moment = stands.late in
    let happens : Happens stage.gateway (event.Up conn r ∷ []) (Cut ∷ []) (gateway_of new.core) =
    subst (λ g. Happens g (event.Up conn r ∷ []) (Cut ∷ []) (gateway_of new.core)) stands.gateway (record { events = up; bus = walk }) in
    takes-to stage (Up conn r) new made (up-came stage old new.core.interleaved conn n r stands at came)
    (record { group = event.Up conn r ∷ []; makes = (refl, happens, refl); lines = refl; lines2 = refl; answered = refl; note = tt; few = λ polled. absurd (false≢true polled) })
    refl (omega arith) (moment ∙ stands.moment) (rack ∙ stands.rack)
    (behind stage (Up conn r) conn old new stands
    (record {
      roles = λ m ne. up-others old.core.interleaved new.core.interleaved conn r m (λ e. ne (sym e)) up;
      incoming = others;
      streams = λ m ne. cond-false _ [] (stage.streams m) (ne_eqb m conn ne);
      xids = λ m ne. cond-false _ 0 (stage.xids m) (ne_eqb m conn ne);
    })
    (holds-some (role_at new.core.interleaved.state.tables conn) lives.0 (incoming_at new.incoming conn) (record { buffer = fresh RECORD_MAX; xid = 0 }) _ _ lives.1 here
    (record {
      held = ap (fed (fresh RECORD_MAX)) (sym (cond-true _ [] (stage.streams conn) (eq-eqb conn conn refl)));
      waits = refl;
      called = sym (cond-true _ 0 (stage.xids conn) (eq-eqb conn conn refl));
    })))

-- ---- a connection goes

lives-known : (stage : Stage) (old : PlayerState) (conn : ℕ) (r : Role) → PlayerStands old stage → role_at old.core.interleaved.state.tables conn ≡ Some r
    → is_none (role_at (tables_of stage) conn) ≡ false
lives-known stage old conn r stands live = ap is_none (stage-role stage old conn stands ∙ live)

-- a connection that doesn't live is refused
pub down-refused : (stage : Stage) (old : PlayerState) (conn : ℕ) → PlayerStands old stage → role_at old.core.interleaved.state.tables conn ≡ None
    → refusal stage (Down conn) ≡ Some cause.Conn
down-refused stage old conn stands none = cond-true _ (Some cause.Conn) None (ap is_none (stage-role stage old conn stands ∙ none))

-- what is kept of each connection behind one that ended
behind-gone : (before : Stage) (command : Command) (conn : ℕ) (old new : PlayerState) → PlayerStands old before
    → interleaved_step old.core.interleaved (event.Down conn) ≡ Some new.core.interleaved → incoming_at new.incoming conn ≡ None
    → ((m : ℕ) → m ≢ conn → incoming_at new.incoming m ≡ incoming_at old.incoming m)
    → ((m : ℕ) → m ≢ conn → stream_after before command m ≡ before.streams m) → ((m : ℕ) → m ≢ conn → xid_after before command m ≡ before.xids m)
    → HoldsBehind before command new
behind-gone before command conn old new stands went here others streams xids =
    behind before command conn old new stands
    (record { roles = λ m ne. down-others old.core.interleaved new.core.interleaved conn m (λ e. ne (sym e)) went; incoming = others; streams = streams; xids = xids })
    (holds-none _ _ _ _ (down-roles old.core.interleaved new.core.interleaved conn went) here)

pub down-takes : (stage : Stage) (old new : PlayerState) (conn : ℕ) (r : Role) → PlayerStands old stage → role_at old.core.interleaved.state.tables conn ≡ Some r
    → Happens (gateway_of old.core) (event.Down conn ∷ []) (Cut ∷ []) (gateway_of new.core) → incoming_at new.incoming conn ≡ None
    → ((m : ℕ) → m ≢ conn → incoming_at new.incoming m ≡ incoming_at old.incoming m) → new.rack ≡ old.rack → new.moment ≡ old.moment
    → TakesTo stage (Down conn) (record { intake = intake.Nothing; polled = None; note = note.Ended conn gone.Down; answered = None }) new
down-takes stage old new conn r stands live went here others rack moment =
    let made : StepMade = record { intake = intake.Nothing; polled = None; note = note.Ended conn gone.Down; answered = None } in
    let down : interleaved_step old.core.interleaved (event.Down conn) ≡ Some new.core.interleaved = went.events in
    let still : new.core.interleaved.state.moment ≡ old.core.interleaved.state.moment = (interleaved-frame old.core.interleaved new.core.interleaved (event.Down conn) down).moment_is in
    let late : old.core.interleaved.state.moment ≤ old.moment = stands.late in
    let happens : Happens stage.gateway (event.Down conn ∷ []) (Cut ∷ []) (gateway_of new.core) =
    subst (λ g. Happens g (event.Down conn ∷ []) (Cut ∷ []) (gateway_of new.core)) stands.gateway went in
    takes-to stage (Down conn) new made (cond-false _ (Some cause.Conn) None (lives-known stage old conn r stands live))
    (record {
      group = event.Down conn ∷ [];
      makes = record { events = refl; happens = happens; told = refl };
      lines = refl;
      lines2 = refl;
      answered = refl;
      note = tt;
      few = λ polled. absurd (false≢true polled);
    })
    refl (omega arith) (moment ∙ stands.moment) (rack ∙ stands.rack)
    (behind-gone stage (Down conn) conn old new stands down here others (λ m ne. refl) (λ m ne. refl))

-- ---- a piece of a stream comes

-- where a buffer stands that took a piece behind a stream
feeds-end : (stream piece : List ℕ) (buffer : BufState) → buffer ≡ fed (fresh RECORD_MAX) stream → buffer.state ≡ feed.More → 0 < length piece
    → FeedEnds RECORD_MAX (stream ++ piece) (fed buffer piece) (taken buffer piece) (length piece)
feeds-end stream piece buffer held waits some =
    let fresh_waits : (fed (fresh RECORD_MAX) stream).state ≡ feed.More = ap (λ (b : BufState). b.state) (sym held) ∙ waits in
    subst (λ b. FeedEnds RECORD_MAX (stream ++ piece) (fed b piece) (taken b piece) (length piece)) (sym held) (feed-ends RECORD_MAX stream piece fresh_waits some)

-- the whole piece was taken
brought-is : (stream piece : List ℕ) (buffer : BufState) → buffer ≡ fed (fresh RECORD_MAX) stream → buffer.state ≡ feed.More → 0 < length piece
    → taken buffer piece ≡ length piece → brought stream piece ≡ brought_of (fed buffer piece).state (fed buffer piece).kept
brought-is stream piece buffer held waits some all =
    let ends = feeds-end stream piece buffer held waits some in
    cond-false _ After _ (ends.open_before all) ∙ by_end (fed buffer piece).state (fed buffer piece).kept (records RECORD_MAX (stream ++ piece)) (ends.ends all)

-- bytes follow a record
brought-after : (stream piece : List ℕ) (buffer : BufState) → buffer ≡ fed (fresh RECORD_MAX) stream → buffer.state ≡ feed.More → 0 < length piece
    → taken buffer piece < length piece → brought stream piece ≡ After
brought-after stream piece buffer held waits some short =
    let ends = feeds-end stream piece buffer held waits some in
    cond-true _ After (let split = records RECORD_MAX (stream ++ piece) in by_split split.records split.too_long) (ends.settled_before short)

-- a piece on a connection that lives without a call is refused by what it brings
pub piece-refusal : (stage : Stage) (old : PlayerState) (conn : ℕ) (r : Role) (piece : List ℕ) (b : Brought) → PlayerStands old stage
    → role_at old.core.interleaved.state.tables conn ≡ Some r → pending_at old.core.interleaved.state.tables conn ≡ None → brought (stage.streams conn) piece ≡ b
    → refusal stage (In conn piece) ≡ refused_by b
piece-refusal stage old conn r piece b stands live idle is =
    cond-false _ (Some cause.Conn) _ (lives-known stage old conn r stands live)
    ∙ cond-false _ (Some cause.Busy) _ (ap (λ (g : Gateway). is_some (pending_at g.interleaved.state.tables conn)) (sym stands.gateway) ∙ ap is_some idle)
    ∙ ap refused_by is

-- one on a connection that doesn't live
pub piece-unknown : (stage : Stage) (old : PlayerState) (conn : ℕ) (piece : List ℕ) → PlayerStands old stage → role_at old.core.interleaved.state.tables conn ≡ None
    → refusal stage (In conn piece) ≡ Some cause.Conn
piece-unknown stage old conn piece stands none = cond-true _ (Some cause.Conn) _ (ap is_none (stage-role stage old conn stands ∙ none))

-- one on a connection that has a call
pub piece-busy : (stage : Stage) (old : PlayerState) (conn : ℕ) (r : Role) (piece : List ℕ) → PlayerStands old stage
    → role_at old.core.interleaved.state.tables conn ≡ Some r → is_some (pending_at old.core.interleaved.state.tables conn) ≡ true
    → refusal stage (In conn piece) ≡ Some cause.Busy
piece-busy stage old conn r piece stands live busy =
    cond-false _ (Some cause.Conn) _ (lives-known stage old conn r stands live)
    ∙ cond-true _ (Some cause.Busy) _ (ap (λ (g : Gateway). is_some (pending_at g.interleaved.state.tables conn)) (sym stands.gateway) ∙ busy)

-- why a piece isn't taken
pub piece-stops : (stage : Stage) (old : PlayerState) (conn : ℕ) (r : Role) (piece : List ℕ) (why : Refusal) → PlayerStands old stage
    → role_at old.core.interleaved.state.tables conn ≡ Some r → pending_at old.core.interleaved.state.tables conn ≡ None → 0 < length piece
    → ((kept : Incoming) → incoming_at old.incoming conn ≡ Some kept → StopsPiece kept piece why) → StopsFor stage (In conn piece) why
piece-stops stage old conn r piece why stands live idle some stops =
    let live_there : role_at (tables_of stage) conn ≡ Some r = stage-role stage old conn stands ∙ live in
    let found = has-buffer (role_at (tables_of stage) conn) r (incoming_at old.incoming conn) (stage.streams conn) (stage.xids conn) live_there (stands.incoming conn) in
    let holds = held-stream (role_at (tables_of stage) conn) r (incoming_at old.incoming conn) found.0 (stage.streams conn) (stage.xids conn) live_there found.1 (stands.incoming conn) in
    by why found.0 (stops found.0 found.1) holds
  where
    by : (why : Refusal) (kept : Incoming) → StopsPiece kept piece why → HoldsStream kept (stage.streams conn) (stage.xids conn) → StopsFor stage (In conn piece) why
    by (stop.Refused refused) kept h holds =
        piece-refusal stage old conn r piece After stands live idle (brought-after (stage.streams conn) piece kept.buffer holds.held holds.waits some h.1)
        ∙ ap Some (sym h.0)
    by stop.NoMemory kept h holds = absurd h

-- ---- a piece that is taken

-- what it made in the player's gateway is what it makes at the stage
piece-made : (stage : Stage) (old new : PlayerState) (conn : ℕ) (piece : List ℕ) (b : Brought) (made : StepMade) → PlayerStands old stage → brought (stage.streams conn) piece ≡ b
    → MadeBy (PieceMakes (gateway_of old.core) conn old.moment b) new.reply made new.core → MadeBy (Makes stage (In conn piece)) new.reply made new.core
piece-made stage old new conn piece b made stands is made_by =
    subst (λ v. MadeBy (PieceMakes stage.gateway conn stage.moment v) new.reply made new.core) (sym is)
    (made-there (λ g now. PieceMakes g conn now b) old stage new.reply made new.core stands made_by)

-- no message but junk changes who lives, and in which role
message-roles : (g h : Gateway) (conn now : ℕ) (m : Meaning) (group : List Event) (line : Option Output) (n : ℕ) → m ≢ Junk → MessageMakes g conn now m group line h
    → role_at h.interleaved.state.tables n ≡ role_at g.interleaved.state.tables n
message-roles g h conn now Junk group line n live makes = absurd (live refl)
message-roles g h conn now (Answered message) group line n live makes = ap (λ (v : Gateway). role_at v.interleaved.state.tables n) makes.0.same
message-roles g h conn now (Asks xid asked) group line n live makes =
    polls-roles makes.come.interleaved conn now _ _ h.interleaved n makes.polled.over.polls
    ∙ roles-stay g.interleaved makes.come.interleaved (event.Arrive conn asked now) n refl makes.comes.events
message-roles g h conn now (Aborts xid lid) group line n live makes =
    roles-stay g.interleaved h.interleaved (event.Abort conn lid makes.error) n refl (subst (λ es. along interleaved_step (Some g.interleaved) es ≡ Some h.interleaved) makes.events makes.happens.events)

-- whether a message is junk
junk-or : (m : Meaning) → (m ≡ Junk) ⊎ (m ≢ Junk)
junk-or Junk = inl refl
junk-or _ = inr (λ e. absurd (cc))

here-stream : (stage : Stage) (conn : ℕ) (piece : List ℕ) → stream_after stage (In conn piece) conn ≡ kept_after (brought (stage.streams conn) piece) (stage.streams conn ++ piece)
here-stream stage conn piece = cond-true _ _ (stage.streams conn) (eq-eqb conn conn refl)

here-xid : (stage : Stage) (conn : ℕ) (piece : List ℕ)
    → xid_after stage (In conn piece) conn ≡ xid_brought (brought (stage.streams conn) piece) (role_at (tables_of stage) conn) (stage.xids conn)
here-xid stage conn piece = cond-true _ _ (stage.xids conn) (eq-eqb conn conn refl)

other-stream : (stage : Stage) (conn m : ℕ) (piece : List ℕ) → m ≢ conn → stream_after stage (In conn piece) m ≡ stage.streams m
other-stream stage conn m piece ne = cond-false _ (kept_after (brought (stage.streams conn) piece) (stage.streams conn ++ piece)) (stage.streams m) (ne_eqb m conn ne)

other-xid : (stage : Stage) (conn m : ℕ) (piece : List ℕ) → m ≢ conn → xid_after stage (In conn piece) m ≡ stage.xids m
other-xid stage conn m piece ne = cond-false _ (xid_brought (brought (stage.streams conn) piece) (role_at (tables_of stage) conn) (stage.xids conn)) (stage.xids m) (ne_eqb m conn ne)

-- a piece that was fed on a connection that lives without a call, and what it left of everything else
pub record Fed (stage : Stage) (old new : PlayerState) (conn : ℕ) (r : Role) (kept : Incoming) (piece : List ℕ) : Type 0 where
  pub stands : PlayerStands old stage
  pub live : role_at old.core.interleaved.state.tables conn ≡ Some r
  pub idle : pending_at old.core.interleaved.state.tables conn ≡ None
  pub here : incoming_at old.incoming conn ≡ Some kept
  pub some : 0 < length piece
  pub whole : taken kept.buffer piece ≡ length piece
  pub late : new.core.interleaved.state.moment ≤ old.moment
  pub others : (m : ℕ) → m ≢ conn → incoming_at new.incoming m ≡ incoming_at old.incoming m
  pub rack : new.rack ≡ old.rack
  pub moment : new.moment ≡ old.moment

fed-holds : (stage : Stage) (old new : PlayerState) (conn : ℕ) (r : Role) (kept : Incoming) (piece : List ℕ) → Fed stage old new conn r kept piece
    → HoldsStream kept (stage.streams conn) (stage.xids conn)
fed-holds stage old new conn r kept piece f =
    held-stream (role_at (tables_of stage) conn) r (incoming_at old.incoming conn) kept (stage.streams conn) (stage.xids conn)
    (stage-role stage old conn f.stands ∙ f.live) f.here (f.stands.incoming conn)

-- a piece that isn't refused, by what it brings
fed-takes : (stage : Stage) (old new : PlayerState) (conn : ℕ) (r : Role) (kept : Incoming) (piece : List ℕ) (b : Brought) (made : StepMade) → Fed stage old new conn r kept piece
    → brought (stage.streams conn) piece ≡ b → refused_by b ≡ None → MadeBy (PieceMakes (gateway_of old.core) conn old.moment b) new.reply made new.core
    → message_lines (In conn piece) (message_by b) ≡ call_lines new.message made.intake → HoldsBehind stage (In conn piece) new → TakesTo stage (In conn piece) made new
fed-takes stage old new conn r kept piece b made f is allowed made_by called holds =
    let late = f.late in
    let moment = f.moment in
    takes-to stage (In conn piece) new made (piece-refusal stage old conn r piece b f.stands f.live f.idle is ∙ allowed)
    (piece-made stage old new conn piece b made f.stands is made_by) (ap (λ k. message_lines (In conn piece) (message_by k)) is ∙ called) (omega arith) (f.moment ∙ f.stands.moment) (f.rack ∙ f.stands.rack) holds

-- no record ends in it
more-takes : (stage : Stage) (old new : PlayerState) (conn : ℕ) (r : Role) (kept : Incoming) (piece : List ℕ) → Fed stage old new conn r kept piece
    → brought (stage.streams conn) piece ≡ NoEnd → (fed kept.buffer piece).state ≡ feed.More → gateway_of new.core ≡ gateway_of old.core
    → incoming_at new.incoming conn ≡ Some (record kept { buffer = fed kept.buffer piece })
    → TakesTo stage (In conn piece) (record { intake = intake.Nothing; polled = None; note = note.Nothing; answered = None }) new
more-takes stage old new conn r kept piece f is more same there =
    let holds = fed-holds stage old new conn r kept piece f in
    let roles : (m : ℕ) → role_at new.core.interleaved.state.tables m ≡ role_at old.core.interleaved.state.tables m = λ m. ap (λ (g : Gateway). role_at g.interleaved.state.tables m) same in
    let joined : fed kept.buffer piece ≡ fed (fresh RECORD_MAX) (stage.streams conn ++ piece) =
    ap (λ b. fed b piece) holds.held ∙ sym (fed-append (fresh RECORD_MAX) (stage.streams conn) piece) in
    let stream : stream_after stage (In conn piece) conn ≡ stage.streams conn ++ piece =
    here-stream stage conn piece ∙ ap (λ b. kept_after b (stage.streams conn ++ piece)) is in
    let xid : xid_after stage (In conn piece) conn ≡ stage.xids conn =
    here-xid stage conn piece ∙ ap (λ b. xid_brought b (role_at (tables_of stage) conn) (stage.xids conn)) is in
    fed-takes stage old new conn r kept piece NoEnd (record { intake = intake.Nothing; polled = None; note = note.Nothing; answered = None }) f is refl
    (record { group = []; makes = (record { none = refl; same = same }, refl); lines = refl; lines2 = refl; answered = refl; note = tt; few = λ polled. absurd (false≢true polled) }) refl
    (behind stage (In conn piece) conn old new f.stands
    (record { roles = λ m ne. roles m; incoming = f.others; streams = λ m ne. other-stream stage conn m piece ne; xids = λ m ne. other-xid stage conn m piece ne })
    (holds-some _ r _ (record kept { buffer = fed kept.buffer piece }) _ _ (roles conn ∙ f.live) there
    (record { held = joined ∙ ap (fed (fresh RECORD_MAX)) (sym stream); waits = more; called = holds.called ∙ sym xid })))

-- a header takes its record above the limit
long-takes : (stage : Stage) (old new : PlayerState) (conn : ℕ) (r : Role) (kept : Incoming) (piece : List ℕ) → Fed stage old new conn r kept piece
    → brought (stage.streams conn) piece ≡ TooLong → Happens (gateway_of old.core) (event.Down conn ∷ []) (Cut ∷ []) (gateway_of new.core)
    → incoming_at new.incoming conn ≡ None
    → TakesTo stage (In conn piece) (record { intake = intake.Nothing; polled = None; note = note.Ended conn gone.Long; answered = None }) new
long-takes stage old new conn r kept piece f is went there =
    fed-takes stage old new conn r kept piece TooLong (record { intake = intake.Nothing; polled = None; note = note.Ended conn gone.Long; answered = None }) f is refl
    (record {
      group = event.Down conn ∷ [];
      makes = record { events = refl; happens = went; told = refl };
      lines = refl;
      lines2 = refl;
      answered = refl;
      note = tt;
      few = λ polled. absurd (false≢true polled);
    }) refl
    (behind-gone stage (In conn piece) conn old new f.stands went.events there f.others (λ m ne. other-stream stage conn m piece ne) (λ m ne. other-xid stage conn m piece ne))

-- a whole record: what is kept behind it
record-behind : (stage : Stage) (old new : PlayerState) (conn : ℕ) (r : Role) (kept : Incoming) (piece : List ℕ) (made : StepMade) (m : Meaning) → Fed stage old new conn r kept piece
    → meaning (fed kept.buffer piece).kept r ≡ m → brought (stage.streams conn) piece ≡ Whole (fed kept.buffer piece).kept
    → MadeBy (MessageMakes (gateway_of old.core) conn old.moment m) new.reply made new.core
    → incoming_at new.incoming conn ≡ kept_behind m (record kept { buffer = fed kept.buffer piece })
    → HoldsBehind stage (In conn piece) new
record-behind stage old new conn r kept piece made m f means is made_by there = ⊎_elim gone live (junk-or m) where
  gone : m ≡ Junk → HoldsBehind stage (In conn piece) new
  gone junk =
      let ended = subst (λ k. MadeBy (MessageMakes (gateway_of old.core) conn old.moment k) new.reply made new.core) junk made_by in
      let went : interleaved_step old.core.interleaved (event.Down conn) ≡ Some new.core.interleaved =
      subst (λ es. along interleaved_step (Some old.core.interleaved) es ≡ Some new.core.interleaved) ended.makes.events ended.makes.happens.events in
      behind-gone stage (In conn piece) conn old new f.stands went (there ∙ ap (λ k. kept_behind k (record kept { buffer = fed kept.buffer piece })) junk) f.others
      (λ n ne. other-stream stage conn n piece ne) (λ n ne. other-xid stage conn n piece ne)

  live : m ≢ Junk → HoldsBehind stage (In conn piece) new
  live not_junk =
      let holds = fed-holds stage old new conn r kept piece f in
      let roles : (n : ℕ) → role_at new.core.interleaved.state.tables n ≡ role_at old.core.interleaved.state.tables n =
      λ n. message-roles (gateway_of old.core) (gateway_of new.core) conn old.moment m made_by.group _ n not_junk made_by.makes in
      let role_there : role_at (tables_of stage) conn ≡ Some r = stage-role stage old conn f.stands ∙ f.live in
      let limit : (fed kept.buffer piece).limit ≡ RECORD_MAX =
      fed-limit kept.buffer piece ∙ ap (λ (b : BufState). b.limit) holds.held ∙ fed-limit (fresh RECORD_MAX) (stage.streams conn) in
      let stream : stream_after stage (In conn piece) conn ≡ [] =
      here-stream stage conn piece ∙ ap (λ b. kept_after b (stage.streams conn ++ piece)) is in
      let xid : xid_after stage (In conn piece) conn ≡ xid_by m (stage.xids conn) =
      here-xid stage conn piece ∙ ap (λ b. xid_brought b (role_at (tables_of stage) conn) (stage.xids conn)) is
      ∙ ap (λ o. xid_of (fed kept.buffer piece).kept o (stage.xids conn)) role_there ∙ ap (λ k. xid_by k (stage.xids conn)) means in
      behind stage (In conn piece) conn old new f.stands
      (record { roles = λ n ne. roles n; incoming = f.others; streams = λ n ne. other-stream stage conn n piece ne; xids = λ n ne. other-xid stage conn n piece ne })
      (holds-some _ r _ (record { buffer = fresh (fed kept.buffer piece).limit; xid = xid_by m kept.xid }) _ _ (roles conn ∙ f.live)
      (there ∙ sym (kept-behind m (record kept { buffer = fed kept.buffer piece }) not_junk))
      (record {
        held = ap fresh limit ∙ ap (fed (fresh RECORD_MAX)) (sym stream);
        waits = refl;
        called = ap (xid_by m) holds.called ∙ sym xid;
      }))

-- a whole record that was answered
record-takes : (stage : Stage) (old new : PlayerState) (conn : ℕ) (r : Role) (kept : Incoming) (piece : List ℕ) (made : StepMade) → Fed stage old new conn r kept piece
    → brought (stage.streams conn) piece ≡ Whole (fed kept.buffer piece).kept
    → AnswersRecord (gateway_of old.core) conn old.moment r (record kept { buffer = fed kept.buffer piece }) new.reply new.message (incoming_at new.incoming conn) made new.core
    → TakesTo stage (In conn piece) made new
record-takes stage old new conn r kept piece made f is answers =
    let message = (fed kept.buffer piece).kept in
    fed-takes stage old new conn r kept piece (Whole message) made f is refl
    (subst (λ o. MadeBy (RecordMakes (gateway_of old.core) conn old.moment message o) new.reply made new.core) (sym f.live) answers.made_by)
    (ap (λ m. Call conn m ∷ []) (sym answers.message_is) ∙ sym (ap (call_lines new.message) answers.intake_is))
    (record-behind stage old new conn r kept piece made (meaning message r) f refl is answers.made_by answers.kept_is)

-- a piece that was taken, whatever it brought
pub piece-takes : (stage : Stage) (old new : PlayerState) (conn : ℕ) (r : Role) (kept : Incoming) (piece : List ℕ) (made : StepMade) → Fed stage old new conn r kept piece
    → FeedMakes (gateway_of old.core) conn old.moment r (record kept { buffer = fed kept.buffer piece }) new.reply new.message (incoming_at new.incoming conn) made new.core (fed kept.buffer piece).state
    → TakesTo stage (In conn piece) made new
piece-takes stage old new conn r kept piece made f makes = by (fed kept.buffer piece).state refl makes where
  holds : HoldsStream kept (stage.streams conn) (stage.xids conn)
  holds = fed-holds stage old new conn r kept piece f

  brings : (state : Feed) → (fed kept.buffer piece).state ≡ state → brought (stage.streams conn) piece ≡ brought_of state (fed kept.buffer piece).kept
  brings state is = brought-is (stage.streams conn) piece kept.buffer holds.held holds.waits f.some f.whole ∙ ap (λ s. brought_of s (fed kept.buffer piece).kept) is

  by : (state : Feed) → (fed kept.buffer piece).state ≡ state
      → FeedMakes (gateway_of old.core) conn old.moment r (record kept { buffer = fed kept.buffer piece }) new.reply new.message (incoming_at new.incoming conn) made new.core state
      → TakesTo stage (In conn piece) made new
  by feed.More is h =
      subst (λ k. TakesTo stage (In conn piece) k new) (sym h.2) (more-takes stage old new conn r kept piece f (brings feed.More is) is h.0 h.1)
  by feed.Whole is h = record-takes stage old new conn r kept piece made f (brings feed.Whole is) h
  by feed.TooLong is h =
      subst (λ k. TakesTo stage (In conn piece) k new) (sym h.2) (long-takes stage old new conn r kept piece f (brings feed.TooLong is) h.0 h.1)

-- there is room for what it made
pub piece-printable : (new : PlayerState) (g : Gateway) (conn now : ℕ) (r : Role) (fed_kept : Incoming) (after_kept : Option Incoming) (made : StepMade) (state : Feed)
    → FeedMakes g conn now r fed_kept new.reply new.message after_kept made new.core state → HasLineRoom new made
piece-printable new g conn now r fed_kept after_kept made feed.More h =
    subst (HasLineRoom new) (sym h.2) (record { note = tt; few = λ polled. absurd (false≢true polled) })
piece-printable new g conn now r fed_kept after_kept made feed.Whole h = record { note = h.made_by.note; few = h.made_by.few }
piece-printable new g conn now r fed_kept after_kept made feed.TooLong h =
    subst (HasLineRoom new) (sym h.2) (record { note = tt; few = λ polled. absurd (false≢true polled) })

-- ---- a fed piece, as a player's method has it

some-of : (o : Option Incoming) → IsSome o → (kept : Incoming) × (o ≡ Some kept)
some-of None h = absurd (false≢true h)
some-of (Some kept) h = (kept, refl)

-- a call that isn't there
pub none-of : (o : Option Pending) → is_some o ≡ false → o ≡ None
none-of None h = refl
none-of (Some p) h = absurd (false≢true (sym h))

-- what a feed of a piece leaves of a player, before its view is taken: all that a step needs of it
pub record PieceFed (old new : PlayerState) (conn : ℕ) (r : Role) (piece room : List ℕ) (result : Result StepMade Refusal) : Type 0 where
  pub live : role_at old.core.interleaved.state.tables conn ≡ Some r
  pub idle : pending_at old.core.interleaved.state.tables conn ≡ None
  pub some : 0 < length piece
  pub taken : IfOk result (λ made. (kept : Incoming) → incoming_at old.incoming conn ≡ Some kept
      → FeedsPiece (gateway_of old.core) conn old.moment r kept piece room new.message (incoming_at new.incoming conn) made new.core)
  pub known : OnOk result (IsSome (incoming_at old.incoming conn))
  pub stopped : IfErr result (λ why. (kept : Incoming) → incoming_at old.incoming conn ≡ Some kept → StopsPiece kept piece why)
  pub late : new.core.interleaved.state.moment ≤ old.moment
  pub others : (m : ℕ) → m ≢ conn → incoming_at new.incoming m ≡ incoming_at old.incoming m
  pub rack : new.rack ≡ old.rack
  pub moment : new.moment ≡ old.moment
  pub room_is : new.reply ≡ room

-- by what the feed answered
if-ok : (P R : StepMade → Type 0) (Q : Type 0) (result : Result StepMade Refusal) → IfOk result P → OnOk result Q → ((made : StepMade) → P made → Q → R made) → IfOk result R
if-ok P R Q (Ok made) h q f = f made h q
if-ok P R Q (Err why) h q f = tt

if-err : (P R : Refusal → Type 0) (result : Result StepMade Refusal) → IfErr result P → ((why : Refusal) → P why → R why) → IfErr result R
if-err P R (Ok made) h f = tt
if-err P R (Err why) h f = f why h

-- a piece that was taken
pub pieces-taken : (player old new : PlayerState) (conn : ℕ) (r : Role) (piece room : List ℕ) (result : Result StepMade Refusal) → old ≡ player
    → PieceFed old new conn r piece room result
    → IfOk result (λ made. (stage : Stage) → PlayerStands player stage → TakesTo stage (In conn piece) made new)
pieces-taken player old new conn r piece room result view p =
    if-ok _ (λ made. (stage : Stage) → PlayerStands player stage → TakesTo stage (In conn piece) made new) _ result p.taken p.known
    (λ made feeds known stage stands.
    let found = some-of (incoming_at old.incoming conn) known in
    let kept : Incoming = found.0 in
    let fed_piece = feeds kept found.1 in
    piece-takes stage old new conn r kept piece made
    (record {
      stands = subst (λ k. PlayerStands k stage) (sym view) stands;
      live = p.live;
      idle = p.idle;
      here = found.1;
      some = p.some;
      whole = fed_piece.whole;
      late = p.late;
      others = p.others;
      rack = p.rack;
      moment = p.moment;
    })
    (subst (λ x. FeedMakes (gateway_of old.core) conn old.moment r (record kept { buffer = fed kept.buffer piece }) x new.message (incoming_at new.incoming conn) made new.core
    (fed kept.buffer piece).state) (sym p.room_is) fed_piece.makes))

-- one that wasn't
pub pieces-stopped : (player old new : PlayerState) (conn : ℕ) (r : Role) (piece room : List ℕ) (result : Result StepMade Refusal) → old ≡ player
    → PieceFed old new conn r piece room result
    → IfErr result (λ why. (stage : Stage) → PlayerStands player stage → StopsFor stage (In conn piece) why)
pieces-stopped player old new conn r piece room result view p =
    if-err _ (λ why. (stage : Stage) → PlayerStands player stage → StopsFor stage (In conn piece) why) result p.stopped
    (λ why stops stage stands. piece-stops stage old conn r piece why (subst (λ k. PlayerStands k stage) (sym view) stands) p.live p.idle p.some stops)

-- the room for what one made
pub pieces-printable : (player old new : PlayerState) (conn : ℕ) (r : Role) (piece room : List ℕ) (result : Result StepMade Refusal) → old ≡ player → PieceFed old new conn r piece room result
    → IfOk result (HasLineRoom new)
pieces-printable player old new conn r piece room result view p =
    if-ok _ (HasLineRoom new) _ result p.taken p.known
    (λ made feeds known.
    let found = some-of (incoming_at old.incoming conn) known in
    let kept : Incoming = found.0 in
    let fed_piece = feeds kept found.1 in
    piece-printable new (gateway_of old.core) conn old.moment r (record kept { buffer = fed kept.buffer piece }) (incoming_at new.incoming conn) made
    (fed kept.buffer piece).state
    (subst (λ x. FeedMakes (gateway_of old.core) conn old.moment r (record kept { buffer = fed kept.buffer piece }) x new.message (incoming_at new.incoming conn) made new.core
    (fed kept.buffer piece).state) (sym p.room_is) fed_piece.makes))
