-- What the instruments hear of a write that was exchanged.
use Rattle.std.proofs.Common.{◌≡◌, ◌≢◌, ◌≤◌, ◌==◌, ℕ, true, false, ◌&&◌, List, [], ◌∷◌, ◌++◌, length, find, Option, Some, None, refl, sym, ap, ◌∙◌, subst, arith, append-nil}
use Rattle.std.specs.Prelude.{nat_le}
use Rattle.std.specs.List.{flat_map}
use Rattle.std.proofs.lemmas.Bool.{false≢true}
use Rattle.std.proofs.lemmas.Option.{cond_some, none-some, same_Some}
use Rattle.std.proofs.lemmas.Grind.{flat_map-append}
use Rattle.vx_calls.specs.declared.calls.Role.TheVariants as role
use Rattle.vx_calls.specs.declared.codes.ErrorCode.{ErrorCode}
use Rattle.vx_calls.specs.declared.codes.ErrorCode.TheVariants as code
use Rattle.vx_calls.specs.declared.targets.Target.TheVariants.{Device}
use Rattle.vx_calls.specs.Call.{Call}
use Rattle.vx_calls.specs.Call as call
use Rattle.vx_calls.specs.Reply.{Reply}
use Rattle.vx_calls.specs.Reply as reply
use Rattle.vx_488.specs.declared.transfers.Addr.{Addr}
use Rattle.vx_488.specs.declared.transfers.Transfer.{Transfer}
use Rattle.vx_488.specs.Heard.{heard}
use Rattle.vx_488.specs.Steps.{Step}
use Rattle.vx_plan.specs.declared.tasks.Task.{Task}
use Rattle.vx_plan.specs.declared.tasks.Task.TheVariants as task
use Rattle.vx_plan.specs.Results.{puts_made, whole_reply}
use Rattle.vx_rules.specs.Table.{Link, Table}
use Rattle.vx_rules.specs.Lists.{along}
use Rattle.vx_rules.specs.State.{Pending, Tables, State, pending_at, with_pending, lives_as, is_idle, link_of}
use Rattle.vx_rules.specs.Calls.{sets_end, bytes_of, is_big}
use Rattle.vx_rules.specs.Checks.{link_found}
use Rattle.vx_rules.specs.Effects.{task_of}
use Rattle.vx_rules.specs.Decide.{BusInput}
use Rattle.vx_rules.specs.Entry as entry
use Rattle.vx_rules.specs.Entry.{Entry}
use Rattle.vx_rules.specs.AtomicStep.{atomic_step, may_wait, arrived}
use Rattle.vx_rules.specs.Legal.{legal_state}
use Rattle.vx_flow.specs.Event.{Event, Arrive, Answer}
use Rattle.vx_flow.specs.InterleavedState.{InterleavedState, Turn, before_turn, begun_of, turn_of, turn_after}
use Rattle.vx_flow.specs.InterleavedStep.{interleaved_step}
use Rattle.vx_flow.specs.Linearization.{linearization, linearization_from}
use Rattle.vx_flow.specs.Sound.{TurnStands, IsSound}
use Rattle.vx_flow.specs.Laws.{marked_bytes}
use Rattle.vx_flow.specs.Does.{AnsweredBy, ByAbort, ByNoLink, ByCheck, ByBar, ByDialUp, ByDialDown, ByEffect, ByNoRole, ByFault, ByWhole, ByTimeout, Stops, Comes}
use Rattle.vx_rules.proofs.Laws.Lists.{along-none, along-append}
use Rattle.vx_rules.proofs.Laws.Rows.{pending-put}
use Rattle.vx_rules.proofs.Laws.{role-lives}
use Rattle.vx_flow.proofs.Laws.{interleaved-does, interleaved-frame, linearization_law-holds, linearizes, device-holds}
use Rattle.vx_flow.proofs.Laws.Linearizing.{interleaved-goes}
use Rattle.vx_flow.specs.Frames.{moves_by}
use Rattle.vx_loop.specs.Exchanges.{IsLoopAnswered}
use Rattle.vx_loop.specs.Standing.{IsReached}
use Rattle.vx_loop.proofs.Happening.{reached-sound}
use Rattle.vx_loop.proofs.Turns.{made_by, turn-run, TurnRun}

-- ---- the reply of a write

-- a reply to a device_write, which leaves the tables
record IsWriteReply (t : Tables) (told : Reply) (after : Tables) : Type 0 where
  error : ErrorCode
  size : ℕ
  is : told ≡ reply.Write error size
  same : after ≡ t

module _ (f : InterleavedState) (conn now lid io_timeout lock_timeout flags : ℕ) (bytes : List ℕ) (arrival : ℕ) (o : BusInput) (told : Reply) (after : Tables) where
  abbrev waiting : Pending
  waiting = record { call = call.Write lid io_timeout lock_timeout flags bytes; arrival = arrival; aborted = false }

  -- that of one that is stopped
  stops-write : (error : ErrorCode) → Stops f waiting o error told after → IsWriteReply f.state.tables told after
  stops-write error stops = record { error = error; size = puts_made o.moves; is = stops.reply_is; same = stops.same }

  -- that of one whose list is whole
  whole-write : (link : Option Link) (job : Task) (ts : List Transfer) → task_of (link_found link) waiting.call ≡ Some job
      → whole_reply job (bytes_of waiting.call) f.before (is_big waiting.call) o.level ts ≡ reply.Write code.Ok (length bytes)
  whole-write None job ts is = absurd (none-some job is)
  whole-write (Some l) job ts is =
      ap (λ j. whole_reply j (bytes_of waiting.call) f.before (is_big waiting.call) o.level ts) (sym (same_Some (task.Write l.target (length bytes) (sets_end flags)) job is))

  -- each line that answers a device_write gives one
  line-writes : AnsweredBy f conn now waiting o told after → IsWriteReply f.state.tables told after
  line-writes (ByAbort marked still stops) = stops-write code.Abort stops
  line-writes (ByNoLink unmarked dead still stops) = stops-write code.InvalidLink stops
  line-writes (ByCheck error unmarked lives checked still stops) = stops-write error stops
  line-writes (ByBar bar unmarked checked barred waits still stops) = stops-write code.Locked stops
  line-writes (ByDialUp clear d told_is after_is) = let asks = d.asks in absurd (cc)
  line-writes (ByDialDown clear d told_is after_is) = let asks = d.asks in absurd (cc)
  line-writes (ByEffect clear bus dial still given) = absurd (false≢true (sym bus))
  line-writes (ByNoRole job clear has role still stops) = stops-write code.BusFault stops
  line-writes (ByFault clear broken stops) = stops-write code.BusFault stops
  line-writes (ByWhole clear done) = record {
    error = code.Ok;
    size = length bytes;
    is = done.reply_is ∙ whole-write (link_of f.state.tables conn lid) done.own.job done.own.turn.moves done.own.has_job;
    same = done.same;
  }
  line-writes (ByTimeout clear overdue stops) = stops-write code.Timeout stops

-- ---- an exchange of a call, as the gateway of one thread makes it

-- a list in two parts
along-split : {S E : Type 0} (step : S → E → Option S) (o : Option S) (z : S) (xs ys : List E) → along step o (xs ++ ys) ≡ Some z
    → (mid : S) × (along step o xs ≡ Some mid) × (along step (Some mid) ys ≡ Some z)
along-split {S = S} step o z xs ys h = by (along step o xs) refl (sym (along-append step o xs ys) ∙ h) where
  by : (p : Option S) → along step o xs ≡ p → along step p ys ≡ Some z → (mid : S) × (along step o xs ≡ Some mid) × (along step (Some mid) ys ≡ Some z)
  by None is rest = absurd (none-some z (sym (along-none step ys) ∙ rest))
  by (Some mid) is rest = (mid, is, rest)

-- the entries of a call that came and was answered, and the states of one thread behind each; and the line that answered it
pub record IsOneCall (f : InterleavedState) (asked : Call) (told : Reply) (group : List Event) (last : InterleavedState) : Type 0 where
  pub port : ℕ
  pub earlier : List Entry
  pub come : State
  pub legal : legal_state port earlier ≡ Some come
  pub call_at : pending_at come.tables 1 ≡ Some (record { call = asked; arrival = come.moment; aborted = false })
  pub wire : come.wire ≡ f.state.wire
  pub links : come.tables.links ≡ f.state.tables.links
  pub now : ℕ
  pub o : BusInput
  pub moves : o.moves ≡ flat_map moves_by group
  pub done : State
  pub answers : atomic_step come (entry.Answer 1 now o.begun o.moves o.failed o.dialed o.level told) ≡ Some done
  pub lives : lives_as f.state.tables 1 role.Core ≡ true
  pub at_end : InterleavedState
  pub links_left : at_end.state.tables.links ≡ f.state.tables.links
  pub after : Tables
  pub line : AnsweredBy at_end 1 now (record { call = asked; arrival = come.moment; aborted = false }) o told after
  pub links_after : last.state.tables.links ≡ after.links

module _ (f : InterleavedState) (asked : Call) (told : Reply) (came now : ℕ) (group : List Event) (steps : List Step) (last : InterleavedState) (reached : IsReached f) (calm : f.turn ≡ None)
    (a : IsLoopAnswered asked told came now group steps)
    (led : along interleaved_step (Some f) group ≡ Some last) where
  sound_f : IsSound f
  sound_f = reached-sound f reached

  linearized_f : (moment : ℕ) × (legal_state reached.abort_port (linearization reached.history) ≡ Some (before_turn f moment)) × (moment ≤ f.state.moment)
  linearized_f =
      let made = linearization_law-holds reached.abort_port reached.history reached.last reached.allowed in
      let late = reached.late in
      let early = made.2 in
      (made.0, made.1 ∙ ap (λ (x : InterleavedState). Some (before_turn x made.0)) (sym reached.at_now), omega arith)

  abbrev start_atomic : State
  start_atomic = before_turn f linearized_f.0

  wire-is : f.before ≡ f.state.wire
  wire-is = by f.turn calm sound_f.turn_stands where
    by : (turn : Option Turn) → turn ≡ None → TurnStands f.state.tables f.before f.state.wire f.state.moment turn → f.before ≡ f.state.wire
    by None h stands = stands
    by (Some u) h stands = absurd (cc)

  abbrev the_answer : Event
  the_answer = Answer 1 now a.failed a.dialed a.level told

  led_parts : along interleaved_step (Some f) ((Arrive 1 asked came ∷ []) ++ (a.turn ++ the_answer ∷ [])) ≡ Some last
  led_parts = ap (along interleaved_step (Some f)) (sym a.events) ∙ led

  come_parts : (mid : InterleavedState) × (along interleaved_step (Some f) (Arrive 1 asked came ∷ []) ≡ Some mid) × (along interleaved_step (Some mid) (a.turn ++ the_answer ∷ []) ≡ Some last)
  come_parts = along-split interleaved_step (Some f) last (Arrive 1 asked came ∷ []) (a.turn ++ the_answer ∷ []) led_parts

  turn_parts : (mid : InterleavedState) × (along interleaved_step (Some come_parts.0) a.turn ≡ Some mid) × (along interleaved_step (Some mid) (the_answer ∷ []) ≡ Some last)
  turn_parts = along-split interleaved_step (Some come_parts.0) last a.turn (the_answer ∷ []) come_parts.2

  come-turn : come_parts.0.turn ≡ None
  come-turn = (interleaved-frame f come_parts.0 (Arrive 1 asked came) come_parts.1).turn_is ∙ ap (λ turn. turn_after turn (Arrive 1 asked came)) calm

  ran : TurnRun come_parts.0 turn_parts.0 a.turn
  ran =
      turn-run a.turn come_parts.0 turn_parts.0 (interleaved-goes (Arrive 1 asked came) f come_parts.0 f.state.moment sound_f (omega arith) come_parts.1).sound a.turn_is turn_parts.1

  abbrev outside_of : BusInput
  outside_of = record {
    begun = begun_of (turn_of turn_parts.0.turn 1);
    moves = made_by turn_parts.0.turn;
    failed = a.failed;
    dialed = a.dialed;
    level = a.level;
  }

  comes : Comes f 1 asked came come_parts.0
  comes = (interleaved-does f come_parts.0 (Arrive 1 asked came) come_parts.1).step

  -- behind its turn the call is pending, and the links are as they were
  waits : pending_at turn_parts.0.state.tables 1 ≡ Some (arrived asked came)
  waits =
      ap (λ (t : Tables). pending_at t 1) ran.tables ∙ ap (λ (x : InterleavedState). pending_at x.state.tables 1) comes.leads
      ∙ pending-put f.state.tables 1 (Some (arrived asked came)) role.Core comes.core

  links-left : turn_parts.0.state.tables.links ≡ f.state.tables.links
  links-left = ap (λ (t : Tables). t.links) ran.tables ∙ ap (λ (x : InterleavedState). x.state.tables.links) comes.leads

  abbrev entries_of : List Entry
  entries_of =
      entry.Arrive 1 asked came ∷ entry.Answer 1 now outside_of.begun outside_of.moves a.failed a.dialed a.level told ∷ []

  linearization-is : linearization_from f.turn group ≡ entries_of
  linearization-is =
      ap (linearization_from f.turn) a.events ∙ ap (λ turn. linearization_from turn (Arrive 1 asked came ∷ (a.turn ++ the_answer ∷ []))) calm
      ∙ ap (λ es. entry.Arrive 1 asked came ∷ es)
      (ap (λ turn. linearization_from turn (a.turn ++ the_answer ∷ [])) (sym come-turn) ∙ ran.linearized (the_answer ∷ []))

  moves-are : made_by turn_parts.0.turn ≡ flat_map moves_by group
  moves-are =
      ran.made ∙ ap (λ turn. made_by turn ++ flat_map moves_by a.turn) come-turn
      ∙ sym (append-nil (flat_map moves_by a.turn)) ∙ sym (flat_map-append moves_by a.turn (the_answer ∷ [])) ∙ sym (ap (flat_map moves_by) a.events)

  pub one-call : IsOneCall f asked told group last
  one-call =
      let made = linearizes group f last linearized_f.0 sound_f linearized_f.2 led in
      let reaches : along atomic_step (Some start_atomic) entries_of ≡ Some (before_turn last made.moment) = ap (along atomic_step (Some start_atomic)) (sym linearization-is) ∙ made.reaches in
      let parts = along-split atomic_step (Some start_atomic) (before_turn last made.moment) (entry.Arrive 1 asked came ∷ [])
      (entry.Answer 1 now outside_of.begun outside_of.moves a.failed a.dialed a.level told ∷ []) reaches in
      let next : State = record start_atomic { tables = with_pending f.state.tables 1 (Some (arrived asked came)); moment = came } in
      let arrives = cond_some (nat_le linearized_f.0 came && is_idle f.state.tables 1 && may_wait asked) next parts.0 parts.1 in
      let ended = (interleaved-does turn_parts.0 last the_answer turn_parts.2).step in
      subst (λ (s : State). atomic_step s (entry.Answer 1 now outside_of.begun outside_of.moves a.failed a.dialed a.level told) ≡ Some (before_turn last made.moment)
      → IsOneCall f asked told group last) arrives.1
      (λ answers. record {
        port = reached.abort_port;
        earlier = linearization reached.history ++ entry.Arrive 1 asked came ∷ [];
        come = next;
        legal =
            along-append atomic_step (legal_state reached.abort_port []) (linearization reached.history) (entry.Arrive 1 asked came ∷ [])
            ∙ ap (λ o. along atomic_step o (entry.Arrive 1 asked came ∷ [])) linearized_f.1 ∙ parts.1 ∙ ap Some (sym arrives.1);
        call_at = pending-put f.state.tables 1 (Some (arrived asked came)) role.Core comes.core;
        wire = wire-is;
        links = refl;
        now = now;
        o = outside_of;
        moves = moves-are;
        done = before_turn last made.moment;
        answers = answers;
        lives = role-lives f.state.tables 1 role.Core comes.core;
        at_end = turn_parts.0;
        links_left = links-left;
        after = ended.after;
        line = subst (λ p. AnsweredBy turn_parts.0 1 now p outside_of told ended.after) (same_Some ended.asked (arrived asked came) (sym ended.call_at ∙ waits)) ended.line;
        links_after = ap (λ (x : InterleavedState). x.state.tables.links) ended.leads;
      }) parts.2

-- ---- what is heard

-- a write to a device that was answered without an error is heard by it alone
pub call-heard : (f last : InterleavedState) (group : List Event) (lid io_timeout lock_timeout flags size : ℕ) (bytes : List ℕ) (a : Addr) (l : Link)
    → IsOneCall f (call.Write lid io_timeout lock_timeout flags bytes) (reply.Write code.Ok size) group last → link_of f.state.tables 1 lid ≡ Some l → l.target ≡ Device a.p a.s
    → (heard a f.state.wire (flat_map moves_by group) ≡ marked_bytes (sets_end flags) bytes)
    × ((b : Addr) → b ≢ a → heard b f.state.wire (flat_map moves_by group) ≡ [])
call-heard f last group lid io_timeout lock_timeout flags size bytes a l c at target =
    let here : link_of c.come.tables 1 lid ≡ Some l = ap (λ (ls : Table). find (λ (k : Link). (k.number == lid) && (k.connection == 1)) ls.links) c.links ∙ at in
    let holds = device-holds c.port c.earlier c.come c.done 1 c.now c.o.begun c.o.moves c.o.failed c.o.dialed c.o.level size lid io_timeout lock_timeout flags bytes c.come.moment false l a.p a.s
    c.legal c.call_at here target c.answers in
    let same : (b : Addr) → heard b f.state.wire (flat_map moves_by group) ≡ heard b c.come.wire c.o.moves =
    λ b. ap (λ w. heard b w (flat_map moves_by group)) (sym c.wire) ∙ ap (heard b c.come.wire) (sym c.moves) in
    (same a ∙ holds.0, λ b ne. same b ∙ holds.1 b ne)

-- its reply, and what it leaves of the links
pub call-replies : (f last : InterleavedState) (group : List Event) (lid io_timeout lock_timeout flags : ℕ) (bytes : List ℕ) (told : Reply)
    → IsOneCall f (call.Write lid io_timeout lock_timeout flags bytes) told group last
    → ((e : ErrorCode) × (n : ℕ) × (told ≡ reply.Write e n)) × (last.state.tables.links ≡ f.state.tables.links)
call-replies f last group lid io_timeout lock_timeout flags bytes told c =
    let r = line-writes c.at_end 1 c.now lid io_timeout lock_timeout flags bytes c.come.moment c.o told c.after c.line in
    ((r.error, r.size, r.is), c.links_after ∙ ap (λ (t : Tables). t.links) r.same ∙ c.links_left)
