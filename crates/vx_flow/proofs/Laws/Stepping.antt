-- Exactly the events that are allowed do what `Does` says.
use Rattle.std.proofs.Common.{◌≡◌, ◌≢◌, ◌≤◌, ◌==◌, ℕ, Bool, true, false, cond, List, [], ◌∷◌, ◌++◌, Option, Some, None, refl, sym, ap, ◌∙◌, subst}
use Rattle.std.specs.Prelude.{is_some, is_none, nat_le, not, ◌&&◌}
use Rattle.std.specs.Option.{option_map, option_and_then}
use Rattle.std.proofs.lemmas.Bool.{and_parts, and_from, not-true, eqb-true, eq-eqb, leb-true, le-leb, false≢true, cond-true}
use Rattle.std.proofs.lemmas.Option.{cond_some}
use Rattle.vx_lemmas.proofs.Laws.Conditions.{chosen}
use Rattle.vx_lemmas.proofs.Laws.Options.{mapped, gone_on, none-is}
use Rattle.vx_calls.specs.declared.calls.Role.TheVariants as role
use Rattle.vx_calls.specs.declared.codes.ErrorCode.{ErrorCode}
use Rattle.vx_calls.specs.ErrorCode.{same_error}
use Rattle.vx_calls.specs.Reply.{Reply, same_reply}
use Rattle.vx_calls.proofs.Laws.{same_error-is, same_error-refl, same_reply-is, same_reply-refl}
use Rattle.vx_488.specs.declared.transfers.Transfer.{Transfer}
use Rattle.vx_488.specs.Wire.{wire_after}
use Rattle.vx_plan.specs.Plan.{Stand, Whole, Part, Off}
use Rattle.vx_rules.specs.SrqState.{given, taken, sampled}
use Rattle.vx_rules.specs.Entry as entry
use Rattle.vx_rules.specs.State.{Pending, Tables, State, connection_at, pending_at, lives_as, is_idle, has_room, with_pending, with_connection, without_connection}
use Rattle.vx_rules.specs.Calls.{asks_dial}
use Rattle.vx_rules.specs.Checks.{named_link, check}
use Rattle.vx_rules.specs.Lines.{holder_against, ahead_of, checks_pass, first_lines, lets_pass, is_first}
use Rattle.vx_rules.specs.Decide.{decide_in, has_job_role}
use Rattle.vx_rules.specs.AtomicStep.{atomic_step, may_wait, arrived, same_given, abort_reply, abort_tables, answer_in, answer_to_in, answered, if_reply}
use Rattle.vx_rules.proofs.Laws.{role-lives, lives-role, same_given-is, same_given-self}
use Rattle.vx_flow.specs.Event.{Event, Up, Down, Arrive, Answer, Abort, Sample, Take, Begin, Move, Dial}
use Rattle.vx_flow.specs.InterleavedState.{Turn, InterleavedState, turn_after}
use Rattle.vx_flow.specs.InterleavedStep.{as_atomic, job_of, is_whole, is_on, turn_stand, is_answer_of, comes_in_turn, wire_for, wire_before, busy_with, bus_input, is_answered, is_passed, may_begin, may_dial, goes_on, may_move, without_dial, answered_interleaved, interleaved_after, any_turn_step, interleaved_step}
use Rattle.vx_flow.proofs.Laws.Later.{on-is}
use Rattle.vx_flow.specs.Ways.{turn_left_by, over, moved_on, begun_now}
use Rattle.vx_flow.specs.Does.{beside, gone_down, IsAdmitted, AnsweredBy, IsAnswered, Begins, Moves, Dials, Step, Does, DoesLaw}
use Rattle.vx_flow.proofs.Laws.Jobs.{role-job}
use Rattle.vx_flow.proofs.Laws.ByLines.{passed-is, admit, admitted-passes, decided-by, line-gives}

-- ---- what the tests say

-- a list that isn't off its plan is on it
is-on : (s : Stand) → s ≢ Off → is_on s ≡ true
is-on Whole h = refl
is-on Part h = refl
is-on Off h = absurd (h refl)

-- a call that neither a check nor a lock is against, and that isn't marked
checks-none : (error : Option ErrorCode) (holder : Option ℕ) → checks_pass error holder ≡ true → (error ≡ None) × (holder ≡ None)
checks-none None None h = (refl, refl)
checks-none None (Some l) h = absurd (false≢true h)
checks-none (Some e) holder h = absurd (false≢true h)

-- before which no other call stands in line
lets-admit : (t : Tables) (own conn : ℕ) (p : Pending) (now : ℕ) → (not p.aborted && lets_pass t own conn p && is_first t own conn p now) ≡ true
    → IsAdmitted t None own conn false p now
lets-admit t own conn p now h =
    let tests = and_parts (not p.aborted && lets_pass t own conn p) (is_first t own conn p now) h in
    let first = and_parts (not p.aborted) (lets_pass t own conn p) tests.0 in
    let parts = checks-none (check t own conn false (named_link t conn p.call) p.call) (holder_against t own (named_link t conn p.call) p.call) first.1 in
    record {
      unmarked = not-true p.aborted first.0;
      checked = parts.0;
      unlocked = parts.1;
      first = none-is (ahead_of t None own now conn (named_link t conn p.call) p.call) tests.1;
    }

-- and back
admit-lets : (t : Tables) (own conn : ℕ) (p : Pending) (now : ℕ) → IsAdmitted t None own conn false p now
    → (not p.aborted && lets_pass t own conn p && is_first t own conn p now) ≡ true
admit-lets t own conn p now a =
    and_from (not p.aborted && lets_pass t own conn p) (is_first t own conn p now)
    (and_from (not p.aborted) (lets_pass t own conn p) (ap not a.unmarked)
    (ap (λ c. checks_pass c (holder_against t own (named_link t conn p.call) p.call)) a.checked ∙ ap (checks_pass None) a.unlocked))
    (ap is_none a.first)

-- ---- the turn under way

-- its list isn't whole before another event than its answer
comes-in : (f : InterleavedState) (e : Event) → comes_in_turn f e f.turn ≡ true → (u : Turn) → f.turn ≡ Some u → turn_stand f u u.moves ≡ Whole → is_answer_of u.connection e ≡ true
comes-in f e h u is whole =
    sym (ap (λ s. cond (is_whole s) (is_answer_of u.connection e) true) whole) ∙ sym (ap (comes_in_turn f e) is) ∙ h

stand-whole : (s : Stand) → is_whole s ≡ true → s ≡ Whole
stand-whole Whole h = refl
stand-whole Part h = absurd (false≢true h)
stand-whole Off h = absurd (false≢true h)

in-comes : (f : InterleavedState) (e : Event) → ((u : Turn) → f.turn ≡ Some u → turn_stand f u u.moves ≡ Whole → is_answer_of u.connection e ≡ true) → comes_in_turn f e f.turn ≡ true
in-comes f e = by f.turn where
  by : (turn : Option Turn) → ((u : Turn) → turn ≡ Some u → turn_stand f u u.moves ≡ Whole → is_answer_of u.connection e ≡ true) → comes_in_turn f e turn ≡ true
  by None h = refl
  by (Some u) h = whole (is_whole (turn_stand f u u.moves)) refl where
    whole : (b : Bool) → is_whole (turn_stand f u u.moves) ≡ b → cond b (is_answer_of u.connection e) true ≡ true
    whole true e = h u refl (stand-whole (turn_stand f u u.moves) e)
    whole false e = refl

-- what an answer leaves of it
pub turn-answered : (turn : Option Turn) (conn now : ℕ) (failed : Bool) (dialed : Option Bool) (level : Bool) (told : Reply)
    → turn_after turn (Answer conn now failed dialed level told) ≡ turn_left_by turn conn
turn-answered None conn now failed dialed level told = refl
turn-answered (Some u) conn now failed dialed level told = refl

-- so does the end of a connection
pub turn-down : (turn : Option Turn) (conn : ℕ) → turn_after turn (Down conn) ≡ turn_left_by turn conn
turn-down None conn = refl
turn-down (Some u) conn = refl

-- ---- answers

-- the state behind an answer, by the turn that it leaves
abbrev over-by : InterleavedState → ℕ → ℕ → Tables → Option Turn → InterleavedState
over-by f conn now t turn = record (over f conn now t) { turn = turn; before = wire_before turn f.state.wire f.before }

-- the state behind an answer is that of what was decided
answer-leads : (f g : InterleavedState) (conn now : ℕ) (failed : Bool) (dialed : Option Bool) (level : Bool) (told : Reply) (moves : List Transfer) (d : Reply × Tables) (x : Reply × State)
    (s : State) → answered (record f.state { wire = wire_for f conn }) conn now moves d ≡ x → x.1 ≡ s
    → answered_interleaved f (Answer conn now failed dialed level told) conn s ≡ g → g ≡ over f conn now d.1
answer-leads f g conn now failed dialed level told moves d x s first second third =
    let e = Answer conn now failed dialed level told in
    let same : s ≡ (answered (record f.state { wire = wire_for f conn }) conn now moves d).1 = sym (ap (λ y. y.1) first ∙ second) in
    let behind : g ≡ answered_interleaved f e conn (answered (record f.state { wire = wire_for f conn }) conn now moves d).1 = sym third ∙ ap (answered_interleaved f e conn) same in
    behind ∙ ap (over-by f conn now d.1) (turn-answered f.turn conn now failed dialed level told)

-- a reply that was found passes the test of being the one that is told
told-by : (x y : Reply × State) (told : Reply) → x ≡ y → same_reply y.0 told ≡ true → x.0 ≡ told
told-by x y told is same = ap (λ z. z.0) is ∙ same_reply-is y.0 told same

-- an answer that is allowed is given by a line
answer-does : (f g : InterleavedState) (conn now : ℕ) (failed : Bool) (dialed : Option Bool) (level : Bool) (told : Reply)
    → any_turn_step f (Answer conn now failed dialed level told) ≡ Some g → IsAnswered f conn now (bus_input f conn failed dialed level) told g
answer-does f g conn now failed dialed level told h =
    let e = Answer conn now failed dialed level told in
    let o = bus_input f conn failed dialed level in
    let s : State = record f.state { wire = wire_for f conn } in
    let parts = chosen (nat_le f.state.moment now && is_answered f conn now o (pending_at f.state.tables conn))
    (option_map (answered_interleaved f e conn) (option_and_then (if_reply told) (answer_in s (busy_with f.turn) conn now o))) g h in
    let tests = and_parts (nat_le f.state.moment now) (is_answered f conn now o (pending_at f.state.tables conn)) parts.0 in
    let step = mapped (answered_interleaved f e conn) (option_and_then (if_reply told) (answer_in s (busy_with f.turn) conn now o)) g parts.1 in
    let replied = gone_on (if_reply told) (answer_in s (busy_with f.turn) conn now o) step.0 step.1 in
    let asked = gone_on (answer_to_in s (busy_with f.turn) conn now o) (pending_at f.state.tables conn) replied.0 replied.1 in
    let found = mapped (answered s conn now o.moves) (decide_in f.state.tables (busy_with f.turn) (wire_for f conn) conn asked.0 now o) replied.0 asked.2 in
    let same = cond_some (same_reply replied.0.0 told) replied.0.1 step.0 replied.2 in
    let reply_is = told-by (answered s conn now o.moves found.0) replied.0 told found.2 same.0 in
    record {
      late = leb-true f.state.moment now tests.0;
      asked = asked.0;
      call_at = asked.1;
      after = found.0.1;
      line =
          subst (λ r. AnsweredBy f conn now asked.0 o r found.0.1) reply_is
          (decided-by f conn now asked.0 failed dialed level found.0 (sym (ap (is_answered f conn now o) asked.1) ∙ tests.1) found.1);
      leads = answer-leads f g conn now failed dialed level told o.moves found.0 replied.0 step.0 found.2 same.1 step.2;
    }

-- what was decided for a call that may be answered is its answer
pub answer-step : (f : InterleavedState) (conn now : ℕ) (failed : Bool) (dialed : Option Bool) (level : Bool) (told : Reply) (p : Pending) (d : Reply × Tables)
    → f.state.moment ≤ now → pending_at f.state.tables conn ≡ Some p → is_answered f conn now (bus_input f conn failed dialed level) (Some p) ≡ true
    → decide_in f.state.tables (busy_with f.turn) (wire_for f conn) conn p now (bus_input f conn failed dialed level) ≡ Some d → d.0 ≡ told
    → any_turn_step f (Answer conn now failed dialed level told) ≡ Some (over f conn now d.1)
answer-step f conn now failed dialed level told p d late at may found is =
    let e = Answer conn now failed dialed level told in
    let o = bus_input f conn failed dialed level in
    let s : State = record f.state { wire = wire_for f conn } in
    cond-true (nat_le f.state.moment now && is_answered f conn now o (pending_at f.state.tables conn))
    (option_map (answered_interleaved f e conn) (option_and_then (if_reply told) (answer_in s (busy_with f.turn) conn now o))) None
    (and_from (nat_le f.state.moment now) (is_answered f conn now o (pending_at f.state.tables conn)) (le-leb f.state.moment now late)
    (ap (is_answered f conn now o) at ∙ may))
    ∙ ap (λ x. option_map (answered_interleaved f e conn) (option_and_then (if_reply told) (option_and_then (answer_to_in s (busy_with f.turn) conn now o) x))) at
    ∙ ap (λ x. option_map (answered_interleaved f e conn) (option_and_then (if_reply told) (option_map (answered s conn now o.moves) x))) found
    ∙ ap (option_map (answered_interleaved f e conn))
    (cond-true (same_reply d.0 told) (Some (answered s conn now o.moves d).1) None (ap (same_reply d.0) (sym is) ∙ same_reply-refl d.0))
    ∙ ap (λ turn. Some (over-by f conn now d.1 turn)) (turn-answered f.turn conn now failed dialed level told)

does-answer : (f g : InterleavedState) (conn now : ℕ) (failed : Bool) (dialed : Option Bool) (level : Bool) (told : Reply)
    → IsAnswered f conn now (bus_input f conn failed dialed level) told g → any_turn_step f (Answer conn now failed dialed level told) ≡ Some g
does-answer f g conn now failed dialed level told a =
    let given = line-gives f conn now a.asked failed dialed level told a.after a.line in
    answer-step f conn now failed dialed level told a.asked (told, a.after) a.late a.call_at given.may given.found refl ∙ ap Some (sym a.leads)

-- ---- a turn begins, goes on, and a dial is asked for

begin-does : (f g : InterleavedState) (conn now : ℕ) (o : Option Pending) → pending_at f.state.tables conn ≡ o → f.turn ≡ None → f.state.moment ≤ now
    → may_begin f.state conn now o ≡ true → g ≡ begun_now f conn now → Begins f conn now g
begin-does f g conn now None at none late may leads = absurd (false≢true may)
begin-does f g conn now (Some p) at none late may leads =
    let t = f.state.tables in
    let lines = first_lines t f.state.wire.own conn false p now in
    let tests = and_parts (is_passed lines) (has_job_role f.state.wire (job_of t conn p)) may in
    let job = role-job f.state.wire (job_of t conn p) tests.1 in
    record {
      late = late;
      no_turn = none;
      asked = p;
      call_at = at;
      admitted = admit t None f.state.wire.own conn false p now (passed-is lines tests.0);
      job = job.0;
      has_job = job.1;
      in_role = job.2;
      leads = leads;
    }

does-begin : (f : InterleavedState) (conn now : ℕ) (g : InterleavedState) → Begins f conn now g → may_begin f.state conn now (pending_at f.state.tables conn) ≡ true
does-begin f conn now g b =
    let t = f.state.tables in
    let p = b.asked in
    ap (may_begin f.state conn now) b.call_at
    ∙ and_from (is_passed (first_lines t f.state.wire.own conn false p now)) (has_job_role f.state.wire (job_of t conn p))
    (ap is_passed (admitted-passes t None f.state.wire.own conn false p now b.admitted)) (ap (has_job_role f.state.wire) b.has_job ∙ b.in_role)

move-call : (s : State) (conn : ℕ) (o : Option Pending) → goes_on s conn o ≡ true → (p : Pending) × (o ≡ Some p) × (IsAdmitted s.tables None s.wire.own conn false p s.moment)
move-call s conn None h = absurd (false≢true h)
move-call s conn (Some p) h = (p, refl, lets-admit s.tables s.wire.own conn p s.moment h)

move-does : (f g : InterleavedState) (conn : ℕ) (moves : List Transfer) (turn : Option Turn) → f.turn ≡ turn
    → cond (may_move f conn moves turn)
    (Some (record f { state = record f.state { wire = wire_after f.state.wire moves }; turn = turn_after turn (Move conn moves); before = wire_before (turn_after turn (Move conn moves)) (wire_after f.state.wire moves) f.before }))
    None ≡ Some g
    → Moves f conn moves g
move-does f g conn moves None is h = cc
move-does f g conn moves (Some u) is h =
    let t = f.state.tables in
    let parts = cond_some ((u.connection == conn) && goes_on f.state conn (pending_at t conn) && is_on (turn_stand f u (u.moves ++ moves))) (moved_on f u moves) g h in
    let tests = and_parts ((u.connection == conn) && goes_on f.state conn (pending_at t conn)) (is_on (turn_stand f u (u.moves ++ moves))) parts.0 in
    let first = and_parts (u.connection == conn) (goes_on f.state conn (pending_at t conn)) tests.0 in
    let call = move-call f.state conn (pending_at t conn) first.1 in
    record {
      turn = u;
      under_way = is;
      of_call = eqb-true u.connection conn first.0;
      asked = call.0;
      call_at = call.1;
      admitted = call.2;
      on_plan = on-is (turn_stand f u (u.moves ++ moves)) tests.1;
      leads = sym parts.1;
    }

does-move : (f g : InterleavedState) (conn : ℕ) (moves : List Transfer) → Moves f conn moves g → any_turn_step f (Move conn moves) ≡ Some g
does-move f g conn moves m =
    let t = f.state.tables in
    let u = m.turn in
    let may : may_move f conn moves (Some u) ≡ true =
    and_from ((u.connection == conn) && goes_on f.state conn (pending_at t conn)) (is_on (turn_stand f u (u.moves ++ moves)))
    (and_from (u.connection == conn) (goes_on f.state conn (pending_at t conn)) (eq-eqb u.connection conn m.of_call)
    (ap (goes_on f.state conn) m.call_at ∙ admit-lets t f.state.wire.own conn m.asked f.state.moment m.admitted))
    (is-on (turn_stand f u (u.moves ++ moves)) m.on_plan) in
    ap
    (λ turn. cond (may_move f conn moves turn)
    (Some (record f { state = record f.state { wire = wire_after f.state.wire moves }; turn = turn_after turn (Move conn moves); before = wire_before (turn_after turn (Move conn moves)) (wire_after f.state.wire moves) f.before }))
    None) m.under_way
    ∙ cond-true (may_move f conn moves (Some u)) (Some (moved_on f u moves)) None may
    ∙ ap Some (sym m.leads)

dial-does : (f g : InterleavedState) (conn now : ℕ) (o : Option Pending) → pending_at f.state.tables conn ≡ o → f.state.moment ≤ now → may_dial f.state conn now o ≡ true
    → g ≡ beside f f.state.tables now (without_dial f.dialed conn ++ conn ∷ []) → Dials f conn now g
dial-does f g conn now None at late may leads = absurd (false≢true may)
dial-does f g conn now (Some p) at late may leads =
    let t = f.state.tables in
    let lines = first_lines t f.state.wire.own conn false p now in
    let tests = and_parts (asks_dial p.call) (is_passed lines) may in
    record {
      late = late;
      asked = p;
      call_at = at;
      asks = tests.0;
      admitted = admit t None f.state.wire.own conn false p now (passed-is lines tests.1);
      leads = leads;
    }

does-dial : (f : InterleavedState) (conn now : ℕ) (g : InterleavedState) → Dials f conn now g → may_dial f.state conn now (pending_at f.state.tables conn) ≡ true
does-dial f conn now g d =
    let t = f.state.tables in
    let p = d.asked in
    ap (may_dial f.state conn now) d.call_at
    ∙ and_from (asks_dial p.call) (is_passed (first_lines t f.state.wire.own conn false p now)) d.asks
    (ap is_passed (admitted-passes t None f.state.wire.own conn false p now d.admitted))

-- ---- each event

-- what happens in the words of one thread, where it is allowed by a test
atomic-parts : (f g : InterleavedState) (e : Event) (same : entry.Entry) (b : Bool) (s : State) → atomic_step f.state same ≡ cond b (Some s) None → as_atomic f e same ≡ Some g
    → (b ≡ true) × (g ≡ interleaved_after f e f.dialed s)
atomic-parts f g e same b s is h =
    let step = mapped (interleaved_after f e f.dialed) (atomic_step f.state same) g h in
    let parts = cond_some b s step.0 (sym is ∙ step.1) in
    (parts.0, sym step.2 ∙ ap (interleaved_after f e f.dialed) (sym parts.1))

-- and back
parts-atomic : (f g : InterleavedState) (e : Event) (same : entry.Entry) (b : Bool) (s : State) → atomic_step f.state same ≡ cond b (Some s) None → b ≡ true
    → g ≡ interleaved_after f e f.dialed s → as_atomic f e same ≡ Some g
parts-atomic f g e same b s is may leads =
    ap (option_map (interleaved_after f e f.dialed)) (is ∙ cond-true b (Some s) None may) ∙ ap Some (sym leads)

-- a step that is taken does what its event does
step-does : (e : Event) (f g : InterleavedState) → any_turn_step f e ≡ Some g → Step f e g
step-does (Up conn r) f g h =
    let t = f.state.tables in
    let parts = atomic-parts f g (Up conn r) (entry.Up conn r) ((conn == t.next_connection) && has_room t r)
    (record f.state { tables = with_connection t r }) refl h in
    let tests = and_parts (conn == t.next_connection) (has_room t r) parts.0 in
    record { number = eqb-true conn t.next_connection tests.0; room = tests.1; leads = parts.1 }
step-does (Down conn) f g h =
    let t = f.state.tables in
    let s : State = record f.state { tables = without_connection t conn } in
    let parts = cond_some (is_some (connection_at t conn)) (interleaved_after f (Down conn) (without_dial f.dialed conn) s) g h in
    record { lives = parts.0; leads = sym parts.1 ∙ ap (λ turn. record (gone_down f conn) { turn = turn; before = wire_before turn f.state.wire f.before }) (turn-down f.turn conn) }
step-does (Arrive conn asked now) f g h =
    let t = f.state.tables in
    let parts = atomic-parts f g (Arrive conn asked now) (entry.Arrive conn asked now) (nat_le f.state.moment now && is_idle t conn && may_wait asked)
    (record f.state { tables = with_pending t conn (Some (arrived asked now)); moment = now }) refl h in
    let tests = and_parts (nat_le f.state.moment now && is_idle t conn) (may_wait asked) parts.0 in
    let first = and_parts (nat_le f.state.moment now) (is_idle t conn) tests.0 in
    let idle = and_parts (lives_as t conn role.Core) (is_none (pending_at t conn)) first.1 in
    record {
      late = leb-true f.state.moment now first.0;
      core = lives-role t conn role.Core idle.0;
      idle = none-is (pending_at t conn) idle.1;
      waiting = tests.1;
      leads = parts.1;
    }
step-does (Answer conn now failed dialed level told) f g h = answer-does f g conn now failed dialed level told h
step-does (Abort conn lid told) f g h =
    let t = f.state.tables in
    let parts = atomic-parts f g (Abort conn lid told) (entry.Abort conn lid told) (lives_as t conn role.Abort && same_error (abort_reply t lid) told)
    (record f.state { tables = abort_tables t lid }) refl h in
    let tests = and_parts (lives_as t conn role.Abort) (same_error (abort_reply t lid) told) parts.0 in
    record {
      role_is = lives-role t conn role.Abort tests.0;
      reply_is = sym (same_error-is (abort_reply t lid) told tests.1);
      leads = parts.1;
    }
step-does (Sample now srq) f g h =
    let t = f.state.tables in
    let parts = atomic-parts f g (Sample now srq) (entry.Sample now srq) (nat_le f.state.moment now)
    (record f.state { tables = record t { srq_state = sampled t.srq_state srq }; moment = now }) refl h in
    record { late = leb-true f.state.moment now parts.0; leads = parts.1 }
step-does (Take conn chan told) f g h =
    let t = f.state.tables in
    let parts = atomic-parts f g (Take conn chan told) (entry.Take conn chan told) (is_some (connection_at t conn) && same_given (given t.srq_state conn chan) told)
    (record f.state { tables = record t { srq_state = taken t.srq_state conn chan } }) refl h in
    let tests = and_parts (is_some (connection_at t conn)) (same_given (given t.srq_state conn chan) told) parts.0 in
    record {
      lives = tests.0;
      given_is = sym (same_given-is (given t.srq_state conn chan) told tests.1);
      leads = parts.1;
    }
step-does (Begin conn now) f g h =
    let t = f.state.tables in
    let may = may_begin f.state conn now (pending_at t conn) in
    let parts = cond_some (is_none f.turn && nat_le f.state.moment now && may) (begun_now f conn now) g h in
    let tests = and_parts (is_none f.turn && nat_le f.state.moment now) may parts.0 in
    let first = and_parts (is_none f.turn) (nat_le f.state.moment now) tests.0 in
    begin-does f g conn now (pending_at t conn) refl (none-is f.turn first.0) (leb-true f.state.moment now first.1) tests.1 (sym parts.1)
step-does (Move conn moves) f g h = move-does f g conn moves f.turn refl h
step-does (Dial conn now) f g h =
    let t = f.state.tables in
    let may = may_dial f.state conn now (pending_at t conn) in
    let parts = cond_some (nat_le f.state.moment now && may)
    (interleaved_after f (Dial conn now) (without_dial f.dialed conn ++ conn ∷ []) (record f.state { moment = now })) g h in
    let tests = and_parts (nat_le f.state.moment now) may parts.0 in
    dial-does f g conn now (pending_at t conn) refl (leb-true f.state.moment now tests.0) tests.1 (sym parts.1)

-- and what an event does is a step that is taken
does-step : (e : Event) (f g : InterleavedState) → Step f e g → any_turn_step f e ≡ Some g
does-step (Up conn r) f g d =
    let t = f.state.tables in
    parts-atomic f g (Up conn r) (entry.Up conn r) ((conn == t.next_connection) && has_room t r)
    (record f.state { tables = with_connection t r }) refl
    (and_from (conn == t.next_connection) (has_room t r) (eq-eqb conn t.next_connection d.number) d.room) d.leads
does-step (Down conn) f g d =
    let t = f.state.tables in
    let s : State = record f.state { tables = without_connection t conn } in
    cond-true (is_some (connection_at t conn)) (Some (interleaved_after f (Down conn) (without_dial f.dialed conn) s)) None d.lives
    ∙ ap (λ turn. Some (record (gone_down f conn) { turn = turn; before = wire_before turn f.state.wire f.before })) (turn-down f.turn conn)
    ∙ ap Some (sym d.leads)
does-step (Arrive conn asked now) f g d =
    let t = f.state.tables in
    parts-atomic f g (Arrive conn asked now) (entry.Arrive conn asked now) (nat_le f.state.moment now && is_idle t conn && may_wait asked)
    (record f.state { tables = with_pending t conn (Some (arrived asked now)); moment = now }) refl
    (and_from (nat_le f.state.moment now && is_idle t conn) (may_wait asked)
    (and_from (nat_le f.state.moment now) (is_idle t conn) (le-leb f.state.moment now d.late)
    (and_from (lives_as t conn role.Core) (is_none (pending_at t conn)) (role-lives t conn role.Core d.core) (ap is_none d.idle))) d.waiting) d.leads
does-step (Answer conn now failed dialed level told) f g d = does-answer f g conn now failed dialed level told d
does-step (Abort conn lid told) f g d =
    let t = f.state.tables in
    parts-atomic f g (Abort conn lid told) (entry.Abort conn lid told) (lives_as t conn role.Abort && same_error (abort_reply t lid) told)
    (record f.state { tables = abort_tables t lid }) refl
    (and_from (lives_as t conn role.Abort) (same_error (abort_reply t lid) told) (role-lives t conn role.Abort d.role_is)
    (ap (same_error (abort_reply t lid)) d.reply_is ∙ same_error-refl (abort_reply t lid))) d.leads
does-step (Sample now srq) f g d =
    let t = f.state.tables in
    parts-atomic f g (Sample now srq) (entry.Sample now srq) (nat_le f.state.moment now)
    (record f.state { tables = record t { srq_state = sampled t.srq_state srq }; moment = now }) refl
    (le-leb f.state.moment now d.late) d.leads
does-step (Take conn chan told) f g d =
    let t = f.state.tables in
    parts-atomic f g (Take conn chan told) (entry.Take conn chan told) (is_some (connection_at t conn) && same_given (given t.srq_state conn chan) told)
    (record f.state { tables = record t { srq_state = taken t.srq_state conn chan } }) refl
    (and_from (is_some (connection_at t conn)) (same_given (given t.srq_state conn chan) told) d.lives
    (ap (same_given (given t.srq_state conn chan)) d.given_is ∙ same_given-self (given t.srq_state conn chan))) d.leads
does-step (Begin conn now) f g d =
    let may = may_begin f.state conn now (pending_at f.state.tables conn) in
    cond-true (is_none f.turn && nat_le f.state.moment now && may) (Some (begun_now f conn now)) None
    (and_from (is_none f.turn && nat_le f.state.moment now) may
    (and_from (is_none f.turn) (nat_le f.state.moment now) (ap is_none d.no_turn) (le-leb f.state.moment now d.late)) (does-begin f conn now g d))
    ∙ ap Some (sym d.leads)
does-step (Move conn moves) f g d = does-move f g conn moves d
does-step (Dial conn now) f g d =
    let may = may_dial f.state conn now (pending_at f.state.tables conn) in
    cond-true (nat_le f.state.moment now && may)
    (Some (interleaved_after f (Dial conn now) (without_dial f.dialed conn ++ conn ∷ []) (record f.state { moment = now }))) None
    (and_from (nat_le f.state.moment now) may (le-leb f.state.moment now d.late) (does-dial f conn now g d))
    ∙ ap Some (sym d.leads)

-- ---- the law

-- exactly the events that are allowed do what `Does` says
pub does_law-holds : DoesLaw
does_law-holds f g e = (
  (λ h.
      let parts = chosen (comes_in_turn f e f.turn) (any_turn_step f e) g h in
      record { in_turn = comes-in f e parts.0; step = step-does e f g parts.1 }),
  (λ d. cond-true (comes_in_turn f e f.turn) (any_turn_step f e) None (in-comes f e d.in_turn) ∙ does-step e f g d.step),
)

-- an event that is allowed does what it says
pub interleaved-does : (f g : InterleavedState) (e : Event) → interleaved_step f e ≡ Some g → Does f e g
interleaved-does f g e h = (does_law-holds f g e).0 h

-- and one that does is allowed
pub does-interleaved : (f g : InterleavedState) (e : Event) → Does f e g → interleaved_step f e ≡ Some g
does-interleaved f g e d = (does_law-holds f g e).1 d
