-- The ways in which a poll ends.
use Rattle.std.proofs.Common.{◌≡◌, ◌≤◌, ◌<◌, ◌==◌, ℕ, Bool, true, false, cond, ◌⊎◌, inl, inr, List, [], ◌∷◌, ◌++◌, length, append-nil, Option, Some, None, refl, sym, ap, ◌∙◌, subst, arith}
use Rattle.std.specs.Prelude.{if◌then◌else◌, nat_le, is_none, is_some, not, ◌&&◌, ◌||◌}
use Rattle.std.specs.Option.{option_map, option_and_then}
use Rattle.std.specs.List.{list_any}
use Rattle.std.proofs.lemmas.Bool.{and_from, cond-true, cond-false, le-leb, true≢false, false≢true, eqb-true, eq-eqb, or_parts}
use Rattle.std.proofs.lemmas.Option.{same_Some}
use Rattle.std.proofs.Math.Bool.{and-false, or-true}
use Rattle.vx_lemmas.proofs.Laws.Conditions.{eqb-self}
use Rattle.vx_calls.specs.declared.limits.TheConstants.{SLICE_MAX}
use Rattle.vx_calls.specs.declared.codes.ErrorCode.TheVariants as code
use Rattle.vx_calls.specs.Call.{Call}
use Rattle.vx_calls.specs.Call as call
use Rattle.vx_calls.specs.Reply.{Reply}
use Rattle.vx_488.specs.declared.transfers.Transfer.{Transfer}
use Rattle.vx_488.specs.declared.wire.Wire.{Wire}
use Rattle.vx_488.specs.Wire.{wire_after}
use Rattle.vx_plan.specs.declared.tasks.Task.{Task}
use Rattle.vx_plan.specs.Plan.{Stand, Whole, Part}
use Rattle.vx_rules.specs.Lists.{along}
use Rattle.vx_rules.specs.State.{Pending, Tables, State, pending_at}
use Rattle.vx_plan.specs.Roles.{has_role}
use Rattle.vx_plan.specs.Results.{whole_reply}
use Rattle.vx_rules.specs.Calls.{is_bus_call, is_lock_call, asks_dial, bytes_of, is_big, io_timeout_of, has_passed}
use Rattle.vx_rules.specs.Checks.{named_link, check}
use Rattle.vx_rules.specs.Effects.{stopped_reply, task_of}
use Rattle.vx_rules.specs.Lines.{Admission, Refused, Passed, lock_request, holder_against, first_ahead, bar_by, checked_lines, first_lines_in, first_lines, later_lines_in, lets_pass, is_first}
use Rattle.vx_rules.specs.Decide.{BusInput, decide_in, by_lines, has_job_role, bus_answer, turn_answer, stand_on, is_quiet, level_fits}
use Rattle.vx_rules.proofs.Laws.{bus-job, no-job, dial-no-bus}
use Rattle.vx_flow.specs.Event.{Event, Answer, Begin, Move, Dial}
use Rattle.vx_flow.specs.InterleavedState.{Turn, InterleavedState, turn_of, begun_of, moves_of, turn_after}
use Rattle.vx_flow.specs.InterleavedStep.{comes_in_turn, interleaved_after, any_turn_step, interleaved_step, passes_lines, busy_with, bus_input, wire_for, wire_before, waits_for, waits_for_turn, turn_stand, is_whole, is_answer_of, is_on, is_passed, goes_on, may_begin, may_dial, without_dial, job_of, on_conflict, turn_target}
use Rattle.vx_flow.specs.Sound.{Stands, TurnStands, IsSound}
use Rattle.vx_flow.specs.Poll.{Ending, Answered, Waited, NotYet, Polls, begins, run_events, moved_events, end_events, ran_of, EndsBy, FitsSlice, lines_at, at_moment, RanTo, runs}
use Rattle.vx_flow.specs.declared.progress.Why.{Why}
use Rattle.vx_flow.specs.declared.progress.Ran.TheVariants as ran
use Rattle.vx_flow.specs.declared.progress.Why.TheVariants as why
use Rattle.vx_flow.specs.Ways.{IsPolled, GoesOnBy, over, moved_on, begun_now, RefusedLaw, WaitsLaw, NoRoleLaw, EffectLaw, DialLaw, FinishedLaw, BrokenLaw, TimeoutLaw, HeldLaw, SlicedLaw, BegunLaw, BeginsLaw}
use Rattle.vx_flow.proofs.Laws.Jobs.{job-link, no-dial, own-stays, passes-from}
use Rattle.vx_flow.proofs.Laws.ByLines.{passed-parts}
use Rattle.vx_flow.proofs.Laws.Stepping.{answer-step}
use Rattle.vx_flow.proofs.Laws.Kept.{same-before, turn-stand}
use Rattle.vx_flow.proofs.Laws.Making.{later-passes-in}
use Rattle.vx_flow.proofs.Laws.Turning.{in_turn}
use Rattle.vx_flow.proofs.Laws.Deciding.{first-is}

-- ---- an answer

-- what the order of answers gives is an answer that is allowed, where the turn under way lets it come
pub answer-goes : (f : InterleavedState) (conn now : ℕ) (failed level : Bool) (told : Reply) (p : Pending) (d : Reply × Tables)
    → comes_in_turn f (Answer conn now failed None level told) f.turn ≡ true → f.state.moment ≤ now → pending_at f.state.tables conn ≡ Some p
    → passes_lines f conn p (bus_input f conn failed None level) (lines_at f conn now p) ≡ true
    → decide_in f.state.tables (busy_with f.turn) (wire_for f conn) conn p now (bus_input f conn failed None level) ≡ Some d → d.0 ≡ told
    → interleaved_step f (Answer conn now failed None level told) ≡ Some (over f conn now d.1)
answer-goes f conn now failed level told p d comes late at passes found is =
    let e = Answer conn now failed None level told in
    cond-true (comes_in_turn f e f.turn) (any_turn_step f e) None comes ∙ answer-step f conn now failed None level told p d late at passes found is

-- ---- where the turn under way is another's, or there is none

-- an event comes where the list of the turn under way isn't whole
open-comes : (f : InterleavedState) (e : Event) → ((u : Turn) → f.turn ≡ Some u → is_whole (turn_stand f u u.moves) ≡ false) → comes_in_turn f e f.turn ≡ true
open-comes f e is_open = by f.turn is_open where
  by : (turn : Option Turn) → ((u : Turn) → turn ≡ Some u → is_whole (turn_stand f u u.moves) ≡ false) → comes_in_turn f e turn ≡ true
  by None h = refl
  by (Some u) h = cond-false (is_whole (turn_stand f u u.moves)) _ _ (h u refl)

is-part-open : (stand : Stand) → stand ≡ Part → is_whole stand ≡ false
is-part-open stand h = ap is_whole h

polled-comes : (f : InterleavedState) (conn now : ℕ) (p : Pending) (e : Event) → IsPolled f conn now p → comes_in_turn f e f.turn ≡ true
polled-comes f conn now p e h = open-comes f e (λ u is. ap is_whole (h.is_part u is))

-- no turn begins where the first lines don't let the call pass
waits-begin : (f : InterleavedState) (conn now : ℕ) (p : Pending) (lines : Admission) → pending_at f.state.tables conn ≡ Some p → lines_at f conn now p ≡ lines
    → is_passed lines ≡ false → begins f conn now ≡ false
waits-begin f conn now p lines at is stays = by f.turn refl where
  by : (turn : Option Turn) → f.turn ≡ turn → (is_none turn && may_begin f.state conn now (pending_at f.state.tables conn)) ≡ false
  by (Some u) here = refl
  by None here =
      ap (may_begin f.state conn now) at
      ∙ ap (λ x. x && has_job_role f.state.wire (job_of f.state.tables conn p))
      (ap (λ turn. is_passed (first_lines_in f.state.tables (busy_with turn) (if is_some (turn_of turn conn) then f.before else f.state.wire).own conn false p now)) (sym here)
      ∙ ap is_passed is ∙ stays)

-- a poll that makes no transfer and begins no turn
still-runs : (f : InterleavedState) (conn now : ℕ) → begins f conn now ≡ false → along interleaved_step (Some f) (run_events f conn now []) ≡ Some f
still-runs f conn now h = ap (λ b. along interleaved_step (Some f) (cond b (Begin conn now ∷ []) [] ++ [])) h

-- the first lines refuse the call
pub refused_law-holds : RefusedLaw
refused_law-holds f conn now p error h is = record {
  asked = p;
  call_at = h.call_at;
  late = h.late;
  behind = f;
  runs_to = still-runs f conn now (waits-begin f conn now p _ h.call_at is refl);
  ran = (ap (λ lines. is_passed lines && is_some (turn_of f.turn conn)) is, refl);
  few = omega arith;
  ends_by = refl;
  last = over f conn now f.state.tables;
  ended =
      answer-goes f conn now false false (stopped_reply p.call error (moves_of (turn_of f.turn conn))) p
      (stopped_reply p.call error (moves_of (turn_of f.turn conn)), f.state.tables)
      (polled-comes f conn now p (Answer conn now false None false (stopped_reply p.call error (moves_of (turn_of f.turn conn)))) h) h.late h.call_at
      (ap (passes_lines f conn p (bus_input f conn false None false)) is)
      (ap (by_lines f.state.tables (wire_for f conn) conn p now (bus_input f conn false None false)) is) refl;
  at_now = refl;
}

-- a call that waits for a turn has none of its own
other-turn : (f : InterleavedState) (conn : ℕ) (p : Pending) (u : Turn) → waits_for f.state.tables (wire_for f conn).own conn p u ≡ true → (u.connection == conn) ≡ false
other-turn f conn p u h = by (u.connection == conn) refl h where
  by : (own : Bool) → (u.connection == conn) ≡ own
      → (not own && (is_bus_call p.call || (is_lock_call p.call && on_conflict (lock_request (wire_for f conn).own (named_link f.state.tables conn p.call) p.call) (turn_target f.state.tables u)))) ≡ true
      → own ≡ false
  by true e x = cc
  by false e x = refl

-- the call waits, and no turn of its own goes on
pub waits_law-holds : WaitsLaw
waits_law-holds f conn now p (why.Locked link) h is still = record {
  asked = p;
  call_at = h.call_at;
  late = h.late;
  behind = f;
  runs_to = still-runs f conn now (waits-begin f conn now p _ h.call_at is refl);
  ran = (ap (λ lines. is_passed lines && is_some (turn_of f.turn conn)) is, refl);
  few = omega arith;
  ends_by = is;
  last = f;
  ended = refl;
  at_now = refl;
}
waits_law-holds f conn now p (why.Behind other) h is still = record {
  asked = p;
  call_at = h.call_at;
  late = h.late;
  behind = f;
  runs_to = still-runs f conn now (waits-begin f conn now p _ h.call_at is refl);
  ran = (ap (λ lines. is_passed lines && is_some (turn_of f.turn conn)) is, refl);
  few = omega arith;
  ends_by = is;
  last = f;
  ended = refl;
  at_now = refl;
}
waits_law-holds f conn now p (why.Turn by) h is still =
    let u : Turn = is.1 in
    let other = other-turn f conn p u is.4 in
    let none : turn_of f.turn conn ≡ None = ap (λ t. turn_of t conn) is.2 ∙ cond-false (u.connection == conn) (Some u) None other in
    record {
      asked = p;
      call_at = h.call_at;
      late = h.late;
      behind = f;
      runs_to = still-runs f conn now (ap (λ t. is_none t && may_begin f.state conn now (pending_at f.state.tables conn)) is.2);
      ran = (ap (λ t. is_passed (lines_at f conn now p) && is_some t) none ∙ and-false (is_passed (lines_at f conn now p)), refl);
      few = omega arith;
      ends_by = is;
      last = f;
      ended = refl;
      at_now = refl;
    }
waits_law-holds f conn now p why.Held h is still = cc
waits_law-holds f conn now p why.Slice h is still = cc

-- why a call isn't answered yet doesn't hang on the moment of the state
pub not_yet-at : (f : InterleavedState) (moment conn now : ℕ) (p : Pending) (w : Why) → NotYet f conn now p w → NotYet (at_moment f moment) conn now p w
not_yet-at f moment conn now p why.Held h = h
not_yet-at f moment conn now p _ h = h

-- ---- calls that the first lines let pass

-- a call that may be answered waits for nobody's turn, and a bus call with the role has its own turn
answered-passed : (f : InterleavedState) (conn now : ℕ) (p : Pending) (o : BusInput) → lines_at f conn now p ≡ Passed → o.dialed ≡ None
    → waits_for_turn f.state.tables (wire_for f conn).own conn p f.turn ≡ false
    → (is_some (turn_of f.turn conn) || not (has_job_role f.state.wire (job_of f.state.tables conn p))) ≡ true
    → passes_lines f conn p o (lines_at f conn now p) ≡ true
answered-passed f conn now p o is none free own =
    ap (passes_lines f conn p o) is
    ∙ and_from (not (waits_for_turn f.state.tables (wire_for f conn).own conn p f.turn) && (is_some (turn_of f.turn conn) || not (has_job_role f.state.wire (job_of f.state.tables conn p))))
    (is_none o.dialed || list_any (λ n. n == conn) f.dialed)
    (and_from (not (waits_for_turn f.state.tables (wire_for f conn).own conn p f.turn)) (is_some (turn_of f.turn conn) || not (has_job_role f.state.wire (job_of f.state.tables conn p)))
    (ap not free) own)
    (ap (λ d. is_none d || list_any (λ n. n == conn) f.dialed) none)

-- the gateway hasn't the role that the call's job needs
pub no_role_law-holds : NoRoleLaw
no_role_law-holds f conn now p job h is turn has_job role =
    let o = bus_input f conn false None false in
    let wire : wire_for f conn ≡ f.state.wire = ap (λ t. if is_some (turn_of t conn) then f.before else f.state.wire) turn in
    let moves : o.moves ≡ [] = ap (λ t. moves_of (turn_of t conn)) turn in
    let told : Reply = stopped_reply p.call code.BusFault [] in
    let link = job-link (named_link f.state.tables conn p.call) p.call job has_job in
    let bus : is_bus_call p.call ≡ true = bus-job link.0.target p.call job link.2 in
    let found : decide_in f.state.tables (busy_with f.turn) (wire_for f conn) conn p now o ≡ Some (told, f.state.tables) =
    ap (by_lines f.state.tables (wire_for f conn) conn p now o) is
    ∙ cond-false (asks_dial p.call) _ _ (no-dial p.call bus)
    ∙ cond-true (is_bus_call p.call) _ _ bus
    ∙ ap (λ j. option_map (λ (given : Reply). (given, f.state.tables)) (bus_answer (wire_for f conn) p now o j)) has_job
    ∙ ap (λ b. option_map (λ (given : Reply). (given, f.state.tables))
    (cond b (if is_none o.dialed then turn_answer (wire_for f conn) p now o job (stand_on (wire_for f conn) p.call job o.moves) else None)
    (if is_quiet o then Some (stopped_reply p.call code.BusFault o.moves) else None))) (ap (has_role job) wire ∙ role)
    ∙ ap (λ ms. Some (stopped_reply p.call code.BusFault ms, f.state.tables)) moves in
    record {
      asked = p;
      call_at = h.call_at;
      late = h.late;
      behind = f;
      runs_to = still-runs f conn now
          (ap (λ t. is_none t && may_begin f.state conn now (pending_at f.state.tables conn)) turn ∙ ap (may_begin f.state conn now) h.call_at
          ∙ ap (λ j. is_passed (first_lines f.state.tables f.state.wire.own conn false p now) && has_job_role f.state.wire j) has_job
          ∙ ap (λ b. is_passed (first_lines f.state.tables f.state.wire.own conn false p now) && b) role
          ∙ and-false (is_passed (first_lines f.state.tables f.state.wire.own conn false p now)));
      ran = (ap (λ t. is_passed (lines_at f conn now p) && is_some (turn_of t conn)) turn ∙ and-false (is_passed (lines_at f conn now p)), refl);
      few = omega arith;
      ends_by = refl;
      last = over f conn now f.state.tables;
      ended = answer-goes f conn now false false told p (told, f.state.tables) (polled-comes f conn now p (Answer conn now false None false told) h) h.late h.call_at
          (answered-passed f conn now p o is refl (ap (waits_for_turn f.state.tables (wire_for f conn).own conn p) turn)
          (ap (λ t. is_some (turn_of t conn) || not (has_job_role f.state.wire (job_of f.state.tables conn p))) turn
          ∙ ap (λ j. not (has_job_role f.state.wire j)) has_job ∙ ap not role))
          found refl;
      at_now = refl;
    }

-- a call that needs no bus has no turn under way
pub no-own-turn : (f : InterleavedState) (conn : ℕ) (p : Pending) → IsSound f → pending_at f.state.tables conn ≡ Some p → is_bus_call p.call ≡ false → turn_of f.turn conn ≡ None
no-own-turn f conn p sound at table = by f.turn sound.turn_stands where
  by : (turn : Option Turn) → TurnStands f.state.tables f.before f.state.wire f.state.moment turn → turn_of turn conn ≡ None
  by None stands = refl
  by (Some u) stands = own (u.connection == conn) refl where
    own : (b : Bool) → (u.connection == conn) ≡ b → (if b then Some u else None) ≡ None
    own false e = refl
    own true e =
        let same : Some stands.asked ≡ Some p = sym stands.call_at ∙ ap (pending_at f.state.tables) (eqb-true u.connection conn e) ∙ at in
        absurd (true≢false (sym (bus-job stands.link.target stands.asked.call stands.job stands.has_job) ∙ ap (λ (x : Pending). is_bus_call x.call) (same_Some stands.asked p same) ∙ table))

-- no turn begins for it
pub table-begins : (f : InterleavedState) (conn now : ℕ) (p : Pending) → pending_at f.state.tables conn ≡ Some p → is_bus_call p.call ≡ false → begins f conn now ≡ false
table-begins f conn now p at table =
    ap (λ o. is_none f.turn && may_begin f.state conn now o) at
    ∙ ap (λ j. is_none f.turn && (is_passed (first_lines f.state.tables f.state.wire.own conn false p now) && has_job_role f.state.wire j))
    (no-job (named_link f.state.tables conn p.call) p.call table)
    ∙ ap (λ b. is_none f.turn && b) (and-false (is_passed (first_lines f.state.tables f.state.wire.own conn false p now)))
    ∙ and-false (is_none f.turn)

-- a call that needs neither the bus nor a dial has its effect
pub effect_law-holds : EffectLaw
effect_law-holds f conn now p given after h is kinds free gives =
    let o = bus_input f conn false None false in
    let neither = or_parts (is_bus_call p.call) (asks_dial p.call) kinds in
    let none = no-own-turn f conn p h.sound h.call_at neither.0 in
    let found : decide_in f.state.tables (busy_with f.turn) (wire_for f conn) conn p now o ≡ Some (given, after) =
    ap (by_lines f.state.tables (wire_for f conn) conn p now o) is
    ∙ cond-false (asks_dial p.call) _ _ neither.1
    ∙ cond-false (is_bus_call p.call) _ _ neither.0
    ∙ gives in
    record {
      asked = p;
      call_at = h.call_at;
      late = h.late;
      behind = f;
      runs_to = still-runs f conn now (table-begins f conn now p h.call_at neither.0);
      ran = (ap (λ t. is_passed (lines_at f conn now p) && is_some t) none ∙ and-false (is_passed (lines_at f conn now p)), refl);
      few = omega arith;
      ends_by = refl;
      last = over f conn now after;
      ended = answer-goes f conn now false false given p (given, after) (polled-comes f conn now p (Answer conn now false None false given) h) h.late h.call_at
          (answered-passed f conn now p o is refl free
          (ap (λ j. is_some (turn_of f.turn conn) || not (has_job_role f.state.wire j)) (no-job (named_link f.state.tables conn p.call) p.call neither.0)
          ∙ or-true (is_some (turn_of f.turn conn))))
          found refl;
      at_now = refl;
    }

-- the turn under way is left by a dial
turn-dialed : (turn : Option Turn) (conn now : ℕ) → turn_after turn (Dial conn now) ≡ turn
turn-dialed None conn now = refl
turn-dialed (Some u) conn now = refl

-- a call that asks for a dial is under no locks, and waits behind no other
dial-free : (t : Tables) (own conn : ℕ) (asked : Call) → asks_dial asked ≡ true → lock_request own (named_link t conn asked) asked ≡ None
dial-free t own conn (call.CreateIntr host port program version family) asks = refl
dial-free t own conn _ asks = absurd (false≢true asks)

-- so whoever's turn is under way the first lines say the same of it
dial-lines : (t : Tables) (busy : Option ℕ) (own conn : ℕ) (p : Pending) (now : ℕ) → asks_dial p.call ≡ true
    → first_lines_in t busy own conn false p now ≡ first_lines t own conn false p now
dial-lines t busy own conn p now asks =
    let about = named_link t conn p.call in
    let none = dial-free t own conn p.call asks in
    ap (λ first. cond p.aborted (Refused code.Abort) (checked_lines p now (check t own conn false about p.call) (bar_by (holder_against t own about p.call) first)))
    (ap (option_and_then (first_ahead t busy now conn)) none ∙ sym (ap (option_and_then (first_ahead t None now conn)) none))

-- a call asks for a dial
pub dial_law-holds : DialLaw
dial_law-holds f conn now p h is asks =
    let table = dial-no-bus p.call asks in
    let none = no-own-turn f conn p h.sound h.call_at table in
    let wire : wire_for f conn ≡ f.state.wire = ap (λ t. if is_some t then f.before else f.state.wire) none in
    let lines : first_lines f.state.tables f.state.wire.own conn false p now ≡ Passed =
    sym (dial-lines f.state.tables (busy_with f.turn) f.state.wire.own conn p now asks)
    ∙ ap (λ (w : Wire). first_lines_in f.state.tables (busy_with f.turn) w.own conn false p now) (sym wire) ∙ is in
    let dialed = without_dial f.dialed conn ++ conn ∷ [] in
    let goes : interleaved_step f (Dial conn now) ≡ Some (record (at_moment f now) { dialed = dialed }) =
    cond-true (comes_in_turn f (Dial conn now) f.turn) (any_turn_step f (Dial conn now)) None (polled-comes f conn now p (Dial conn now) h)
    ∙ cond-true (nat_le f.state.moment now && may_dial f.state conn now (pending_at f.state.tables conn))
    (Some (interleaved_after f (Dial conn now) dialed (record f.state { moment = now }))) None
    (and_from (nat_le f.state.moment now) (may_dial f.state conn now (pending_at f.state.tables conn)) (le-leb f.state.moment now h.late)
    (ap (may_dial f.state conn now) h.call_at
    ∙ and_from (asks_dial p.call) (is_passed (first_lines f.state.tables f.state.wire.own conn false p now)) asks (ap is_passed lines)))
    ∙ ap (λ turn. Some (record (at_moment f now) { turn = turn; before = wire_before turn f.state.wire f.before; dialed = dialed })) (turn-dialed f.turn conn now)
    ∙ ap (λ w. Some (record (at_moment f now) { before = w; dialed = dialed }))
    (same-before f.state.tables f.before f.state.wire f.state.moment f.turn h.sound.turn_stands) in
    record {
      asked = p;
      call_at = h.call_at;
      late = h.late;
      behind = f;
      runs_to = still-runs f conn now (table-begins f conn now p h.call_at table);
      ran = (ap (λ t. is_passed (lines_at f conn now p) && is_some t) none ∙ and-false (is_passed (lines_at f conn now p)), refl);
      few = omega arith;
      ends_by = refl;
      last = record (at_moment f now) { dialed = dialed };
      ended = goes;
      at_now = refl;
    }

-- ---- the call's own turn

-- the turn under way is the connection's own
own-turn : (u : Turn) → turn_of (Some u) u.connection ≡ Some u
own-turn u = cond-true (u.connection == u.connection) (Some u) None (eqb-self u.connection)

-- what is known of a turn that may go on
module _ (s : State) (u : Turn) (before : Wire) (ds : List ℕ) (stands : Stands s.tables before s.wire s.moment u) (now : ℕ) (late : s.moment ≤ now)
    (passed : first_lines_in s.tables (Some u.connection) before.own u.connection false stands.asked now ≡ Passed) where
  bus : is_bus_call stands.asked.call ≡ true
  bus = bus-job stands.link.target stands.asked.call stands.job stands.has_job

  job-at : job_of s.tables u.connection stands.asked ≡ Some stands.job
  job-at = ap (λ a. task_of a stands.asked.call) stands.on_link ∙ stands.has_job

  stand-at : (moves : List Transfer) → turn_stand (in_turn s (Some u) before ds) u moves ≡ stand_on before stands.asked.call stands.job moves
  stand-at moves = turn-stand s.tables before s.wire s.moment u stands moves

  unmarked : stands.asked.aborted ≡ false
  unmarked = (passed-parts stands.asked (later_lines_in s.tables (Some u.connection) before.own u.connection false stands.asked now) passed).0

  lets : lets_pass s.tables before.own u.connection stands.asked ≡ true
  lets =
      passes-from s.tables before.own u.connection stands.asked stands.link stands.on_link bus
      (later-passes-in s.tables (Some u.connection) before.own u.connection false stands.asked now stands.link stands.on_link bus
      (passed-parts stands.asked (later_lines_in s.tables (Some u.connection) before.own u.connection false stands.asked now) passed).1)

  -- it makes transfers
  move-goes : (moves : List Transfer) → turn_stand (in_turn s (Some u) before ds) u u.moves ≡ Part
      → is_on (turn_stand (in_turn s (Some u) before ds) u (u.moves ++ moves)) ≡ true
      → interleaved_step (in_turn s (Some u) before ds) (Move u.connection moves) ≡ Some (moved_on (in_turn s (Some u) before ds) u moves)
  move-goes moves part on =
      let f = in_turn s (Some u) before ds in
      let own : s.wire.own ≡ before.own =
      ap (λ (w : Wire). w.own) stands.made
      ∙ own-stays before stands.asked.call stands.job u.moves stands.on_plan (ap is_whole (sym (stand-at u.moves) ∙ part)) in
      cond-true (comes_in_turn f (Move u.connection moves) (Some u)) (any_turn_step f (Move u.connection moves)) None
      (cond-false (is_whole (turn_stand f u u.moves)) (is_answer_of u.connection (Move u.connection moves)) true (ap is_whole part))
      ∙ cond-true ((u.connection == u.connection) && goes_on s u.connection (pending_at s.tables u.connection) && is_on (turn_stand f u (u.moves ++ moves)))
      (Some (moved_on f u moves)) None
      (and_from ((u.connection == u.connection) && goes_on s u.connection (pending_at s.tables u.connection)) (is_on (turn_stand f u (u.moves ++ moves)))
      (and_from (u.connection == u.connection) (goes_on s u.connection (pending_at s.tables u.connection)) (eqb-self u.connection)
      (ap (goes_on s u.connection) stands.call_at
      ∙ and_from (not stands.asked.aborted && lets_pass s.tables s.wire.own u.connection stands.asked) (is_first s.tables s.wire.own u.connection stands.asked s.moment)
      (and_from (not stands.asked.aborted) (lets_pass s.tables s.wire.own u.connection stands.asked) (ap not unmarked)
      (ap (λ own. lets_pass s.tables own u.connection stands.asked) own ∙ lets))
      (first-is s.tables s.wire.own u.connection stands.asked s.moment stands.link stands.on_link bus (stands.first s.moment stands.began))))
      on)

  -- a poll's transfers, where it made any
  runs-moved : (moves : List Transfer) → (turn_stand (in_turn s (Some u) before ds) u u.moves ≡ Part) ⊎ (moves ≡ [])
      → is_on (turn_stand (in_turn s (Some u) before ds) u (u.moves ++ moves)) ≡ true
      → along interleaved_step (Some (in_turn s (Some u) before ds)) (moved_events u.connection moves) ≡ Some (moved_on (in_turn s (Some u) before ds) u moves)
  runs-moved [] may on = ap (λ ms. Some (in_turn s (Some (record u { moves = ms })) before ds)) (sym (append-nil u.moves))
  runs-moved (m ∷ ms) (inl part) on = move-goes (m ∷ ms) part on
  runs-moved (m ∷ ms) (inr none) on = cc

  -- its call is answered, by where its transfers stand
  call-answered : (moves : List Transfer) (failed level : Bool) (told : Reply)
      → comes_in_turn (moved_on (in_turn s (Some u) before ds) u moves) (Answer u.connection now failed None level told) (Some (record u { moves = u.moves ++ moves })) ≡ true
      → turn_answer before stands.asked now (record { begun = u.begun; moves = u.moves ++ moves; failed = failed; dialed = None; level = level }) stands.job
      (stand_on before stands.asked.call stands.job (u.moves ++ moves)) ≡ Some told
      → interleaved_step (moved_on (in_turn s (Some u) before ds) u moves) (Answer u.connection now failed None level told)
      ≡ Some (over (moved_on (in_turn s (Some u) before ds) u moves) u.connection now s.tables)
  call-answered moves failed level told comes gives =
      let v : Turn = record u { moves = u.moves ++ moves } in
      let b = moved_on (in_turn s (Some u) before ds) u moves in
      let conn = u.connection in
      let p = stands.asked in
      let o : BusInput = record { begun = u.begun; moves = u.moves ++ moves; failed = failed; dialed = None; level = level } in
      let lines : lines_at b conn now p ≡ Passed =
      ap (λ t. first_lines_in s.tables (Some conn) (if is_some t then before else wire_after s.wire moves).own conn false p now) (own-turn v) ∙ passed in
      let found : decide_in s.tables (Some conn) (wire_for b conn) conn p now (bus_input b conn failed None level) ≡ Some (told, s.tables) =
      ap (λ t. decide_in s.tables (Some conn) (if is_some t then before else wire_after s.wire moves) conn p now
      (record { begun = begun_of t; moves = moves_of t; failed = failed; dialed = None; level = level })) (own-turn v)
      ∙ ap (by_lines s.tables before conn p now o) passed
      ∙ cond-false (asks_dial p.call) _ _ (no-dial p.call bus)
      ∙ cond-true (is_bus_call p.call) _ _ bus
      ∙ ap (λ j. option_map (λ (given : Reply). (given, s.tables)) (bus_answer before p now o j)) job-at
      ∙ ap (λ r. option_map (λ (given : Reply). (given, s.tables))
      (cond r (turn_answer before p now o stands.job (stand_on before p.call stands.job o.moves))
      (if is_quiet o then Some (stopped_reply p.call code.BusFault o.moves) else None))) stands.in_role
      ∙ ap (option_map (λ (given : Reply). (given, s.tables))) gives in
      answer-goes b conn now failed level told p (told, s.tables) comes late stands.call_at
      (answered-passed b conn now p (bus_input b conn failed None level) lines refl
      (ap (λ c. not c && (is_bus_call p.call || (is_lock_call p.call && on_conflict (lock_request (wire_for b conn).own (named_link s.tables conn p.call) p.call) (turn_target s.tables v)))) (eqb-self conn))
      (ap (λ t. is_some t || not (has_job_role (wire_after s.wire moves) (job_of s.tables conn p))) (own-turn v)))
      found refl

  -- the poll went on with it so far
  turn-runs : (moves : List Transfer) → runs (moved_on (in_turn s (Some u) before ds) u moves) u.connection now stands.asked ≡ true
  turn-runs moves =
      let v : Turn = record u { moves = u.moves ++ moves } in
      ap (λ t. is_passed (first_lines_in s.tables (Some u.connection) (if is_some t then before else wire_after s.wire moves).own u.connection false stands.asked now) && is_some t) (own-turn v)
      ∙ ap (λ lines. is_passed lines && true) passed

  turn-stood : (moves : List Transfer) (where_it_stands : Stand) → turn_stand (in_turn s (Some u) before ds) u (u.moves ++ moves) ≡ where_it_stands
      → (v : Turn) → turn_of (Some (record u { moves = u.moves ++ moves })) u.connection ≡ Some v
      → turn_stand (moved_on (in_turn s (Some u) before ds) u moves) v v.moves ≡ where_it_stands
  turn-stood moves where_it_stands is v here =
      let w : Turn = record u { moves = u.moves ++ moves } in
      subst (λ (x : Turn). turn_stand (moved_on (in_turn s (Some u) before ds) u moves) x x.moves ≡ where_it_stands)
      (same_Some w v (sym (own-turn w) ∙ here)) is

  turn-open : (moves : List Transfer) → turn_stand (in_turn s (Some u) before ds) u (u.moves ++ moves) ≡ Part → (e : Event)
      → comes_in_turn (moved_on (in_turn s (Some u) before ds) u moves) e (Some (record u { moves = u.moves ++ moves })) ≡ true
  turn-open moves part e =
      cond-false (is_whole (turn_stand (in_turn s (Some u) before ds) u (u.moves ++ moves))) (is_answer_of u.connection e) true (ap is_whole part)

  -- a poll of its call, by how it ends
  turn-polls : (moves : List Transfer) (ending : Ending) (last : InterleavedState) (where_it_stands : Stand)
      → (turn_stand (in_turn s (Some u) before ds) u u.moves ≡ Part) ⊎ (moves ≡ []) → turn_stand (in_turn s (Some u) before ds) u (u.moves ++ moves) ≡ where_it_stands
      → is_on where_it_stands ≡ true
      → RanTo (moved_on (in_turn s (Some u) before ds) u moves) u.connection now stands.asked moves (ran_of ending)
      → FitsSlice (ran_of ending) (length moves)
      → EndsBy (moved_on (in_turn s (Some u) before ds) u moves) u.connection now stands.asked ending
      → along interleaved_step (Some (moved_on (in_turn s (Some u) before ds) u moves)) (end_events u.connection now ending) ≡ Some last
      → Polls (in_turn s (Some u) before ds) u.connection now moves ending (at_moment last now)
  turn-polls moves ending last where_it_stands may is on ran few by_end ended = record {
    asked = stands.asked;
    call_at = stands.call_at;
    late = late;
    behind = moved_on (in_turn s (Some u) before ds) u moves;
    runs_to = runs-moved moves may (ap is_on is ∙ on);
    ran = ran;
    few = few;
    ends_by = by_end;
    last = last;
    ended = ended;
    at_now = refl;
  }

  finished : (moves : List Transfer) (level : Bool) → (turn_stand (in_turn s (Some u) before ds) u u.moves ≡ Part) ⊎ (moves ≡ [])
      → turn_stand (in_turn s (Some u) before ds) u (u.moves ++ moves) ≡ Whole → length moves ≤ SLICE_MAX
      → level_fits stands.job level ≡ true
      → Polls (in_turn s (Some u) before ds) u.connection now moves
      (Answered ran.Finished level (whole_reply stands.job (bytes_of stands.asked.call) before (is_big stands.asked.call) level (u.moves ++ moves)))
      (over (moved_on (in_turn s (Some u) before ds) u moves) u.connection now s.tables)
  finished moves level may whole few fits =
      let told = whole_reply stands.job (bytes_of stands.asked.call) before (is_big stands.asked.call) level (u.moves ++ moves) in
      let o : BusInput = record { begun = u.begun; moves = u.moves ++ moves; failed = false; dialed = None; level = level } in
      turn-polls moves (Answered ran.Finished level told) (over (moved_on (in_turn s (Some u) before ds) u moves) u.connection now s.tables) Whole may whole refl
      (turn-runs moves, turn-stood moves Whole whole) few refl
      (call-answered moves false level told
      (cond-true (is_whole (turn_stand (in_turn s (Some u) before ds) u (u.moves ++ moves))) (u.connection == u.connection) true (ap is_whole whole) ∙ eqb-self u.connection)
      (ap (turn_answer before stands.asked now o stands.job) (sym (stand-at (u.moves ++ moves)) ∙ whole)
      ∙ cond-true (level_fits stands.job level) (Some told) None fits))

  broken : (moves : List Transfer) → turn_stand (in_turn s (Some u) before ds) u u.moves ≡ Part
      → turn_stand (in_turn s (Some u) before ds) u (u.moves ++ moves) ≡ Part → length moves < SLICE_MAX
      → Polls (in_turn s (Some u) before ds) u.connection now moves (Answered ran.Broken false (stopped_reply stands.asked.call code.BusFault (u.moves ++ moves)))
      (over (moved_on (in_turn s (Some u) before ds) u moves) u.connection now s.tables)
  broken moves may part few =
      let told = stopped_reply stands.asked.call code.BusFault (u.moves ++ moves) in
      let o : BusInput = record { begun = u.begun; moves = u.moves ++ moves; failed = true; dialed = None; level = false } in
      turn-polls moves (Answered ran.Broken false told) (over (moved_on (in_turn s (Some u) before ds) u moves) u.connection now s.tables) Part (inl may) part refl
      (turn-runs moves, turn-stood moves Part part) few refl
      (call-answered moves true false told (turn-open moves part (Answer u.connection now true None false told))
      (ap (turn_answer before stands.asked now o stands.job) (sym (stand-at (u.moves ++ moves)) ∙ part)))

  timeout : (moves : List Transfer) → turn_stand (in_turn s (Some u) before ds) u u.moves ≡ Part
      → turn_stand (in_turn s (Some u) before ds) u (u.moves ++ moves) ≡ Part → length moves < SLICE_MAX → has_passed (io_timeout_of stands.asked.call) u.begun now ≡ true
      → Polls (in_turn s (Some u) before ds) u.connection now moves (Answered ran.Paused false (stopped_reply stands.asked.call code.Timeout (u.moves ++ moves)))
      (over (moved_on (in_turn s (Some u) before ds) u moves) u.connection now s.tables)
  timeout moves may part few over_time =
      let told = stopped_reply stands.asked.call code.Timeout (u.moves ++ moves) in
      let o : BusInput = record { begun = u.begun; moves = u.moves ++ moves; failed = false; dialed = None; level = false } in
      turn-polls moves (Answered ran.Paused false told) (over (moved_on (in_turn s (Some u) before ds) u moves) u.connection now s.tables) Part (inl may) part refl
      (turn-runs moves, turn-stood moves Part part) few refl
      (call-answered moves false false told (turn-open moves part (Answer u.connection now false None false told))
      (ap (turn_answer before stands.asked now o stands.job) (sym (stand-at (u.moves ++ moves)) ∙ part)
      ∙ cond-true (has_passed (io_timeout_of stands.asked.call) u.begun now) (Some told) None over_time))

  held : (moves : List Transfer) → turn_stand (in_turn s (Some u) before ds) u u.moves ≡ Part
      → turn_stand (in_turn s (Some u) before ds) u (u.moves ++ moves) ≡ Part → length moves < SLICE_MAX → has_passed (io_timeout_of stands.asked.call) u.begun now ≡ false
      → Polls (in_turn s (Some u) before ds) u.connection now moves (Waited why.Held) (at_moment (moved_on (in_turn s (Some u) before ds) u moves) now)
  held moves may part few in_time =
      let v : Turn = record u { moves = u.moves ++ moves } in
      turn-polls moves (Waited why.Held) (moved_on (in_turn s (Some u) before ds) u moves) Part (inl may) part refl
      (turn-runs moves, turn-stood moves Part part) few (
        ap (λ t. first_lines_in s.tables (Some u.connection) (if is_some t then before else wire_after s.wire moves).own u.connection false stands.asked now) (own-turn v) ∙ passed,
        v,
        own-turn v,
        in_time,
      ) refl

  sliced : (moves : List Transfer) → turn_stand (in_turn s (Some u) before ds) u u.moves ≡ Part
      → turn_stand (in_turn s (Some u) before ds) u (u.moves ++ moves) ≡ Part → length moves ≡ SLICE_MAX
      → Polls (in_turn s (Some u) before ds) u.connection now moves (Waited why.Slice) (at_moment (moved_on (in_turn s (Some u) before ds) u moves) now)
  sliced moves may part full =
      let v : Turn = record u { moves = u.moves ++ moves } in
      turn-polls moves (Waited why.Slice) (moved_on (in_turn s (Some u) before ds) u moves) Part (inl may) part refl
      (turn-runs moves, turn-stood moves Part part) full (
        ap (λ t. first_lines_in s.tables (Some u.connection) (if is_some t then before else wire_after s.wire moves).own u.connection false stands.asked now) (own-turn v) ∙ passed,
        v,
        own-turn v,
      ) refl

-- a poll of a turn that goes on, from its parts
module _ (f : InterleavedState) (conn now : ℕ) (p : Pending) (u : Turn) (job : Task) (h : GoesOnBy f conn now p u job) where
  own-sound : IsSound (in_turn f.state (Some u) f.before f.dialed)
  own-sound = subst (λ t. IsSound (in_turn f.state t f.before f.dialed)) h.own h.sound

  own-stands : Stands f.state.tables f.before f.state.wire f.state.moment u
  own-stands = own-sound.turn_stands

  same-asked : own-stands.asked ≡ p
  same-asked = same_Some own-stands.asked p (sym own-stands.call_at ∙ ap (pending_at f.state.tables) h.of_call ∙ h.call_at)

  same-job : own-stands.job ≡ job
  same-job =
      same_Some own-stands.job job
      (sym (ap (λ a. task_of a own-stands.asked.call) own-stands.on_link ∙ own-stands.has_job)
      ∙ ap (λ c. job_of f.state.tables c own-stands.asked) h.of_call ∙ ap (job_of f.state.tables conn) same-asked ∙ h.has_job)

  own-passed : first_lines_in f.state.tables (Some u.connection) f.before.own u.connection false own-stands.asked now ≡ Passed
  own-passed =
      ap (λ c. first_lines_in f.state.tables (Some u.connection) f.before.own c false own-stands.asked now) h.of_call
      ∙ ap (λ q. first_lines_in f.state.tables (Some u.connection) f.before.own conn false q now) same-asked
      ∙ ap (λ t. first_lines_in f.state.tables (Some u.connection) (if is_some t then f.before else f.state.wire).own conn false p now)
      (sym (cond-true (u.connection == conn) (Some u) None (eq-eqb u.connection conn h.of_call)))
      ∙ ap (λ turn. first_lines_in f.state.tables (busy_with turn) (if is_some (turn_of turn conn) then f.before else f.state.wire).own conn false p now) (sym h.own)
      ∙ h.passed

  own-polls : (moves : List Transfer) (ending : Pending → Task → Ending) (last : ℕ → InterleavedState)
      → Polls (in_turn f.state (Some u) f.before f.dialed) u.connection now moves (ending own-stands.asked own-stands.job) (last u.connection)
      → Polls f conn now moves (ending p job) (last conn)
  own-polls moves ending last polls =
      subst (λ t. Polls (in_turn f.state t f.before f.dialed) conn now moves (ending p job) (last conn)) (sym h.own)
      (subst (λ c. Polls (in_turn f.state (Some u) f.before f.dialed) c now moves (ending p job) (last c)) h.of_call
      (subst (λ q. Polls (in_turn f.state (Some u) f.before f.dialed) u.connection now moves (ending q job) (last u.connection)) same-asked
      (subst (λ j. Polls (in_turn f.state (Some u) f.before f.dialed) u.connection now moves (ending own-stands.asked j) (last u.connection)) same-job polls)))

pub finished_law-holds : FinishedLaw
finished_law-holds f conn now p u job moves level h may whole few fits =
    own-polls f conn now p u job h moves
    (λ q j. Answered ran.Finished level (whole_reply j (bytes_of q.call) f.before (is_big q.call) level (u.moves ++ moves)))
    (λ c. over (moved_on f u moves) c now f.state.tables)
    (finished f.state u f.before f.dialed (own-stands f conn now p u job h) now h.late (own-passed f conn now p u job h) moves level may whole few
    (ap (λ j. level_fits j level) (same-job f conn now p u job h) ∙ fits))

pub broken_law-holds : BrokenLaw
broken_law-holds f conn now p u job moves h may part few =
    own-polls f conn now p u job h moves (λ q j. Answered ran.Broken false (stopped_reply q.call code.BusFault (u.moves ++ moves)))
    (λ c. over (moved_on f u moves) c now f.state.tables)
    (broken f.state u f.before f.dialed (own-stands f conn now p u job h) now h.late (own-passed f conn now p u job h) moves may part few)

pub timeout_law-holds : TimeoutLaw
timeout_law-holds f conn now p u job moves h may part few over_time =
    own-polls f conn now p u job h moves (λ q j. Answered ran.Paused false (stopped_reply q.call code.Timeout (u.moves ++ moves)))
    (λ c. over (moved_on f u moves) c now f.state.tables)
    (timeout f.state u f.before f.dialed (own-stands f conn now p u job h) now h.late (own-passed f conn now p u job h) moves may part few
    (ap (λ (q : Pending). has_passed (io_timeout_of q.call) u.begun now) (same-asked f conn now p u job h) ∙ over_time))

pub held_law-holds : HeldLaw
held_law-holds f conn now p u job moves h may part few in_time =
    own-polls f conn now p u job h moves (λ q j. Waited why.Held) (λ c. at_moment (moved_on f u moves) now)
    (held f.state u f.before f.dialed (own-stands f conn now p u job h) now h.late (own-passed f conn now p u job h) moves may part few
    (ap (λ (q : Pending). has_passed (io_timeout_of q.call) u.begun now) (same-asked f conn now p u job h) ∙ in_time))

pub sliced_law-holds : SlicedLaw
sliced_law-holds f conn now p u job moves h may part full =
    own-polls f conn now p u job h moves (λ q j. Waited why.Slice) (λ c. at_moment (moved_on f u moves) now)
    (sliced f.state u f.before f.dialed (own-stands f conn now p u job h) now h.late (own-passed f conn now p u job h) moves may part full)

-- ---- the turn begins

-- the first lines let the call pass on the bus as it is
passed-now : (f : InterleavedState) (conn now : ℕ) (p : Pending) → lines_at f conn now p ≡ Passed → f.turn ≡ None
    → first_lines f.state.tables f.state.wire.own conn false p now ≡ Passed
passed-now f conn now p is turn =
    ap (λ t. first_lines_in f.state.tables (busy_with t) (if is_some (turn_of t conn) then f.before else f.state.wire).own conn false p now) (sym turn) ∙ is

begins-now : (f : InterleavedState) (conn now : ℕ) (p : Pending) (job : Task) → IsPolled f conn now p → lines_at f conn now p ≡ Passed → f.turn ≡ None
    → job_of f.state.tables conn p ≡ Some job → has_role job f.state.wire ≡ true → may_begin f.state conn now (pending_at f.state.tables conn) ≡ true
begins-now f conn now p job h is turn has_job role =
    ap (may_begin f.state conn now) h.call_at
    ∙ and_from (is_passed (first_lines f.state.tables f.state.wire.own conn false p now)) (has_job_role f.state.wire (job_of f.state.tables conn p))
    (ap is_passed (passed-now f conn now p is turn)) (ap (has_job_role f.state.wire) has_job ∙ role)

pub begun_law-holds : BegunLaw
begun_law-holds f conn now p job h is turn has_job role =
    cond-true (comes_in_turn f (Begin conn now) f.turn) (any_turn_step f (Begin conn now)) None (polled-comes f conn now p (Begin conn now) h)
    ∙ cond-true (is_none f.turn && nat_le f.state.moment now && may_begin f.state conn now (pending_at f.state.tables conn)) (Some (begun_now f conn now)) None
    (and_from (is_none f.turn && nat_le f.state.moment now) (may_begin f.state conn now (pending_at f.state.tables conn))
    (and_from (is_none f.turn) (nat_le f.state.moment now) (ap is_none turn) (le-leb f.state.moment now h.late))
    (begins-now f conn now p job h is turn has_job role))

pub begins_law-holds : BeginsLaw
begins_law-holds f g conn now p job moves ending h is turn has_job role polls = record {
  asked = polls.asked;
  call_at = polls.call_at;
  late = h.late;
  behind = polls.behind;
  runs_to =
      ap (λ b. along interleaved_step (Some f) (cond b (Begin conn now ∷ []) [] ++ moved_events conn moves))
      (and_from (is_none f.turn) (may_begin f.state conn now (pending_at f.state.tables conn)) (ap is_none turn) (begins-now f conn now p job h is turn has_job role))
      ∙ ap (λ o. along interleaved_step o (moved_events conn moves)) (begun_law-holds f conn now p job h is turn has_job role)
      ∙ polls.runs_to;
  ran = polls.ran;
  few = polls.few;
  ends_by = polls.ends_by;
  last = polls.last;
  ended = polls.ended;
  at_now = polls.at_now;
}
