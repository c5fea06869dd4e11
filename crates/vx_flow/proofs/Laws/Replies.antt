-- An answer, of a call with a turn of its own or without one.
use Rattle.std.proofs.Common.{◌≡◌, ◌≢◌, ◌≤◌, ◌==◌, ℕ, Bool, true, false, List, [], ◌∷◌, Option, Some, None, refl, sym, ap, ◌∙◌, subst, arith}
use Rattle.std.specs.Prelude.{is_some, is_none, nat_le, not, ◌&&◌, ◌||◌, if◌then◌else◌}
use Rattle.std.specs.Option.{option_map, option_and_then}
use Rattle.std.specs.List.{list_any}
use Rattle.std.proofs.lemmas.Bool.{and_parts, or_parts, leb-true, le-leb, not-true, eqb-true, eqb-false, ne_eqb}
use Rattle.std.proofs.lemmas.Option.{cond_some, none-some, same_Some}
use Rattle.vx_lemmas.proofs.Laws.Conditions.{chosen}
use Rattle.vx_lemmas.proofs.Laws.Options.{mapped, gone_on}
use Rattle.vx_calls.specs.Reply.{Reply, same_reply}
use Rattle.vx_488.specs.declared.wire.Wire.{Wire}
use Rattle.vx_488.specs.Wire.{wire_after}
use Rattle.vx_rules.specs.Calls.{is_bus_call, is_lock_call}
use Rattle.vx_rules.specs.State.{Pending, Tables, State, pending_at, with_pending}
use Rattle.vx_rules.specs.Checks.{OnLink, named_link}
use Rattle.vx_rules.specs.Lines.{LockRequest, Passed, lock_request, first_ahead, ahead_of, first_lines_in, first_lines}
use Rattle.vx_rules.specs.Decide.{BusInput, settles, by_lines, decide_in, decide, has_job_role, turn_fits}
use Rattle.vx_rules.specs.Entry as entry
use Rattle.vx_rules.specs.AtomicStep.{answer_in, answer_to_in, answered, if_reply}
use Rattle.vx_rules.proofs.Laws.{no-job}
use Rattle.vx_flow.specs.Event.{Answer}
use Rattle.vx_flow.specs.InterleavedState.{Turn, InterleavedState, before_turn, turn_of, begun_of, moves_of, turn_after}
use Rattle.vx_flow.specs.InterleavedStep.{job_of, is_whole, turn_stand, comes_in_turn, turn_target, call_target, target_on, on_conflict, waits_for_turn, wire_for, bus_input, passes_lines, is_answered, without_dial, answered_interleaved, any_turn_step, wire_before}
use Rattle.vx_flow.specs.Sound.{Stands, IsSound}
use Rattle.vx_flow.proofs.Laws.Jobs.{own-stays}
use Rattle.vx_flow.proofs.Laws.Kept.{Goes, IsOpen, Stays, open_cond, turn-stand, calm}
use Rattle.vx_flow.proofs.Laws.Calm.{GoesOn}
use Rattle.vx_flow.proofs.Laws.Turning.{in_turn}
use Rattle.vx_flow.proofs.Laws.Ending.{own_turn, turn_left}
use Rattle.vx_flow.proofs.Laws.Changes.{Found, decide-found, found-connections, found-apart, over-stays, over-come}
use Rattle.vx_flow.proofs.Laws.Deciding.{agree, quiet_turn, fits-quiet, own_outside, fits-own, one-answer}
use Rattle.std.specs.Option.{option_and_then}
use Rattle.vx_rules.specs.Sound as rules
use Rattle.vx_rules.proofs.Laws.Keeping.{ended-sound}
use Rattle.vx_rules.proofs.Laws.Walks.{Keeps, decide-keeps, passed-says}
use Rattle.vx_rules.proofs.Laws.{bus-job}
use Rattle.vx_flow.specs.InterleavedStep.{busy_with}
use Rattle.vx_flow.specs.Sound.{request_on}
use Rattle.vx_flow.proofs.Laws.Ahead.{ahead-on, ahead-busy, lines-by, on-number, numbers-apart, decided-beside}

-- ---- what an answer says

-- the bus that a call is measured on, and what comes to it from outside, by its own turn
abbrev bus_for : InterleavedState → Option Turn → Wire
bus_for f own = if is_some own then f.before else f.state.wire

abbrev from_outside : Option Turn → Bool → Option Bool → Bool → BusInput
from_outside own failed dialed level = record { begun = begun_of own; moves = moves_of own; failed = failed; dialed = dialed; level = level }

-- no turn is in the way of a call that passed
abbrev is_free : InterleavedState → ℕ → Pending → Option Turn → Option Bool → Bool
is_free f conn p own dialed =
    not (waits_for_turn f.state.tables (bus_for f own).own conn p f.turn)
    && (is_some own || not (has_job_role f.state.wire (job_of f.state.tables conn p)))
    && (is_none dialed || list_any (λ n. n == conn) f.dialed)

-- it waits for no turn, and has one where it needs it
free-parts : (f : InterleavedState) (conn : ℕ) (p : Pending) (own : Option Turn) (dialed : Option Bool) → is_free f conn p own dialed ≡ true
    → (waits_for_turn f.state.tables (bus_for f own).own conn p f.turn ≡ false) × ((is_some own || not (has_job_role f.state.wire (job_of f.state.tables conn p))) ≡ true)
free-parts f conn p own dialed h =
    let waits = waits_for_turn f.state.tables (bus_for f own).own conn p f.turn in
    let role = is_some own || not (has_job_role f.state.wire (job_of f.state.tables conn p)) in
    let parts = and_parts (not waits && role) (is_none dialed || list_any (λ n. n == conn) f.dialed) h in
    let first = and_parts (not waits) role parts.0 in
    (not-true waits first.0, first.1)

-- the state behind an answer
abbrev answered_to : InterleavedState → Tables → ℕ → ℕ → Option Turn → InterleavedState
answered_to f t conn now left = record {
  state = record { tables = with_pending t conn None; wire = f.state.wire; moment = now };
  turn = left;
  before = wire_before left f.state.wire f.before;
  dialed = without_dial f.dialed conn;
}

-- An answer that is allowed: the call, with its own turn or none, its decided reply and tables, and the state behind it.
pub record IsAnswer (f : InterleavedState) (conn now : ℕ) (failed : Bool) (dialed : Option Bool) (level : Bool) (told : Reply) (g : InterleavedState) (own left : Option Turn) : Type 0 where
  pub asked : Pending
  pub decided : Reply × Tables
  pub at : pending_at f.state.tables conn ≡ Some asked
  pub late : f.state.moment ≤ now
  pub free : first_lines_in f.state.tables (busy_with f.turn) (bus_for f own).own conn (is_some dialed) asked now ≡ Passed → is_free f conn asked own dialed ≡ true
  pub found : decide_in f.state.tables (busy_with f.turn) (bus_for f own) conn asked now (from_outside own failed dialed level) ≡ Some decided
  pub same : same_reply decided.0 told ≡ true
  pub is : answered_to f decided.1 conn now left ≡ g

-- the lines let a pending call's answer pass
answered-at : (f : InterleavedState) (conn now : ℕ) (o : BusInput) (q : Option Pending) (p : Pending) → q ≡ Some p → is_answered f conn now o q ≡ true
    → passes_lines f conn p o (first_lines_in f.state.tables (busy_with f.turn) (wire_for f conn).own conn (settles o) p now) ≡ true
answered-at f conn now o q p e h = subst (λ x. is_answered f conn now o x ≡ true) e h

-- what the gateway of one thread answered, in its parts
record WasAnswered (s : State) (busy : Option ℕ) (conn now : ℕ) (o : BusInput) (told : Reply) (after : State) : Type 0 where
  pub asked : Pending
  pub decided : Reply × Tables
  pub at : pending_at s.tables conn ≡ Some asked
  pub found : decide_in s.tables busy s.wire conn asked now o ≡ Some decided
  pub same : same_reply decided.0 told ≡ true
  pub is : record { tables = with_pending decided.1 conn None; wire = wire_after s.wire o.moves; moment = now } ≡ after

replied-so : (s : State) (busy : Option ℕ) (conn now : ℕ) (o : BusInput) (told : Reply) (after : State) (asked : Pending) (decided : Reply × Tables) (found : Reply × State)
    → pending_at s.tables conn ≡ Some asked → decide_in s.tables busy s.wire conn asked now o ≡ Some decided → answered s conn now o.moves decided ≡ found
    → if_reply told found ≡ Some after → WasAnswered s busy conn now o told after
replied-so s busy conn now o told after asked decided found at is made h =
    let same = cond_some (same_reply found.0 told) found.1 after h in
    record {
      asked = asked;
      decided = decided;
      at = at;
      found = is;
      same = ap (λ (x : Reply × State). same_reply x.0 told) made ∙ same.0;
      is = ap (λ (x : Reply × State). x.1) made ∙ same.1;
    }

was-answered : (s : State) (busy : Option ℕ) (conn now : ℕ) (o : BusInput) (told : Reply) (after : State)
    → option_and_then (if_reply told) (answer_in s busy conn now o) ≡ Some after → WasAnswered s busy conn now o told after
was-answered s busy conn now o told after h =
    let found = gone_on (if_reply told) (answer_in s busy conn now o) after h in
    let asked = gone_on (answer_to_in s busy conn now o) (pending_at s.tables conn) found.0 found.1 in
    let decided = mapped (answered s conn now o.moves) (decide_in s.tables busy s.wire conn asked.0 now o) found.0 asked.2 in
    replied-so s busy conn now o told after asked.0 decided.0 found.0 asked.1 decided.1 decided.2 found.2

-- an answer that is allowed is one in its parts
answer-parts : (f g : InterleavedState) (conn now : ℕ) (failed : Bool) (dialed : Option Bool) (level : Bool) (told : Reply)
    → any_turn_step f (Answer conn now failed dialed level told) ≡ Some g
    → IsAnswer f conn now failed dialed level told g (turn_of f.turn conn) (turn_after f.turn (Answer conn now failed dialed level told))
answer-parts f g conn now failed dialed level told h =
    let e = Answer conn now failed dialed level told in
    let o = bus_input f conn failed dialed level in
    let s : State = record f.state { wire = wire_for f conn } in
    let step = chosen (nat_le f.state.moment now && is_answered f conn now o (pending_at f.state.tables conn))
    (option_map (answered_interleaved f e conn) (option_and_then (if_reply told) (answer_in s (busy_with f.turn) conn now o))) g h in
    let tests = and_parts (nat_le f.state.moment now) (is_answered f conn now o (pending_at f.state.tables conn)) step.0 in
    let behind = mapped (answered_interleaved f e conn) (option_and_then (if_reply told) (answer_in s (busy_with f.turn) conn now o)) g step.1 in
    let was = was-answered s (busy_with f.turn) conn now o told behind.0 behind.1 in
    record {
      asked = was.asked;
      decided = was.decided;
      at = was.at;
      late = leb-true f.state.moment now tests.0;
      free = λ passed.
          subst (λ l. passes_lines f conn was.asked o l ≡ true) passed (answered-at f conn now o (pending_at f.state.tables conn) was.asked was.at tests.1);
      found = was.found;
      same = was.same;
      is = ap (answered_interleaved f e conn) was.is ∙ behind.2;
    }

-- ---- a call without a turn of its own

-- its answer leaves the turn of another
answer-quiet : (f : InterleavedState) (k conn now : ℕ) (failed : Bool) (dialed : Option Bool) (level : Bool) (told : Reply) (p : Pending) (d : Reply × Tables)
    → IsSound f → k ≤ f.state.moment → IsOpen f → f.state.moment ≤ now → pending_at f.state.tables conn ≡ Some p
    → decide f.state.tables f.before conn p now (quiet_turn failed dialed level) ≡ Some d
    → turn_fits f.state.tables f.before conn p now (quiet_turn failed dialed level) ≡ true
    → same_reply d.0 told ≡ true → d.1.connections ≡ f.state.tables.connections
    → ((u : Turn) → f.turn ≡ Some u → (s : Stands f.state.tables f.before f.state.wire f.state.moment u)
    → Stays f.state.tables (with_pending d.1 conn None) u.connection s.link s.asked)
    → Goes f k (entry.Answer conn now 0 [] failed dialed level told ∷ []) f.turn (answered_to f d.1 conn now f.turn)
answer-quiet f k conn now failed dialed level told p d sound early more late at found fits same leaves stays =
    calm f k (entry.Answer conn now 0 [] failed dialed level told ∷ []) (with_pending d.1 conn None) now now (without_dial f.dialed conn) sound more
    (one-answer (before_turn f k) conn now (quiet_turn failed dialed level) told p d (le-leb k now (omega (arith, early, late))) at fits found same)
    (omega arith) late stays (over-come f.state.tables d.1 conn f.state.moment now leaves sound.have_come late)

-- no turn is under way
answer-none : (s : State) (before : Wire) (ds : List ℕ) (g : InterleavedState) (k conn now : ℕ) (failed : Bool) (dialed : Option Bool) (level : Bool) (told : Reply)
    → IsSound (in_turn s None before ds) → k ≤ s.moment → IsAnswer (in_turn s None before ds) conn now failed dialed level told g None None
    → Goes (in_turn s None before ds) k (entry.Answer conn now 0 [] failed dialed level told ∷ []) None g
answer-none s before ds g k conn now failed dialed level told sound early a =
    let t = s.tables in
    let f = in_turn s None before ds in
    let calm : before ≡ s.wire = sound.turn_stands in
    let found : decide t before conn a.asked now (quiet_turn failed dialed level) ≡ Some a.decided =
    ap (λ w. decide t w conn a.asked now (quiet_turn failed dialed level)) calm ∙ a.found in
    let role : first_lines t before.own conn (is_some dialed) a.asked now ≡ Passed → has_job_role before (job_of t conn a.asked) ≡ false = λ passed.
    let may = a.free (ap (λ (w : Wire). first_lines t w.own conn (is_some dialed) a.asked now) (sym calm) ∙ passed) in
    let idle = (free-parts f conn a.asked None dialed may).1 in
    ap (λ w. has_job_role w (job_of t conn a.asked)) calm ∙ not-true (has_job_role s.wire (job_of t conn a.asked)) idle in
    subst (Goes f k (entry.Answer conn now 0 [] failed dialed level told ∷ []) None) a.is
    (answer-quiet f k conn now failed dialed level told a.asked a.decided sound early (λ u is. absurd (none-some u is)) a.late a.at found
    (fits-quiet t before conn a.asked now failed dialed level a.decided found role)
    a.same
    (found-connections t s.wire conn a.asked _ a.decided (decide-found t None s.wire conn a.asked now (quiet_turn failed dialed level) a.decided a.found))
    (λ u is. absurd (none-some u is)))

-- what was decided keeps what holds of the tables
decided-sound : (t : Tables) (w : Wire) (conn : ℕ) (p : Pending) (now : ℕ) (o : BusInput) (d : Reply × Tables) → rules.IsSound t → decide t w conn p now o ≡ Some d → rules.IsSound d.1
decided-sound t w conn p now o d sound h = subst Keeps h (decide-keeps t w conn p now o sound)

-- a call that the lines let pass, they let pass while a turn is under way
pub busy-passes : (t : Tables) (own conn : ℕ) (p : Pending) (now other : ℕ) (settling : Bool) → first_lines t own conn settling p now ≡ Passed
    → first_lines_in t (Some other) own conn settling p now ≡ Passed
busy-passes t own conn p now other settling h =
    let about = named_link t conn p.call in
    let none = (passed-says p now p.aborted _ _ _ h).first_come in
    lines-by t (Some other) None own conn settling p now (less (lock_request own about p.call) none ∙ sym none) ∙ h
  where
    less : (r : Option LockRequest) → option_and_then (first_ahead t None now conn) r ≡ None → option_and_then (first_ahead t (Some other) now conn) r ≡ None
    less None x = refl
    less (Some c) x = ahead-busy t (Some other) now conn c x

-- ---- a call beside another connection's turn

-- what keeps off a call beside another connection's turn
abbrev beside : Tables → ℕ → ℕ → Pending → Turn → Bool
beside t own conn p u = is_bus_call p.call || (is_lock_call p.call && on_conflict (lock_request own (named_link t conn p.call) p.call) (turn_target t u))

-- what the turn under way is on
turn-target : (t : Tables) (before now : Wire) (m : ℕ) (u : Turn) (s : Stands t before now m u) → turn_target t u ≡ Some s.link.target
turn-target t before now m u s = ap (call_target t u.connection) s.call_at ∙ ap target_on s.on_link

-- on the present bus it is decided as on the one before the turn, whose own address is the same
answer-beside : (s : State) (u : Turn) (before : Wire) (ds : List ℕ) (g : InterleavedState) (k conn now : ℕ) (failed : Bool) (dialed : Option Bool) (level : Bool) (told : Reply)
    → IsSound (in_turn s (Some u) before ds) → k ≤ s.moment → IsOpen (in_turn s (Some u) before ds) → (u.connection == conn) ≡ false
    → IsAnswer (in_turn s (Some u) before ds) conn now failed dialed level told g None (Some u)
    → Goes (in_turn s (Some u) before ds) k (entry.Answer conn now 0 [] failed dialed level told ∷ []) (Some u) g
answer-beside s u before ds g k conn now failed dialed level told sound early more other a =
    let t = s.tables in
    let f = in_turn s (Some u) before ds in
    let o = quiet_turn failed dialed level in
    let st : Stands t before s.wire s.moment u = sound.turn_stands in
    let ne : conn ≢ u.connection = λ e. eqb-false u.connection conn other (sym e) in
    let rest = sym (ap is_whole (turn-stand t before s.wire s.moment u st u.moves)) ∙ more u refl in
    let own : s.wire.own ≡ before.own = ap (λ w. w.own) st.made ∙ own-stays before st.asked.call st.job u.moves st.on_plan rest in
    let parts : first_lines_in t (Some u.connection) s.wire.own conn (is_some dialed) a.asked now ≡ Passed
    → (is_bus_call a.asked.call ≡ false)
    × ((is_lock_call a.asked.call && on_conflict (lock_request s.wire.own (named_link t conn a.asked.call) a.asked.call) (turn_target t u)) ≡ false) = λ passed.
    or_parts (is_bus_call a.asked.call) (is_lock_call a.asked.call && on_conflict (lock_request s.wire.own (named_link t conn a.asked.call) a.asked.call) (turn_target t u))
    (sym (ap (λ b. not b && beside t s.wire.own conn a.asked u) other) ∙ (free-parts f conn a.asked None dialed (a.free passed)).0) in
    let single : decide t s.wire conn a.asked now o ≡ Some a.decided =
    sym (decided-beside t s.wire conn u.connection a.asked now o st.asked st.link st.call_at st.on_link
    (λ passed. (
      (parts passed).0,
      ap (λ x. is_lock_call a.asked.call && on_conflict (lock_request s.wire.own (named_link t conn a.asked.call) a.asked.call) x)
          (sym (turn-target t before s.wire s.moment u st)) ∙ (parts passed).1,
    ))) ∙ a.found in
    let found : decide t before conn a.asked now o ≡ Some a.decided =
    sym (agree t s.wire before conn a.asked now o own (λ passed. (parts (busy-passes t s.wire.own conn a.asked now u.connection (is_some dialed) passed)).0)) ∙ single in
    let role : first_lines t before.own conn (is_some dialed) a.asked now ≡ Passed → has_job_role before (job_of t conn a.asked) ≡ false = λ passed.
    ap (has_job_role before)
    (no-job (named_link t conn a.asked.call) a.asked.call
    (parts (busy-passes t s.wire.own conn a.asked now u.connection (is_some dialed) (ap (λ n. first_lines t n conn (is_some dialed) a.asked now) own ∙ passed))).0) in
    let gives = decide-found t (Some u.connection) s.wire conn a.asked now o a.decided a.found in
    subst (Goes f k (entry.Answer conn now 0 [] failed dialed level told ∷ []) (Some u)) a.is
    (answer-quiet f k conn now failed dialed level told a.asked a.decided sound early more a.late a.at found
    (fits-quiet t before conn a.asked now failed dialed level a.decided found role)
    a.same
    (found-connections t s.wire conn a.asked (first_lines_in t (Some u.connection) s.wire.own conn (is_some dialed) a.asked now) a.decided gives)
    (λ v is sv. beside-stays v is sv gives (λ passed. (parts passed).1)))
  where
    beside-stays : (v : Turn) → Some u ≡ Some v → (sv : Stands s.tables before s.wire s.moment v)
        → Found s.tables s.wire conn a.asked (first_lines_in s.tables (Some u.connection) s.wire.own conn (is_some dialed) a.asked now) a.decided
        → (first_lines_in s.tables (Some u.connection) s.wire.own conn (is_some dialed) a.asked now ≡ Passed
        → (is_lock_call a.asked.call && on_conflict (lock_request s.wire.own (named_link s.tables conn a.asked.call) a.asked.call) (turn_target s.tables u)) ≡ false)
        → Stays s.tables (with_pending a.decided.1 conn None) v.connection sv.link sv.asked
    beside-stays v is sv gives free =
        let one = same_Some u v is in
        let ne : conn ≢ v.connection = λ e. eqb-false u.connection conn other (ap (λ x. x.connection) one ∙ sym e) in
        let target = ap (turn_target s.tables) one ∙ turn-target s.tables before s.wire s.moment v sv in
        over-stays s.tables a.decided.1 conn v.connection sv.link sv.asked ne sv.call_at
        (found-apart s.tables s.wire conn v.connection a.asked (first_lines_in s.tables (Some u.connection) s.wire.own conn (is_some dialed) a.asked now) sv.link a.decided ne
        (λ k on.
        let mine = on-number s.tables conn a.asked.call k on in
        let its = on-number s.tables v.connection sv.asked.call sv.link sv.on_link in
        numbers-apart s.tables conn v.connection mine.0 its.0 k sv.link sound.tables mine.1 its.1 ne)
        (λ passed.
        subst (λ x. (is_lock_call a.asked.call && on_conflict (lock_request s.wire.own (named_link s.tables conn a.asked.call) a.asked.call) x) ≡ false) target (free passed))
        gives)

-- ---- the call whose turn it is

answer-own : (s : State) (u : Turn) (before : Wire) (ds : List ℕ) (g : InterleavedState) (k now : ℕ) (failed : Bool) (dialed : Option Bool) (level : Bool) (told : Reply)
    → IsSound (in_turn s (Some u) before ds) → k ≤ s.moment
    → IsAnswer (in_turn s (Some u) before ds) u.connection now failed dialed level told g (Some u) None
    → Goes (in_turn s (Some u) before ds) k (entry.Answer u.connection now u.begun u.moves failed dialed level told ∷ []) None g
answer-own s u before ds g k now failed dialed level told sound early a =
    let t = s.tables in
    let f = in_turn s (Some u) before ds in
    let o = own_outside u failed dialed level in
    let st : Stands t before s.wire s.moment u = sound.turn_stands in
    let same : a.asked ≡ st.asked = same_Some a.asked st.asked (sym a.at ∙ st.call_at) in
    let after : u.begun ≤ now = omega (arith, st.began, a.late) in
    let bus : is_bus_call st.asked.call ≡ true = bus-job st.link.target st.asked.call st.job st.has_job in
    let alone : ahead_of t None before.own now u.connection (OnLink st.link) st.asked.call ≡ None = ahead-on t None before.own now u.connection st.link st.asked.call bus ∙ st.first now after in
    let busy : ahead_of t (Some u.connection) before.own now u.connection (OnLink st.link) st.asked.call ≡ None =
    ahead-on t (Some u.connection) before.own now u.connection st.link st.asked.call bus ∙ ahead-busy t (Some u.connection) now u.connection (request_on st.link) (st.first now after) in
    let line : first_lines_in t (Some u.connection) before.own u.connection (settles o) st.asked now ≡ first_lines t before.own u.connection (settles o) st.asked now =
    lines-by t (Some u.connection) None before.own u.connection (settles o) st.asked now
    (ap (λ about. ahead_of t (Some u.connection) before.own now u.connection about st.asked.call) st.on_link ∙ busy ∙ sym alone
    ∙ sym (ap (λ about. ahead_of t None before.own now u.connection about st.asked.call) st.on_link)) in
    let found : decide t before u.connection st.asked now o ≡ Some a.decided =
    ap (by_lines t before u.connection st.asked now o) (sym line)
    ∙ subst (λ p. decide_in t (Some u.connection) before u.connection p now o ≡ Some a.decided) same a.found in
    let leaves = found-connections t before u.connection st.asked (first_lines t before.own u.connection (is_some dialed) st.asked now) a.decided
    (decide-found t None before u.connection st.asked now o a.decided found) in
    subst (Goes f k (entry.Answer u.connection now u.begun u.moves failed dialed level told ∷ []) None) a.is (record {
      moment = now;
      reaches =
          one-answer (before_turn f k) u.connection now o told st.asked a.decided (le-leb k now (omega (arith, early, a.late))) st.call_at
          (fits-own t before s.wire s.moment now u st a.late failed dialed level a.decided found) found a.same
          ∙ ap (λ w. Some (record { tables = with_pending a.decided.1 u.connection None; wire = w; moment = now })) (sym st.made);
      earlier = omega arith;
      turn_is = refl;
      sound = record {
        turn_stands = refl;
        have_come = over-come t a.decided.1 u.connection s.moment now leaves sound.have_come a.late;
        tables = ended-sound a.decided.1 u.connection (decided-sound t before u.connection st.asked now o a.decided sound.tables found);
      };
      stays = λ v same is sv. absurd (none-some u same);
    })

-- ---- every answer

answer-turn : (s : State) (turn : Option Turn) (before : Wire) (ds : List ℕ) (g : InterleavedState) (k conn now : ℕ) (failed : Bool) (dialed : Option Bool) (level : Bool) (told : Reply)
    → IsSound (in_turn s turn before ds) → k ≤ s.moment
    → comes_in_turn (in_turn s turn before ds) (Answer conn now failed dialed level told) turn ≡ true
    → IsAnswer (in_turn s turn before ds) conn now failed dialed level told g (turn_of turn conn) (turn_after turn (Answer conn now failed dialed level told))
    → GoesOn (in_turn s turn before ds) k (Answer conn now failed dialed level told) g
answer-turn s None before ds g k conn now failed dialed level told sound early comes a = answer-none s before ds g k conn now failed dialed level told sound early a
answer-turn s (Some u) before ds g k conn now failed dialed level told sound early comes a = by (u.connection == conn) refl a where
  by : (own : Bool) → (u.connection == conn) ≡ own
      → IsAnswer (in_turn s (Some u) before ds) conn now failed dialed level told g (own_turn own u) (turn_left own u)
      → Goes (in_turn s (Some u) before ds) k
      (entry.Answer conn now (begun_of (own_turn own u)) (moves_of (own_turn own u)) failed dialed level told ∷ []) (turn_left own u) g
  by true e a =
      subst (λ c. IsAnswer (in_turn s (Some u) before ds) c now failed dialed level told g (Some u) None
      → Goes (in_turn s (Some u) before ds) k (entry.Answer c now u.begun u.moves failed dialed level told ∷ []) None g)
      (eqb-true u.connection conn e) (answer-own s u before ds g k now failed dialed level told sound early) a
  by false e a = answer-beside s u before ds g k conn now failed dialed level told sound early more e a where
    more : IsOpen (in_turn s (Some u) before ds)
    more v is =
        subst (λ x. is_whole (turn_stand (in_turn s (Some u) before ds) x x.moves) ≡ false) (same_Some u v is)
        (open_cond (is_whole (turn_stand (in_turn s (Some u) before ds) u u.moves)) (conn == u.connection) comes
        (ne_eqb conn u.connection (λ f. eqb-false u.connection conn e (sym f))))

pub replied : (f g : InterleavedState) (k conn now : ℕ) (failed : Bool) (dialed : Option Bool) (level : Bool) (told : Reply) → IsSound f → k ≤ f.state.moment
    → comes_in_turn f (Answer conn now failed dialed level told) f.turn ≡ true → any_turn_step f (Answer conn now failed dialed level told) ≡ Some g
    → GoesOn f k (Answer conn now failed dialed level told) g
replied f g k conn now failed dialed level told sound early comes h =
    answer-turn f.state f.turn f.before f.dialed g k conn now failed dialed level told sound early comes (answer-parts f g conn now failed dialed level told h)
