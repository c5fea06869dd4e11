-- A poll by the first lines of the order of answers, and the beginning of a turn.
use Rattle.std.proofs.Common.{◌≡◌, ◌≤◌, ◌==◌, ℕ, Bool, true, false, cond, List, [], ◌∷◌, ◌++◌, Option, Some, None, refl, sym, ap, ◌∙◌, subst, arith}
use Rattle.std.specs.Prelude.{is_some, is_none, not, ◌&&◌, ◌||◌}
use Rattle.std.proofs.lemmas.Bool.{cond-true, eq-eqb}
use Rattle.std.proofs.lemmas.Option.{same_Some}
use Rattle.vx_calls.specs.declared.limits.TheConstants.{ROLE_MAX, READ_MAX}
use Rattle.vx_calls.specs.declared.calls.Role.TheVariants as role
use Rattle.vx_calls.specs.declared.codes.ErrorCode.{ErrorCode}
use Rattle.vx_calls.specs.declared.codes.ErrorCode.TheVariants as code
use Rattle.vx_calls.specs.Reply.{Reply}
use Rattle.vx_488.specs.declared.transfers.TheConstants.{ADDRESS_MAX}
use Rattle.vx_488.specs.declared.transfers.Transfer.{Transfer}
use Rattle.vx_plan.specs.declared.tasks.Task.{Task}
use Rattle.vx_plan.specs.Roles.{has_role}
use Rattle.vx_488.specs.Means.{Means}
use Rattle.vx_488.specs.Steps.{Step}
use Rattle.vx_rules.specs.Lists.{along}
use Rattle.vx_rules.specs.State.{Pending, Tables, pending_at, count_of}
use Rattle.vx_rules.specs.Calls.{is_bus_call, is_lock_call, asks_dial}
use Rattle.vx_rules.specs.Checks.{named_link}
use Rattle.vx_rules.specs.Dials.{dials_to}
use Rattle.vx_rules.specs.Lines as lines
use Rattle.vx_rules.specs.Lines.{first_lines_in, first_lines, lock_request}
use Rattle.vx_state.specs.Shown.{bar_shown, lines_shown}
use Rattle.vx_state.specs.declared.tables.lines.Bar.{Bar}
use Rattle.vx_state.specs.declared.tables.lines.Bar.TheVariants as bar
use Rattle.vx_state.specs.declared.tables.lines.Admission.{Admission}
use Rattle.vx_rules.specs.Effects.{stopped_reply, effect}
use Rattle.vx_flow.specs.Event.{Begin}
use Rattle.vx_flow.specs.InterleavedState.{Turn, InterleavedState, turn_of, moves_of}
use Rattle.vx_flow.specs.InterleavedStep.{busy_with, interleaved_step, job_of, wire_for, waits_for, waits_for_turn, on_conflict, turn_target, may_begin, without_dial}
use Rattle.vx_flow.specs.Poll.{Ending, Answered, Dialed, NotYet, Polls, ran_before, lines_at, moved_events, run_events}
use Rattle.vx_flow.specs.declared.progress.Why.{Why}
use Rattle.vx_flow.specs.declared.progress.Ran.TheVariants as ran
use Rattle.vx_flow.specs.Ways.{IsPolled, over, begun_now}
use Rattle.vx_flow.proofs.Laws.{stays_sound-law, refused_law-holds, waits_law-holds, no_role_law-holds, effect_law-holds, dial_law-holds, begun_law-holds, busy-passes}
use Rattle.vx_core.specs.declared.running.Running.{Running}
use Rattle.vx_flow.specs.declared.progress.Why.TheVariants as why
use Rattle.vx_core.specs.declared.ended.Ended.{Ended}
use Rattle.vx_core.specs.declared.ended.Ended.TheVariants as ended
use Rattle.vx_core.specs.KernelState.{KernelState}
use Rattle.vx_core.specs.Shown.{busy_of, interleaved_of, turn_shown, running_of, own_of, closed}
use Rattle.vx_core.specs.Ending.{ended_shown, ended_len, why_barred}
use Rattle.vx_core.specs.Keeping.{RunsTurn, KeepsDials, Holds}
use Rattle.vx_core.specs.Turning.{HasHeard, HasPassed, IsFree, HasTurn, BeginsTurn, turn_waited}
use Rattle.vx_core.specs.Polling.{PollOnBus}
use Rattle.vx_core.specs.Leaving.{EndsFrom}
use Rattle.vx_core.proofs.Laws.{own-is, busy-is, the_pending}
use Rattle.vx_core.proofs.Ends.{begun-so, still-ends, waits-ends, dials-ends}

-- ---- a call that is polled

pub polled : {B : Type 0} (means : B → Means) (k : KernelState B) (conn : ℕ) (p : Pending) → HasHeard means k conn → pending_at k.tables conn ≡ Some p
    → IsPolled (interleaved_of means k) conn k.moment p
polled means k conn p heard at = record { sound = heard.keeps.holds.sound; call_at = at; late = omega arith; is_part = heard.keeps.is_part }

-- what the first lines say, by what the tables say
pub lines-so : {B : Type 0} (means : B → Means) (k : KernelState B) (conn : ℕ) (said told : Admission) (p : Pending)
    → ((p : Pending) → pending_at k.tables conn ≡ Some p → lines_shown said ≡ first_lines_in k.tables (busy_of k) (own_of means k conn) conn false p k.moment)
    → said ≡ told → pending_at k.tables conn ≡ Some p → lines_at (interleaved_of means k) conn k.moment p ≡ lines_shown told
lines-so means k conn said told p h is at =
    ap (λ own. first_lines_in k.tables (busy_with (interleaved_of means k).turn) own conn false p k.moment) (sym (own-is means k conn))
    ∙ ap (λ busy. first_lines_in k.tables busy (own_of means k conn) conn false p k.moment) (sym (busy-is means k)) ∙ sym (h p at) ∙ ap lines_shown is

-- a call that is answered where no transfer was made, with the state that it leaves
still-so : {B : Type 0} (means : B → Means) (through : B → Step → B → Type 0) (srq ndac : B → Bool) (k new : KernelState B) (conn : ℕ) (after : Tables)
    (given : Reply) (ended : Ended) → HasHeard means k conn → new ≡ closed (record k { tables = after }) conn
    → Polls (interleaved_of means k) conn k.moment [] (Answered ran.Still false given) (over (interleaved_of means k) conn k.moment after)
    → ended_shown ended new.room ≡ Answered ran.Still false given → ended_len ended ≤ READ_MAX
    → EndsFrom means through srq ndac k conn ended new
still-so {B} means through srq ndac k new conn after given ended heard kept polls shown within =
    let room : new.room ≡ k.room = ap (λ (s : KernelState B). s.room) kept in
    subst (EndsFrom means through srq ndac k conn ended) (sym kept)
    (still-ends means through srq ndac k conn after given ended heard.keeps.holds heard.cut polls
    (subst (λ r. ended_shown ended r ≡ Answered ran.Still false given) room shown) within)

-- the first lines refuse it
pub refused-ends : {B : Type 0} (means : B → Means) (through : B → Step → B → Type 0) (srq ndac : B → Bool) (k new : KernelState B) (conn : ℕ) (error : ErrorCode)
    (ended : Ended) → HasHeard means k conn
    → ((p : Pending) → pending_at k.tables conn ≡ Some p → lines_at (interleaved_of means k) conn k.moment p ≡ lines.Refused error)
    → new ≡ closed k conn
    → ((p : Pending) → pending_at k.tables conn ≡ Some p
    → ended_shown ended new.room ≡ Answered ran.Still false (stopped_reply p.call error (moves_of (turn_of (turn_shown k.running k.made) conn))))
    → ended_len ended ≤ READ_MAX → EndsFrom means through srq ndac k conn ended new
refused-ends means through srq ndac k new conn error ended heard says kept reply within =
    let p = the_pending (pending_at k.tables conn) heard.pending in
    still-so means through srq ndac k new conn k.tables _ ended heard kept
    (refused_law-holds (interleaved_of means k) conn k.moment p.0 error (polled means k conn p.0 heard p.1) (says p.0 p.1)) (reply p.0 p.1) within

-- it waits, and no turn of its own goes on
waiting-ends : {B : Type 0} (means : B → Means) (through : B → Step → B → Type 0) (srq ndac : B → Bool) (k : KernelState B) (conn : ℕ) (w : Why)
    → HasHeard means k conn → ((p : Pending) → pending_at k.tables conn ≡ Some p → NotYet (interleaved_of means k) conn k.moment p w) → ran_before w ≡ ran.Still
    → EndsFrom means through srq ndac k conn (ended.Waited w) k
waiting-ends means through srq ndac k conn w heard says still =
    let p = the_pending (pending_at k.tables conn) heard.pending in
    waits-ends means through srq ndac k conn w (ended.Waited w) heard.keeps heard.cut still
    (waits_law-holds (interleaved_of means k) conn k.moment p.0 w (polled means k conn p.0 heard p.1) (says p.0 p.1) still) refl (omega arith)

-- for what keeps it off: a link's lock, or a call that stands in line before it
pub barred-ends : {B : Type 0} (means : B → Means) (through : B → Step → B → Type 0) (srq ndac : B → Bool) (k : KernelState B) (conn : ℕ) (b : Bar)
    → HasHeard means k conn → ((p : Pending) → pending_at k.tables conn ≡ Some p → lines_at (interleaved_of means k) conn k.moment p ≡ lines.Waiting (bar_shown b))
    → EndsFrom means through srq ndac k conn (ended.Waited (why_barred b)) k
barred-ends means through srq ndac k conn (bar.HeldBy link) heard says = waiting-ends means through srq ndac k conn (why.Locked link) heard says refl
barred-ends means through srq ndac k conn (bar.Behind other) heard says = waiting-ends means through srq ndac k conn (why.Behind other) heard says refl

-- ---- a call that the first lines let pass

-- the turn that a call waits for
turn-waits : (f : InterleavedState) (conn : ℕ) (p : Pending) (turn : Option Turn) (by : ℕ) → turn_waited f conn p turn ≡ Some by
    → (u : Turn) × (turn ≡ Some u) × (u.connection ≡ by) × (waits_for f.state.tables (wire_for f conn).own conn p u ≡ true)
turn-waits f conn p None by h = cc
turn-waits f conn p (Some u) by h = so (waits_for f.state.tables (wire_for f conn).own conn p u) refl h where
  so : (b : Bool) → waits_for f.state.tables (wire_for f conn).own conn p u ≡ b → cond b (Some u.connection) None ≡ Some by
      → (v : Turn) × (Some u ≡ Some v) × (v.connection ≡ by) × (waits_for f.state.tables (wire_for f conn).own conn p v ≡ true)
  so true e x = (u, refl, same_Some u.connection by x, e)
  so false e x = cc

-- it waits for none
waits-none : (f : InterleavedState) (conn : ℕ) (p : Pending) (turn : Option Turn) → turn_waited f conn p turn ≡ None
    → waits_for_turn f.state.tables (wire_for f conn).own conn p turn ≡ false
waits-none f conn p None h = refl
waits-none f conn p (Some u) h = so (waits_for f.state.tables (wire_for f conn).own conn p u) h where
  so : (b : Bool) → cond b (Some u.connection) None ≡ None → b ≡ false
  so true x = cc
  so false x = refl

-- it waits for another connection's turn
pub in-turn-ends : {B : Type 0} (means : B → Means) (through : B → Step → B → Type 0) (srq ndac : B → Bool) (k : KernelState B) (conn by : ℕ)
    → HasHeard means k conn → HasPassed means k conn
    → ((p : Pending) → pending_at k.tables conn ≡ Some p → turn_waited (interleaved_of means k) conn p (interleaved_of means k).turn ≡ Some by)
    → EndsFrom means through srq ndac k conn (ended.Waited (why.Turn by)) k
in-turn-ends means through srq ndac k conn by heard passed waits =
    let f : InterleavedState = interleaved_of means k in
    waiting-ends means through srq ndac k conn (why.Turn by) heard (λ p at. let u = turn-waits f conn p f.turn by (waits p at) in (passed p at, u.0, u.1, u.2, u.3)) refl

-- a dial is asked for
pub dialed-ends : {B : Type 0} (means : B → Means) (through : B → Step → B → Type 0) (srq ndac : B → Bool) (k new : KernelState B) (conn : ℕ) (ended : Ended)
    → HasHeard means k conn → HasPassed means k conn
    → ((p : Pending) → pending_at k.tables conn ≡ Some p → asks_dial p.call ≡ true)
    → new ≡ record k { dialed = without_dial k.dialed conn ++ conn ∷ [] }
    → ((p : Pending) → pending_at k.tables conn ≡ Some p → ended_shown ended new.room ≡ Dialed (dials_to p.call).0 (dials_to p.call).1)
    → ended_len ended ≡ 0 → KeepsDials new.tables new.dialed → EndsFrom means through srq ndac k conn ended new
dialed-ends {B} means through srq ndac k new conn ended heard passed asks kept shown none dials =
    let f : InterleavedState = interleaved_of means k in
    let p = the_pending (pending_at k.tables conn) heard.pending in
    let room : new.room ≡ k.room = ap (λ (s : KernelState B). s.room) kept in
    let host : ℕ = (dials_to p.0.call).0 in
    let port : ℕ = (dials_to p.0.call).1 in
    subst (EndsFrom means through srq ndac k conn ended) (sym kept)
    (dials-ends means through srq ndac k conn host port ended heard.keeps heard.cut
    (subst (λ (s : KernelState B). KeepsDials s.tables s.dialed) kept dials)
    (dial_law-holds f conn k.moment p.0 (polled means k conn p.0 heard p.1) (passed p.0 p.1) (asks p.0 p.1))
    (subst (λ r. ended_shown ended r ≡ Dialed host port) room (shown p.0 p.1)) (omega (arith, none)))

-- a call that needs neither the bus nor a dial has its effect
pub effect-ends : {B : Type 0} (means : B → Means) (through : B → Step → B → Type 0) (srq ndac : B → Bool) (k new : KernelState B) (conn : ℕ) (ended : Ended)
    → HasHeard means k conn → HasPassed means k conn
    → ((p : Pending) → pending_at k.tables conn ≡ Some p → turn_waited (interleaved_of means k) conn p (interleaved_of means k).turn ≡ None)
    → ((p : Pending) → pending_at k.tables conn ≡ Some p → (is_bus_call p.call ≡ false) × (asks_dial p.call ≡ false))
    → ((p : Pending) → pending_at k.tables conn ≡ Some p → (given : Reply) × (after : Tables)
    × (effect k.tables (own_of means k conn) conn (named_link k.tables conn p.call) p.call ≡ Some (given, after))
    × (ended_shown ended new.room ≡ Answered ran.Still false given) × (new ≡ closed (record k { tables = after }) conn))
    → ended_len ended ≤ READ_MAX → EndsFrom means through srq ndac k conn ended new
effect-ends {B} means through srq ndac k new conn ended heard passed free kinds has_effect within =
    let f : InterleavedState = interleaved_of means k in
    let p = the_pending (pending_at k.tables conn) heard.pending in
    let e = has_effect p.0 p.1 in
    let kind = kinds p.0 p.1 in
    let P : ℕ → Type 0 = λ own. effect k.tables own conn (named_link k.tables conn p.0.call) p.0.call ≡ Some (e.0, e.1) in
    still-so means through srq ndac k new conn e.1 e.0 ended heard e.4
    (effect_law-holds f conn k.moment p.0 e.0 e.1 (polled means k conn p.0 heard p.1) (passed p.0 p.1)
    (ap (λ b. b || asks_dial p.0.call) kind.0 ∙ kind.1) (waits-none f conn p.0 f.turn (free p.0 p.1)) (subst P (own-is means k conn) e.2))
    e.3 within

-- ---- a bus call

-- where a turn is under way, a bus call that waits for none has its own
own-turn : {B : Type 0} (means : B → Means) (k : KernelState B) (conn : ℕ) (p : Pending) (o : Option Running) → k.running ≡ o → is_some o ≡ true
    → turn_waited (interleaved_of means k) conn p (turn_shown o k.made) ≡ None → is_bus_call p.call ≡ true
    → (r : Running) × (running_of k.running conn ≡ Some r)
own-turn means k conn p None e h w bus = cc
own-turn means k conn p (Some r) e h w bus =
    (r, ap (λ o. running_of o conn) e ∙ by (r.conn == conn) refl (sym (ap (λ b. cond (not (r.conn == conn) && (b || more)) (Some r.conn) None) bus) ∙ w)) where
      more : Bool
      more = is_lock_call p.call && on_conflict (lock_request (wire_for (interleaved_of means k) conn).own (named_link k.tables conn p.call) p.call)
          (turn_target k.tables (record { connection = r.conn; begun = r.turn.begun; moves = k.made }))

      by : (b : Bool) → (r.conn == conn) ≡ b → cond (not b && (true || more)) (Some r.conn) None ≡ None → cond b (Some r) None ≡ Some r
      by true e x = refl
      by false e x = cc

pub goes-on : {B : Type 0} (means : B → Means) (k : KernelState B) (conn : ℕ) → HasHeard means k conn → HasPassed means k conn → IsFree means k conn
    → ((p : Pending) → pending_at k.tables conn ≡ Some p → is_bus_call p.call ≡ true) → is_some k.running ≡ true → HasTurn means k conn
goes-on means k conn heard passed free bus on =
    let p = the_pending (pending_at k.tables conn) heard.pending in
    let own = own-turn means k conn p.0 k.running refl on (free p.0 p.1) (bus p.0 p.1) in
    record { running = own.0; is_own = own.1; holds = heard.keeps.holds; passed = passed; cut = heard.cut; asks = heard.asks }

-- none is under way
none-running : (o : Option Running) → is_some o ≡ false → o ≡ None
none-running None h = refl
none-running (Some r) h = cc

-- the gateway hasn't the role
pub no-role-ends : {B : Type 0} (means : B → Means) (through : B → Step → B → Type 0) (srq ndac : B → Bool) (k same new : KernelState B) (conn : ℕ) (has : Bool) (ended : Ended)
    → HasHeard means k conn → HasPassed means k conn → is_some k.running ≡ false
    → ((p : Pending) → pending_at k.tables conn ≡ Some p → (job : Task) × (job_of k.tables conn p ≡ Some job) × (has ≡ has_role job (means k.bus).wire))
    → has ≡ false → same ≡ k → new ≡ closed same conn
    → ((p : Pending) → pending_at same.tables conn ≡ Some p
    → ended_shown ended new.room ≡ Answered ran.Still false (stopped_reply p.call code.BusFault (moves_of (turn_of (turn_shown same.running same.made) conn))))
    → ended_len ended ≤ READ_MAX → EndsFrom means through srq ndac k conn ended new
no-role-ends {B} means through srq ndac k same new conn has ended heard passed none job lacks is kept reply within =
    let f : InterleavedState = interleaved_of means k in
    let p = the_pending (pending_at k.tables conn) heard.pending in
    let j = job p.0 p.1 in
    let running : k.running ≡ None = none-running k.running none in
    let turn : f.turn ≡ None = ap (λ o. turn_shown o k.made) running in
    let R : KernelState B → Type 0 = λ s. (p : Pending) → pending_at s.tables conn ≡ Some p
    → ended_shown ended new.room ≡ Answered ran.Still false (stopped_reply p.call code.BusFault (moves_of (turn_of (turn_shown s.running s.made) conn))) in
    still-so means through srq ndac k new conn k.tables _ ended heard (kept ∙ ap (λ s. closed s conn) is)
    (no_role_law-holds f conn k.moment p.0 j.0 (polled means k conn p.0 heard p.1) (passed p.0 p.1) turn j.1 (sym j.2 ∙ lacks))
    (subst R is reply p.0 p.1 ∙ ap (λ t. Answered ran.Still false (stopped_reply p.0.call code.BusFault (moves_of (turn_of t conn)))) turn) within

-- ---- the turn begins

-- where the gateway has the role
pub record HasBegun {B : Type 0} (means : B → Means) (k : KernelState B) (conn : ℕ) (new : KernelState B) : Type 0 where
  pub asked : Pending
  pub call_at : pending_at k.tables conn ≡ Some asked
  pub same_bus : new.bus ≡ k.bus
  pub same_moment : new.moment ≡ k.moment
  pub leads : interleaved_step (interleaved_of means k) (Begin conn k.moment) ≡ Some (interleaved_of means new)
  pub turn : HasTurn means new conn

pub has-begun : {B : Type 0} (means : B → Means) (k new : KernelState B) (conn : ℕ) (has : Bool)
    → HasHeard means k conn → HasPassed means k conn → is_some k.running ≡ false
    → ((p : Pending) → pending_at k.tables conn ≡ Some p → (job : Task) × (job_of k.tables conn p ≡ Some job) × (has ≡ has_role job (means k.bus).wire))
    → has ≡ true → BeginsTurn means k conn new → HasBegun means k conn new
has-begun {B} means k new conn has heard passed none job has_it begins =
    let f : InterleavedState = interleaved_of means k in
    let p = the_pending (pending_at k.tables conn) heard.pending in
    let j = job p.0 p.1 in
    let running : k.running ≡ None = none-running k.running none in
    let turn : f.turn ≡ None = ap (λ o. turn_shown o k.made) running in
    let r : Running = begins.running in
    let N : KernelState B = record k { running = Some r; before = (means k.bus).wire; made = [] } in
    let T : ℕ → ℕ → InterleavedState = λ n begun. record f { turn = Some (record { connection = n; begun = begun; moves = [] }); before = f.state.wire } in
    let shown : interleaved_of means new ≡ begun_now f conn k.moment = ap (interleaved_of means) begins.kept ∙ ap (λ n. T n r.turn.begun) begins.of_call ∙ ap (T conn) begins.now in
    let leads : interleaved_step f (Begin conn k.moment) ≡ Some (interleaved_of means new) =
    begun_law-holds f conn k.moment p.0 j.0 (polled means k conn p.0 heard p.1) (passed p.0 p.1) turn j.1 (sym j.2 ∙ has_it) ∙ ap Some (sym shown) in
    let is : new.running ≡ Some r = ap (λ (s : KernelState B). s.running) begins.kept in
    let bus : new.bus ≡ k.bus = ap (λ (s : KernelState B). s.bus) begins.kept in
    let holds : Holds means new = record {
      sound = stays_sound-law f (interleaved_of means new) (Begin conn k.moment) heard.keeps.holds.sound leads;
      own = subst (λ b. (means b).wire.own ≤ ADDRESS_MAX) (sym bus) heard.keeps.holds.own;
      runs = λ s at. subst (RunsTurn means new) (same_Some r s (sym is ∙ at)) begins.runs;
      dials = subst (λ (s : KernelState B). KeepsDials s.tables s.dialed) (sym begins.kept) heard.keeps.holds.dials;
      few = subst (λ (s : KernelState B). count_of s.tables role.Core ≤ ROLE_MAX) (sym begins.kept) heard.keeps.holds.few;
    } in
    let on_now : (q : Pending) → pending_at k.tables conn ≡ Some q → first_lines k.tables (means k.bus).wire.own conn false q k.moment ≡ lines.Passed =
    λ q at. ap (λ t. first_lines_in k.tables (busy_with t) (cond (is_some (turn_of t conn)) f.before f.state.wire).own conn false q k.moment) (sym turn) ∙ passed q at in
    let u : Turn = record { connection = r.conn; begun = r.turn.begun; moves = [] } in
    let passed_then : HasPassed means N conn =
    λ q at. ap (λ b. first_lines_in k.tables (Some r.conn) (cond (is_some (cond b (Some u) None)) (means k.bus).wire (means k.bus).wire).own conn false q k.moment)
    (eq-eqb r.conn conn begins.of_call) ∙ busy-passes k.tables (means k.bus).wire.own conn q k.moment r.conn false (on_now q at) in
    record {
      asked = p.0;
      call_at = p.1;
      same_bus = bus;
      same_moment = ap (λ (s : KernelState B). s.moment) begins.kept;
      leads = leads;
      turn = record {
        running = r;
        is_own = ap (λ o. running_of o conn) is ∙ cond-true (r.conn == conn) (Some r) None (eq-eqb r.conn conn begins.of_call);
        holds = holds;
        passed = subst (λ s. HasPassed means s conn) (sym begins.kept) passed_then;
        cut = subst (λ b. (means b).moves ≡ []) (sym bus) heard.cut;
        asks = subst (λ b. (means b).asks ≡ 0) (sym bus) heard.asks;
      };
    }

-- a poll from the state with the turn is one from the state before
begins-over : {B : Type 0} (means : B → Means) (through : B → Step → B → Type 0) (srq ndac : B → Bool) (f g h : InterleavedState) (bus after : B) (conn now : ℕ) (ending : Ending)
    → f.state.moment ≤ now → f.state.tables ≡ g.state.tables → interleaved_step f (Begin conn now) ≡ Some g → PollOnBus means through srq ndac g bus conn now [] ending h after
    → PollOnBus means through srq ndac f bus conn now [] ending h after
begins-over {B} means through srq ndac f g h bus after conn now ending late tables leads o =
    let moves : List Transfer = (means after).moves in
    let so = begun-so f g conn now leads in
    let begun : (is_none f.turn && may_begin f.state conn now (pending_at f.state.tables conn)) ≡ true =
    ap (λ b. b && may_begin f.state conn now (pending_at f.state.tables conn)) so.0 ∙ so.1 in
    let never : along interleaved_step (Some g) (run_events g conn now moves) ≡ along interleaved_step (Some g) (moved_events conn moves) =
    ap (λ (s : InterleavedState). along interleaved_step (Some g) (cond (is_none s.turn && may_begin g.state conn now (pending_at g.state.tables conn)) (Begin conn now ∷ []) [] ++ moved_events conn moves)) (sym so.2) in
    record {
      polls = record {
        asked = o.polls.asked;
        call_at = ap (λ t. pending_at t conn) tables ∙ o.polls.call_at;
        late = late;
        behind = o.polls.behind;
        runs_to =
            ap (λ b. along interleaved_step (Some f) (cond b (Begin conn now ∷ []) [] ++ moved_events conn moves)) begun
            ∙ ap (λ s. along interleaved_step s (moved_events conn moves)) leads
            ∙ sym never
            ∙ o.polls.runs_to;
        ran = o.polls.ran;
        few = o.polls.few;
        ends_by = o.polls.ends_by;
        last = o.polls.last;
        ended = o.polls.ended;
        at_now = o.polls.at_now;
      };
      wire = o.wire ∙ sym (ap (λ (s : InterleavedState). s.state.wire) so.2);
      walk = o.walk;
      told = o.told;
    }

-- and so it ends
pub begun-ends : {B : Type 0} (means : B → Means) (through : B → Step → B → Type 0) (srq ndac : B → Bool) (k mid new : KernelState B) (conn : ℕ) (ended : Ended)
    → HasBegun means k conn mid → EndsFrom means through srq ndac mid conn ended new → EndsFrom means through srq ndac k conn ended new
begun-ends {B} means through srq ndac k mid new conn ended begun ends =
    let f : InterleavedState = interleaved_of means k in
    let g : InterleavedState = interleaved_of means mid in
    let At : ℕ → B → Type 0 = λ now bus. PollOnBus means through srq ndac g bus conn now [] (ended_shown ended new.room) (interleaved_of means new) new.bus in
    let so = begun-so f g conn k.moment begun.leads in
    record {
      keeps = ends.keeps;
      moment = ends.moment ∙ begun.same_moment;
      within = ends.within;
      over = begins-over means through srq ndac f g (interleaved_of means new) k.bus new.bus conn k.moment (ended_shown ended new.room) (omega arith)
          (ap (λ (s : InterleavedState). s.state.tables) so.2) begun.leads
          (subst (At k.moment) begun.same_bus (subst (λ now. At now mid.bus) begun.same_moment ends.over));
    }
