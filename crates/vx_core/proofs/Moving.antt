-- A poll that goes on with its call's turn.
use Rattle.std.proofs.Common.{◌≡◌, ◌≤◌, ◌<◌, ◌==◌, ℕ, Bool, true, false, cond, ◌⊎◌, inl, inr, List, [], ◌∷◌, ◌++◌, map, length, append-nil, Option, Some, None, refl, sym, ap, ◌∙◌, subst, arith}
use Rattle.std.specs.Prelude.{IsSome, is_some, not, ◌||◌}
use Rattle.std.specs.Option.{option_and_then}
use Rattle.std.proofs.lemmas.Bool.{cond-true, eq-eqb}
use Rattle.std.proofs.lemmas.Option.{same_Some}
use Rattle.std.proofs.Math.Bool.{or-true}
use Rattle.vx_calls.specs.declared.limits.TheConstants.{ROLE_MAX, READ_MAX, SLICE_MAX}
use Rattle.vx_calls.specs.declared.codes.ErrorCode.{ErrorCode}
use Rattle.vx_calls.specs.declared.codes.ErrorCode.TheVariants as code
use Rattle.vx_calls.specs.Reply.{Reply}
use Rattle.vx_calls.specs.declared.calls.Role.TheVariants as role
use Rattle.vx_488.specs.declared.transfers.TheConstants.{ADDRESS_MAX}
use Rattle.vx_488.specs.declared.transfers.Transfer.{Transfer}
use Rattle.vx_488.specs.declared.wire.Wire.{Wire}
use Rattle.vx_488.specs.Wire.{wire_after}
use Rattle.vx_plan.specs.declared.tasks.Task.{Task}
use Rattle.vx_plan.specs.declared.tasks.Task.TheVariants as task
use Rattle.vx_plan.specs.Plan.{Slot, Plan, Reading, Part, stand_of, stand, left_after, next_slot}
use Rattle.vx_plan.specs.Results.{whole_reply}
use Rattle.vx_plan.specs.Tasks.{plan, IsPlainTask}
use Rattle.vx_plan.proofs.Laws.{left_after-none, left_after-append, left-on}
use Rattle.vx_flow.proofs.Laws.{OwnHas, own-after, finished_law-holds, broken_law-holds, timeout_law-holds, held_law-holds, sliced_law-holds}
use Rattle.vx_488.specs.Means.{Means}
use Rattle.vx_488.specs.Steps.{Step, Went}
use Rattle.vx_488.specs.Walks.{Walk}
use Rattle.vx_ctrl.specs.declared.turn.Went.{Went as Outcome}
use Rattle.vx_ctrl.specs.declared.turn.Went.TheVariants as went
use Rattle.vx_ctrl.specs.Turns.{TurnState, HasMade}
use Rattle.vx_ctrl.specs.Goes.{go_steps, refused_steps, outcome_stand, FitsSlice}
use Rattle.vx_rules.specs.State.{Pending, pending_at, count_of}
use Rattle.vx_rules.specs.Calls.{bytes_of, is_big, io_timeout_of, has_passed}
use Rattle.vx_rules.specs.Effects.{stopped_reply}
use Rattle.vx_rules.specs.Decide.{stand_of_job, level_fits}
use Rattle.vx_flow.specs.Event.{Event, Answer}
use Rattle.vx_flow.specs.InterleavedState.{Turn, InterleavedState, turn_of, moves_of}
use Rattle.vx_flow.specs.InterleavedStep.{interleaved_step, job_of, turn_stand, call_stand}
use Rattle.vx_flow.specs.Sound.{IsSound}
use Rattle.vx_flow.specs.Poll.{Ending, Answered, Waited, Polls, is_broken, ran_of, run_events}
use Rattle.vx_flow.specs.declared.progress.Ran.{Ran}
use Rattle.vx_flow.specs.declared.progress.Ran.TheVariants as ran
use Rattle.vx_flow.specs.Ways.{GoesOnBy, over, moved_on}
use Rattle.vx_core.specs.declared.running.Running.{Running}
use Rattle.vx_flow.specs.declared.progress.Why.TheVariants as why
use Rattle.vx_core.specs.declared.ended.Ended.{Ended}
use Rattle.vx_core.specs.declared.ended.Ended.TheVariants as ended
use Rattle.vx_core.specs.Ending.{ended_shown, ended_len}
use Rattle.vx_core.specs.Polling.{level_told, wanted, wanted_by, refused_ask, level_of, IsTold, PollOnBus}
use Rattle.vx_core.specs.KernelState.{KernelState}
use Rattle.vx_core.specs.Shown.{interleaved_of, turn_shown, before_shown, running_of, running_without, closed}
use Rattle.vx_core.specs.Keeping.{RunsTurn, KeepsDials, Holds}
use Rattle.vx_core.specs.Turning.{HasTurn, WentOn}
use Rattle.vx_core.proofs.Laws.{running-own}
use Rattle.vx_core.specs.Leaving.{EndsFrom}
use Rattle.vx_core.proofs.Keeping.{keeps-after}
use Rattle.vx_core.proofs.Ends.{behind-own, sound-along, answer-ends, interleaved-closed}

-- ---- plans

-- a list that doesn't leave its plan is a part of it, or nothing goes on behind it
part-or-still : (p : Option Plan) (ts us : List Transfer) (left later : Plan) → left_after p ts ≡ Some left → left_after p (ts ++ us) ≡ Some later
    → (stand_of (Some left) ≡ Part) ⊎ (us ≡ [])
part-or-still p ts us left later h then_so = by left.front left.reading us (sym (ap (λ o. left_after o us) h) ∙ sym (left_after-append p ts us) ∙ then_so) where
  by : (front : List Slot) (reading : Option Reading) (us : List Transfer) → left_after (Some (record { front = front; reading = reading })) us ≡ Some later
      → (stand_of (Some (record { front = front; reading = reading })) ≡ Part) ⊎ (us ≡ [])
  by [] None [] x = inr refl
  by [] None (t ∷ ts) x = let none = left_after-none ts in cc
  by [] (Some r) us x = inl refl
  by (slot ∷ slots) reading us x = inl refl

-- ---- the gateway's own address

-- a new own address is up to 30, where the job can be done
plain-own : (job : Task) → IsPlainTask job → OwnHas (λ n. n ≤ ADDRESS_MAX) job
plain-own (task.Own n) within = within
plain-own _ within = tt

-- ---- where a turn stands

-- what a turn has made is on its job's plan, on the bus as that was when it began
on-plan : (turn : TurnState) (w : Wire) (bytes : List ℕ) (made : List Transfer) (left : Plan) → HasMade turn w bytes made left
    → left_after (Some (plan turn.task bytes w.polling w.own)) made ≡ Some left
on-plan turn w bytes made left h =
    ap (λ polling. left_after (Some (plan turn.task bytes polling w.own)) made) (sym h.polling)
    ∙ ap (λ own. left_after (Some (plan turn.task bytes turn.place.polling own)) made) (sym h.own)
    ∙ h.reaches.goes

-- where transfers of a connection's turn stand, by its call and its job
stands-so : (f : InterleavedState) (u : Turn) (p : Pending) (job : Task) (moves : List Transfer) → pending_at f.state.tables u.connection ≡ Some p
    → job_of f.state.tables u.connection p ≡ Some job → turn_stand f u moves ≡ stand (plan job (bytes_of p.call) f.before.polling f.before.own) moves
stands-so f u p job moves at has_job =
    ap (call_stand f.state.tables f.before u.connection moves) at ∙ ap (stand_of_job f.before p.call moves) has_job

-- ---- a turn that went on

-- the turn under way, as events know it
abbrev pub turn_by : {B : Type 0} → KernelState B → Running → Turn
turn_by k r = record { connection = r.conn; begun = r.turn.begun; moves = k.made }

-- what a poll knows of its call's turn once that went on by the bus's transfers, to this outcome
pub record HasGone {B : Type 0} (means : B → Means) (through : B → Step → B → Type 0) (k : KernelState B) (conn : ℕ) (r : Running) (outcome : Outcome) (m : KernelState B) : Type 0 where
  pub asked : Pending
  pub goes : GoesOnBy (interleaved_of means k) conn k.moment asked (turn_by k r) r.turn.task
  pub from : (turn_stand (interleaved_of means k) (turn_by k r) k.made ≡ Part) ⊎ ((means m.bus).moves ≡ [])
  pub to : turn_stand (interleaved_of means k) (turn_by k r) (k.made ++ (means m.bus).moves) ≡ outcome_stand outcome
  pub few : FitsSlice outcome (length (means m.bus).moves)
  pub after : interleaved_of means m ≡ moved_on (interleaved_of means k) (turn_by k r) (means m.bus).moves
  pub own : (means m.bus).wire.own ≤ ADDRESS_MAX
  pub runs : (s : Running) → m.running ≡ Some s → RunsTurn means m s
  pub tables : m.tables ≡ k.tables
  pub dialed : m.dialed ≡ k.dialed
  pub moment : m.moment ≡ k.moment
  pub before : (interleaved_of means k).before ≡ m.before
  pub task : (s : Running) → m.running ≡ Some s → (s.turn.task ≡ r.turn.task) × (s.turn.begun ≡ r.turn.begun)
  pub over_then : running_without m.running conn ≡ None
  pub made : m.made ≡ k.made ++ (means m.bus).moves
  pub left : Plan
  pub is_left : left_after (Some (plan r.turn.task (bytes_of asked.call) (interleaved_of means k).before.polling (interleaved_of means k).before.own)) (k.made ++ (means m.bus).moves) ≡ Some left
  pub walk : Walk means through k.bus (go_steps (means m.bus).moves outcome left) m.bus

has-gone : {B : Type 0} (means : B → Means) (through : B → Step → B → Type 0) (k : KernelState B) (conn : ℕ) (outcome : Outcome) (m : KernelState B)
    → (has : HasTurn means k conn) → WentOn means through k has.running outcome m → HasGone means through k conn has.running outcome m
has-gone {B} means through k conn outcome m has went =
    let r = has.running in
    let f : InterleavedState = interleaved_of means k in
    let moves : List Transfer = (means m.bus).moves in
    let own = running-own k.running conn r has.is_own in
    let old = has.holds.runs r own.0 in
    let p : Pending = went.runs.asked in
    let here : pending_at k.tables r.conn ≡ Some p = sym (ap (λ (s : KernelState B). pending_at s.tables r.conn) went.kept) ∙ went.runs.call_at in
    let at : pending_at k.tables conn ≡ Some p = subst (λ n. pending_at k.tables n ≡ Some p) own.1 here in
    let job_here : job_of k.tables r.conn p ≡ Some r.turn.task =
    sym (ap (λ (s : KernelState B). job_of s.tables r.conn p) went.kept) ∙ went.runs.job_is ∙ ap Some went.job in
    let job : job_of k.tables conn p ≡ Some r.turn.task = subst (λ n. job_of k.tables n p ≡ Some r.turn.task) own.1 job_here in
    let before : f.before ≡ k.before = ap (λ o. before_shown o k.before (means k.bus).wire) own.0 in
    let same : old.asked ≡ p = same_Some old.asked p (sym old.call_at ∙ here) in
    let plan_at : Wire → Pending → Task → Plan = λ w q j. plan j (bytes_of q.call) w.polling w.own in
    let first : left_after (Some (plan_at k.before p r.turn.task)) k.made ≡ Some old.begins.left =
    ap (λ q. left_after (Some (plan_at k.before q r.turn.task)) k.made) (sym same) ∙ on-plan r.turn k.before (bytes_of old.asked.call) k.made old.begins.left old.begins.had_made in
    let later : left_after (Some (plan_at k.before p r.turn.task)) (k.made ++ moves) ≡ Some went.goes.left =
    ap (λ j. left_after (Some (plan_at k.before p j)) (k.made ++ moves)) (sym went.job)
    ∙ on-plan went.turn k.before (bytes_of p.call) (k.made ++ moves) went.goes.left went.goes.has_made in
    let stood = part-or-still (Some (plan_at k.before p r.turn.task)) k.made moves old.begins.left went.goes.left first later in
    let stands : (ts : List Transfer) → turn_stand f (turn_by k r) ts ≡ stand (plan_at k.before p r.turn.task) ts =
    λ ts. stands-so f (turn_by k r) p r.turn.task ts here job_here ∙ ap (λ w. stand (plan_at w p r.turn.task) ts) before in
    let from : ((turn_stand f (turn_by k r) k.made ≡ Part) ⊎ (moves ≡ [])) = elim stood [ inl part ↦ inl (stands k.made ∙ ap stand_of first ∙ part) | inr none ↦ inr none ] in
    let M : Wire → ℕ → Wire → InterleavedState = λ wire begun before. record {
      state = record { tables = k.tables; wire = wire; moment = k.moment };
      turn = Some (record { connection = r.conn; begun = begun; moves = k.made ++ moves });
      before = before;
      dialed = k.dialed;
    } in
    let ran : Running = record r { turn = went.turn } in
    let running : m.running ≡ Some ran = ap (λ (s : KernelState B). s.running) went.kept in
    let wire_now : (means m.bus).wire ≡ wire_after k.before (k.made ++ moves) =
    went.runs.begins.bus ∙ ap (λ (s : KernelState B). wire_after s.before s.made) went.kept in
    record {
      asked = p;
      goes = record {
        sound = has.holds.sound;
        call_at = at;
        late = omega arith;
        passed = has.passed p at;
        own = ap (λ o. turn_shown o k.made) own.0;
        of_call = own.1;
        has_job = job;
      };
      from = from;
      to = stands (k.made ++ moves) ∙ ap stand_of later ∙ went.goes.stands;
      few = went.goes.few;
      after =
          ap (interleaved_of means) went.kept
          ∙ ap (λ w. M w went.turn.begun k.before) went.wire
          ∙ ap (λ b. M (wire_after (means k.bus).wire moves) b k.before) went.begun
          ∙ ap (M (wire_after (means k.bus).wire moves) r.turn.begun) (sym before);
      own = subst (λ (w : Wire). w.own ≤ ADDRESS_MAX) (sym wire_now)
          (own-after (λ n. n ≤ ADDRESS_MAX) r.turn.task (bytes_of p.call) k.before.polling k.before.own (k.made ++ moves) k.before old.own (plain-own r.turn.task old.plain)
          (left-on (left_after (Some (plan_at k.before p r.turn.task)) (k.made ++ moves)) went.goes.left later));
      runs = λ s is. subst (RunsTurn means m) (same_Some ran s (sym running ∙ is)) went.runs;
      tables = ap (λ (s : KernelState B). s.tables) went.kept;
      dialed = ap (λ (s : KernelState B). s.dialed) went.kept;
      moment = ap (λ (s : KernelState B). s.moment) went.kept;
      before = before ∙ sym (ap (λ (s : KernelState B). s.before) went.kept);
      task = λ s is.
          let is_ran = same_Some ran s (sym running ∙ is) in
          (ap (λ (y : Running). y.turn.task) (sym is_ran) ∙ went.job, ap (λ (y : Running). y.turn.begun) (sym is_ran) ∙ went.begun);
      over_then = ap (λ o. running_without o conn) running ∙ cond-true (r.conn == conn) None (Some ran) (eq-eqb r.conn conn own.1);
      made = ap (λ (s : KernelState B). s.made) went.kept;
      left = went.goes.left;
      is_left = ap (λ w. left_after (Some (plan_at w p r.turn.task)) (k.made ++ moves)) before ∙ later;
      walk = went.goes.walk;
    }

-- so a poll finds it
pub gone : {B : Type 0} (means : B → Means) (through : B → Step → B → Type 0) (k : KernelState B) (conn : ℕ) (result outcome : Outcome) (m : KernelState B)
    → (has : HasTurn means k conn) → ((r : Running) → running_of k.running conn ≡ Some r → WentOn means through k r result m) → result ≡ outcome
    → HasGone means through k conn has.running outcome m
gone means through k conn result outcome m has went is =
    has-gone means through k conn outcome m has (subst (λ o. WentOn means through k has.running o m) is (went has.running has.is_own))

-- a turn that isn't whole was a part before
part-before : (f : InterleavedState) (u : Turn) (moves : List Transfer) → (turn_stand f u u.moves ≡ Part) ⊎ (moves ≡ []) → turn_stand f u (u.moves ++ moves) ≡ Part
    → turn_stand f u u.moves ≡ Part
part-before f u moves (inl part) to = part
part-before f u moves (inr none) to =
    ap (turn_stand f u) (sym (append-nil u.moves)) ∙ ap (λ ms. turn_stand f u (u.moves ++ ms)) (sym none) ∙ to

-- what holds between events holds behind the transfers
gone-sound : {B : Type 0} (means : B → Means) (through : B → Step → B → Type 0) (k : KernelState B) (conn : ℕ) (r : Running) (outcome : Outcome) (m : KernelState B)
    → HasGone means through k conn r outcome m → IsSound (interleaved_of means m)
gone-sound {B} means through k conn r outcome m gone =
    subst IsSound (sym gone.after) (by outcome gone.to gone.few) where
      f : InterleavedState
      f = interleaved_of means k

      u : Turn
      u = turn_by k r

      moves : List Transfer
      moves = (means m.bus).moves

      along_polls : (ending : Ending) (g : InterleavedState) → Polls f conn k.moment moves ending g → IsSound (moved_on f u moves)
      along_polls ending g polls =
          subst IsSound (behind-own f polls.behind conn k.moment u moves gone.goes.own polls.runs_to)
          (sound-along (run_events f conn k.moment moves) f polls.behind gone.goes.sound polls.runs_to)

      parted : turn_stand f u (u.moves ++ moves) ≡ Part → length moves < SLICE_MAX → IsSound (moved_on f u moves)
      parted part few = along_polls _ _ (broken_law-holds f conn k.moment gone.asked u r.turn.task moves gone.goes (part-before f u moves gone.from part) part few)

      by : (o : Outcome) → turn_stand f u (u.moves ++ moves) ≡ outcome_stand o → FitsSlice o (length moves) → IsSound (moved_on f u moves)
      by went.Finished whole few = along_polls _ _ (finished_law-holds f conn k.moment gone.asked u r.turn.task moves false gone.goes gone.from whole few refl)
      by went.Held part few = parted part few
      by went.Broken part few = parted part few
      by went.Slice part full = along_polls _ _ (sliced_law-holds f conn k.moment gone.asked u r.turn.task moves gone.goes (part-before f u moves gone.from part) part full)

-- what the core keeps at each moment it keeps there
pub gone-holds : {B : Type 0} (means : B → Means) (through : B → Step → B → Type 0) (k : KernelState B) (conn : ℕ) (r : Running) (outcome : Outcome) (m : KernelState B)
    → Holds means k → HasGone means through k conn r outcome m → Holds means m
gone-holds means through k conn r outcome m holds gone = record {
  sound = gone-sound means through k conn r outcome m gone;
  own = gone.own;
  runs = gone.runs;
  dials = subst (λ t. KeepsDials t m.dialed) (sym gone.tables) (subst (KeepsDials k.tables) (sym gone.dialed) holds.dials);
  few = subst (λ t. count_of t role.Core ≤ ROLE_MAX) (sym gone.tables) holds.few;
}

-- ---- the steps of the bus

-- what the plan wants behind the transfers
wanted-next : (f : InterleavedState) (conn : ℕ) (p : Pending) (u : Turn) (job : Task) (moves : List Transfer) (left : Plan) → u.connection ≡ conn
    → job_of f.state.tables conn p ≡ Some job
    → left_after (Some (plan job (bytes_of p.call) f.before.polling f.before.own)) (u.moves ++ moves) ≡ Some left
    → wanted (moved_on f u moves) conn p ≡ next_slot left
wanted-next f conn p u job moves left of_call has_job is_left =
    let v : Turn = record u { moves = u.moves ++ moves } in
    ap (λ b. wanted_by (moved_on f u moves) p (cond b (Some v) None) (job_of f.state.tables conn p)) (eq-eqb u.connection conn of_call)
    ∙ ap (wanted_by (moved_on f u moves) p (Some v)) has_job
    ∙ ap (option_and_then next_slot) is_left

-- a poll that went on with its call's turn, with the steps of the bus
pub gone-over : {B : Type 0} (means : B → Means) (through : B → Step → B → Type 0) (srq ndac : B → Bool) (k : KernelState B) (conn : ℕ) (r : Running) (outcome : Outcome)
    (m : KernelState B) (ending : Ending) (g : InterleavedState) → (gone : HasGone means through k conn r outcome m)
    → ((slot : Option Slot) → refused_steps outcome slot ≡ refused_ask (ran_of ending) slot)
    → IsTold (moved_on (interleaved_of means k) (turn_by k r) (means m.bus).moves) conn gone.asked (srq m.bus) (ndac m.bus) ending
    → Polls (interleaved_of means k) conn k.moment (means m.bus).moves ending g
    → PollOnBus means through srq ndac (interleaved_of means k) k.bus conn k.moment [] ending g m.bus
gone-over {B} means through srq ndac k conn r outcome m ending g gone refused told polls =
    let f : InterleavedState = interleaved_of means k in
    let u : Turn = turn_by k r in
    let moves : List Transfer = (means m.bus).moves in
    let behind : polls.behind ≡ moved_on f u moves = behind-own f polls.behind conn k.moment u moves gone.goes.own polls.runs_to in
    let asked : polls.asked ≡ gone.asked = same_Some polls.asked gone.asked (sym polls.call_at ∙ gone.goes.call_at) in
    let next : wanted polls.behind conn polls.asked ≡ next_slot gone.left =
    ap (λ b. wanted b conn polls.asked) behind ∙ ap (wanted (moved_on f u moves) conn) asked
    ∙ wanted-next f conn gone.asked u r.turn.task moves gone.left gone.goes.of_call gone.goes.has_job gone.is_left in
    let Steps : List Step → Type 0 = λ steps. Walk means through k.bus (map Went moves ++ steps) m.bus in
    record {
      polls = polls;
      wire = refl;
      walk = subst Steps (refused (next_slot gone.left) ∙ ap (refused_ask (ran_of ending)) (sym next)) gone.walk;
      told = subst (λ b. IsTold b conn polls.asked (srq m.bus) (ndac m.bus) ending) (sym behind)
          (subst (λ q. IsTold (moved_on f u moves) conn q (srq m.bus) (ndac m.bus) ending) (sym asked) told);
    }

-- ---- how a poll ends that went on with its call's turn

-- the list of the turn under way stands as the outcome says
pub gone-stands : {B : Type 0} (means : B → Means) (through : B → Step → B → Type 0) (k : KernelState B) (conn : ℕ) (r : Running) (outcome : Outcome) (m : KernelState B)
    → HasGone means through k conn r outcome m → (u : Turn) → (interleaved_of means m).turn ≡ Some u → turn_stand (interleaved_of means m) u u.moves ≡ outcome_stand outcome
gone-stands {B} means through k conn r outcome m gone =
    let f : InterleavedState = interleaved_of means k in
    let moves : List Transfer = (means m.bus).moves in
    let v : Turn = record (turn_by k r) { moves = k.made ++ moves } in
    let P : InterleavedState → Type 0 = λ s. (u : Turn) → s.turn ≡ Some u → turn_stand s u u.moves ≡ outcome_stand outcome in
    let Q : Turn → Type 0 = λ u. turn_stand (moved_on f (turn_by k r) moves) u u.moves ≡ outcome_stand outcome in
    subst P (sym gone.after) (λ u e. subst Q (same_Some v u e) gone.to)

-- its call is still there
pub gone-at : {B : Type 0} (means : B → Means) (through : B → Step → B → Type 0) (k : KernelState B) (conn : ℕ) (r : Running) (outcome : Outcome) (m : KernelState B)
    → (gone : HasGone means through k conn r outcome m) → pending_at m.tables conn ≡ Some gone.asked
gone-at means through k conn r outcome m gone = ap (λ t. pending_at t conn) gone.tables ∙ gone.goes.call_at

pub gone-pending : {B : Type 0} (means : B → Means) (through : B → Step → B → Type 0) (k : KernelState B) (conn : ℕ) (r : Running) (outcome : Outcome) (m : KernelState B)
    → HasGone means through k conn r outcome m → IsSome (pending_at m.tables conn)
gone-pending means through k conn r outcome m gone = ap is_some (gone-at means through k conn r outcome m gone)

-- its call is answered
pub gone-ends : {B : Type 0} (means : B → Means) (through : B → Step → B → Type 0) (srq ndac : B → Bool) (k : KernelState B) (conn : ℕ) (r : Running) (outcome : Outcome)
    (m new : KernelState B) (ended : Ended) (ran : Ran) (level : Bool) (told : Reply) → Holds means k → (gone : HasGone means through k conn r outcome m)
    → new ≡ record (closed m conn) { room = new.room }
    → ((slot : Option Slot) → refused_steps outcome slot ≡ refused_ask ran slot)
    → IsTold (moved_on (interleaved_of means k) (turn_by k r) (means m.bus).moves) conn gone.asked (srq m.bus) (ndac m.bus) (Answered ran level told)
    → Polls (interleaved_of means k) conn k.moment (means m.bus).moves (Answered ran level told)
    (over (moved_on (interleaved_of means k) (turn_by k r) (means m.bus).moves) conn k.moment k.tables)
    → ended_shown ended new.room ≡ Answered ran level told → ended_len ended ≤ READ_MAX
    → EndsFrom means through srq ndac k conn ended new
gone-ends {B} means through srq ndac k conn r outcome m new ended ran level told holds gone kept refused is_told polls shown within =
    let f : InterleavedState = interleaved_of means k in
    let u : Turn = turn_by k r in
    let moves : List Transfer = (means m.bus).moves in
    let N : KernelState B = record (closed m conn) { room = new.room } in
    let e : Event = Answer conn k.moment (is_broken ran) None level told in
    let leads : over (moved_on f u moves) conn k.moment k.tables ≡ interleaved_of means N =
    ap (λ t. over (moved_on f u moves) conn k.moment t) (sym gone.tables)
    ∙ ap (λ n. over (moved_on f u moves) conn n m.tables) (sym gone.moment)
    ∙ ap (λ s. over s conn m.moment m.tables) (sym gone.after)
    ∙ sym (interleaved-closed means m conn m.tables) in
    let left : Polls f conn k.moment moves (Answered ran level told) (interleaved_of means N) = subst (Polls f conn k.moment moves (Answered ran level told)) leads polls in
    let behind : left.behind ≡ interleaved_of means m = behind-own f left.behind conn k.moment u moves gone.goes.own left.runs_to ∙ sym gone.after in
    let goes : interleaved_step (interleaved_of means m) e ≡ Some (interleaved_of means N) =
    ap (λ b. interleaved_step b e) (sym behind) ∙ answer-ends f (interleaved_of means N) conn k.moment moves ran level told left in
    let P : Ending → Type 0 = λ ending. PollOnBus means through srq ndac f k.bus conn k.moment [] ending (interleaved_of means N) m.bus in
    let done : EndsFrom means through srq ndac k conn ended N = record {
      keeps = keeps-after means m N e refl (gone-holds means through k conn r outcome m holds gone)
          (record { running = inr gone.over_then; before = refl; made = refl; wire = refl }) goes;
      moment = gone.moment;
      within = within;
      over = subst P (sym shown) (gone-over means through srq ndac k conn r outcome m (Answered ran level told) (interleaved_of means N) gone refused is_told left);
    } in
    subst (EndsFrom means through srq ndac k conn ended) (sym kept) done

-- what a stop leaves, with the room that it leaves
pub room-kept : {B : Type 0} (m new : KernelState B) (conn : ℕ) → new ≡ closed m conn → new ≡ record (closed m conn) { room = new.room }
room-kept {B} m new conn kept =
    let N : List ℕ → KernelState B = λ room. record (closed m conn) { room = room } in
    kept ∙ ap N (sym (ap (λ (s : KernelState B). s.room) kept))

-- a level that a job is told is one that it may be told
told-fits : (job : Task) (srq ndac : Bool) → level_fits job (level_told job srq ndac) ≡ true
told-fits (task.Status selector) srq ndac = by (selector == 2) (selector == 3) where
  by : (two three : Bool) → (not (cond two srq (cond three ndac false)) || (two || three)) ≡ true
  by true three = or-true (not srq)
  by false true = or-true (not ndac)
  by false false = refl
told-fits _ srq ndac = refl

-- it is whole
pub gone-finished : {B : Type 0} (means : B → Means) (through : B → Step → B → Type 0) (srq ndac : B → Bool) (k : KernelState B) (conn : ℕ) (r s : Running)
    (m new : KernelState B) (ended : Ended) → Holds means k → (gone : HasGone means through k conn r went.Finished m) → m.running ≡ Some s
    → new ≡ record (closed m conn) { room = new.room }
    → ((p : Pending) → pending_at m.tables conn ≡ Some p → ended_shown ended new.room ≡ Answered ran.Finished (level_told s.turn.task (srq m.bus) (ndac m.bus))
    (whole_reply s.turn.task (bytes_of p.call) m.before (is_big p.call) (level_told s.turn.task (srq m.bus) (ndac m.bus)) m.made))
    → ended_len ended ≤ READ_MAX → EndsFrom means through srq ndac k conn ended new
gone-finished {B} means through srq ndac k conn r s m new ended holds gone running kept reply within =
    let f : InterleavedState = interleaved_of means k in
    let u : Turn = turn_by k r in
    let moves : List Transfer = (means m.bus).moves in
    let p : Pending = gone.asked in
    let level : Task → Bool = λ job. level_told job (srq m.bus) (ndac m.bus) in
    let told : Task → Wire → List Transfer → Reply = λ job before made. whole_reply job (bytes_of p.call) before (is_big p.call) (level job) made in
    let shown : ended_shown ended new.room ≡ Answered ran.Finished (level r.turn.task) (told r.turn.task f.before (k.made ++ moves)) =
    reply p (gone-at means through k conn r went.Finished m gone)
    ∙ ap (λ job. Answered ran.Finished (level job) (told job m.before m.made)) (gone.task s running).0
    ∙ ap (λ w. Answered ran.Finished (level r.turn.task) (told r.turn.task w m.made)) (sym gone.before)
    ∙ ap (λ made. Answered ran.Finished (level r.turn.task) (told r.turn.task f.before made)) gone.made in
    gone-ends means through srq ndac k conn r went.Finished m new ended ran.Finished (level r.turn.task) (told r.turn.task f.before (k.made ++ moves)) holds gone kept
    (λ slot. refl) (ap (λ job. level_of job (srq m.bus) (ndac m.bus)) (sym gone.goes.has_job))
    (finished_law-holds f conn k.moment p u r.turn.task moves (level r.turn.task) gone.goes gone.from gone.to gone.few (told-fits r.turn.task (srq m.bus) (ndac m.bus)))
    shown within

-- what a stop tells, of the transfers of the turn
stop-told : {B : Type 0} (means : B → Means) (through : B → Step → B → Type 0) (k : KernelState B) (conn : ℕ) (r : Running) (outcome : Outcome) (m : KernelState B) (error : ErrorCode)
    → (gone : HasGone means through k conn r outcome m)
    → stopped_reply gone.asked.call error (moves_of (turn_of (turn_shown m.running m.made) conn)) ≡ stopped_reply gone.asked.call error (k.made ++ (means m.bus).moves)
stop-told {B} means through k conn r outcome m error gone =
    let v : Turn = record (turn_by k r) { moves = k.made ++ (means m.bus).moves } in
    ap (λ (s : InterleavedState). stopped_reply gone.asked.call error (moves_of (turn_of s.turn conn))) gone.after
    ∙ ap (λ b. stopped_reply gone.asked.call error (moves_of (cond b (Some v) None))) (eq-eqb r.conn conn gone.goes.of_call)

-- the bus failed
pub gone-broken : {B : Type 0} (means : B → Means) (through : B → Step → B → Type 0) (srq ndac : B → Bool) (k : KernelState B) (conn : ℕ) (r : Running)
    (m new : KernelState B) (ended : Ended) → Holds means k → (gone : HasGone means through k conn r went.Broken m) → new ≡ closed m conn
    → ((p : Pending) → pending_at m.tables conn ≡ Some p
    → ended_shown ended new.room ≡ Answered ran.Broken false (stopped_reply p.call code.BusFault (moves_of (turn_of (turn_shown m.running m.made) conn))))
    → ended_len ended ≤ READ_MAX → EndsFrom means through srq ndac k conn ended new
gone-broken {B} means through srq ndac k conn r m new ended holds gone kept reply within =
    let f : InterleavedState = interleaved_of means k in
    let u : Turn = turn_by k r in
    let moves : List Transfer = (means m.bus).moves in
    gone-ends means through srq ndac k conn r went.Broken m new ended ran.Broken false (stopped_reply gone.asked.call code.BusFault (k.made ++ moves)) holds gone
    (room-kept m new conn kept) (refuses ran.Broken) refl
    (broken_law-holds f conn k.moment gone.asked u r.turn.task moves gone.goes (part-before f u moves gone.from gone.to) gone.to gone.few)
    (reply gone.asked (gone-at means through k conn r went.Broken m gone) ∙ ap (Answered ran.Broken false) (stop-told means through k conn r went.Broken m code.BusFault gone))
    within where
      refuses : (r : Ran) (slot : Option Slot) → refused_steps went.Broken slot ≡ refused_ask ran.Broken slot
      refuses ran None = refl
      refuses ran (Some slot) = refl

-- the bus held
held-refuses : (slot : Option Slot) → refused_steps went.Held slot ≡ refused_ask ran.Paused slot
held-refuses None = refl
held-refuses (Some slot) = refl

-- and the turn's time has passed
pub gone-timeout : {B : Type 0} (means : B → Means) (through : B → Step → B → Type 0) (srq ndac : B → Bool) (k : KernelState B) (conn : ℕ) (r s : Running)
    (m new : KernelState B) (ended : Ended) → Holds means k → (gone : HasGone means through k conn r went.Held m) → m.running ≡ Some s
    → ((p : Pending) → pending_at m.tables conn ≡ Some p → has_passed (io_timeout_of p.call) s.turn.begun m.moment ≡ true)
    → new ≡ closed m conn
    → ((p : Pending) → pending_at m.tables conn ≡ Some p
    → ended_shown ended new.room ≡ Answered ran.Paused false (stopped_reply p.call code.Timeout (moves_of (turn_of (turn_shown m.running m.made) conn))))
    → ended_len ended ≤ READ_MAX → EndsFrom means through srq ndac k conn ended new
gone-timeout {B} means through srq ndac k conn r s m new ended holds gone running late kept reply within =
    let f : InterleavedState = interleaved_of means k in
    let u : Turn = turn_by k r in
    let moves : List Transfer = (means m.bus).moves in
    let at = gone-at means through k conn r went.Held m gone in
    let over_time : has_passed (io_timeout_of gone.asked.call) r.turn.begun k.moment ≡ true =
    ap (λ n. has_passed (io_timeout_of gone.asked.call) r.turn.begun n) (sym gone.moment)
    ∙ ap (λ n. has_passed (io_timeout_of gone.asked.call) n m.moment) (sym (gone.task s running).1) ∙ late gone.asked at in
    gone-ends means through srq ndac k conn r went.Held m new ended ran.Paused false (stopped_reply gone.asked.call code.Timeout (k.made ++ moves)) holds gone
    (room-kept m new conn kept) held-refuses refl
    (timeout_law-holds f conn k.moment gone.asked u r.turn.task moves gone.goes (part-before f u moves gone.from gone.to) gone.to gone.few over_time)
    (reply gone.asked at ∙ ap (Answered ran.Paused false) (stop-told means through k conn r went.Held m code.Timeout gone))
    within

-- and it hasn't
pub gone-held : {B : Type 0} (means : B → Means) (through : B → Step → B → Type 0) (srq ndac : B → Bool) (k : KernelState B) (conn : ℕ) (r s : Running)
    (m : KernelState B) → Holds means k → (gone : HasGone means through k conn r went.Held m) → m.running ≡ Some s
    → ((p : Pending) → pending_at m.tables conn ≡ Some p → has_passed (io_timeout_of p.call) s.turn.begun m.moment ≡ false)
    → EndsFrom means through srq ndac k conn (ended.Waited why.Held) m
gone-held {B} means through srq ndac k conn r s m holds gone running late =
    let f : InterleavedState = interleaved_of means k in
    let u : Turn = turn_by k r in
    let moves : List Transfer = (means m.bus).moves in
    let at = gone-at means through k conn r went.Held m gone in
    let in_time : has_passed (io_timeout_of gone.asked.call) r.turn.begun k.moment ≡ false =
    ap (λ n. has_passed (io_timeout_of gone.asked.call) r.turn.begun n) (sym gone.moment)
    ∙ ap (λ n. has_passed (io_timeout_of gone.asked.call) n m.moment) (sym (gone.task s running).1) ∙ late gone.asked at in
    let polls : Polls f conn k.moment moves (Waited why.Held) (interleaved_of means m) =
    subst (Polls f conn k.moment moves (Waited why.Held)) (sym gone.after)
    (held_law-holds f conn k.moment gone.asked u r.turn.task moves gone.goes (part-before f u moves gone.from gone.to) gone.to gone.few in_time) in
    record {
      keeps = record {
        holds = gone-holds means through k conn r went.Held m holds gone;
        is_part = gone-stands means through k conn r went.Held m gone;
      };
      moment = gone.moment;
      within = omega arith;
      over = gone-over means through srq ndac k conn r went.Held m (Waited why.Held) (interleaved_of means m) gone held-refuses tt polls;
    }

-- a full slice: the bus was asked for its transfers alone
slice-refuses : (slot : Option Slot) → refused_steps went.Slice slot ≡ refused_ask ran.Sliced slot
slice-refuses None = refl
slice-refuses (Some slot) = refl

pub gone-sliced : {B : Type 0} (means : B → Means) (through : B → Step → B → Type 0) (srq ndac : B → Bool) (k : KernelState B) (conn : ℕ) (r : Running)
    (m : KernelState B) → Holds means k → (gone : HasGone means through k conn r went.Slice m) → EndsFrom means through srq ndac k conn (ended.Waited why.Slice) m
gone-sliced {B} means through srq ndac k conn r m holds gone =
    let f : InterleavedState = interleaved_of means k in
    let u : Turn = turn_by k r in
    let moves : List Transfer = (means m.bus).moves in
    let polls : Polls f conn k.moment moves (Waited why.Slice) (interleaved_of means m) =
    subst (Polls f conn k.moment moves (Waited why.Slice)) (sym gone.after)
    (sliced_law-holds f conn k.moment gone.asked u r.turn.task moves gone.goes (part-before f u moves gone.from gone.to) gone.to gone.few) in
    record {
      keeps = record {
        holds = gone-holds means through k conn r went.Slice m holds gone;
        is_part = gone-stands means through k conn r went.Slice m gone;
      };
      moment = gone.moment;
      within = omega arith;
      over = gone-over means through srq ndac k conn r went.Slice m (Waited why.Slice) (interleaved_of means m) gone slice-refuses tt polls;
    }
