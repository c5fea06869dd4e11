-- The turn of a call, as it begins and goes on, and which calls wait for it.
use Rattle.std.proofs.Common.{◌≡◌, ◌≢◌, ◌+◌, ◌≤◌, ◌==◌, ℕ, Bool, true, false, cond, List, [], ◌∷◌, ◌++◌, length, take, Option, Some, None, refl, sym, ap, ◌∙◌, subst, arith}
use Rattle.std.specs.Prelude.{not, ◌&&◌, ◌||◌, IfSome}
use Rattle.std.specs.Option.{option_map}
use Rattle.std.proofs.lemmas.List.{length-append}
use Rattle.std.proofs.lemmas.Option.{same_Some}
use Rattle.vx_calls.specs.declared.limits.TheConstants.{READ_MAX, WRITE_MAX}
use Rattle.vx_calls.specs.declared.codes.ErrorCode.TheVariants as code
use Rattle.vx_calls.specs.declared.targets.Target.{Target}
use Rattle.vx_calls.specs.Target.{conflict}
use Rattle.vx_calls.specs.Call.{Call}
use Rattle.vx_calls.specs.Call as call
use Rattle.vx_488.specs.declared.transfers.TheConstants.{ADDRESS_MAX}
use Rattle.vx_488.specs.declared.transfers.Transfer.{Transfer}
use Rattle.vx_488.specs.declared.wire.Wire.{Wire}
use Rattle.vx_488.specs.Wire.{wire_after}
use Rattle.vx_488.specs.Means.{Means}
use Rattle.vx_488.specs.Steps.{Step}
use Rattle.vx_plan.specs.declared.tasks.TheConstants.{TURN_MAX}
use Rattle.vx_plan.specs.declared.tasks.Task.{Task}
use Rattle.vx_plan.specs.declared.tasks.Task.TheVariants.{Read, Stb}
use Rattle.vx_plan.specs.Plan.{Plan, Off, stand_of, stand}
use Rattle.vx_plan.specs.Tasks.{plan, IsPlainTask, HasBytes, most_bytes}
use Rattle.vx_plan.specs.Laws.{BoundLaw}
use Rattle.vx_rules.specs.Table.{Link}
use Rattle.vx_ctrl.specs.declared.turn.Went.{Went}
use Rattle.vx_ctrl.specs.declared.turn.Went.TheVariants as went
use Rattle.vx_ctrl.specs.Turns.{TurnState, HasMade, TurnHasRoom, GetsBytes}
use Rattle.vx_ctrl.specs.Goes.{TurnBegins, TurnGoes, HoldsBytes, outcome_stand}
use Rattle.vx_rules.specs.State.{Pending, Tables, pending_at, link_of}
use Rattle.vx_rules.specs.Calls.{link_named, bytes_of, is_bus_call, is_lock_call}
use Rattle.vx_rules.specs.Docmd.{Command, command_of, command_task}
use Rattle.vx_rules.specs.Checks.{NamedLink, NoLink, DeadLink, OnLink, link_found, link_by_number, named_link, is_interface, check_command, check_on, check}
use Rattle.vx_rules.specs.Lines.{LockRequest, lock_request, created_request, lets_pass}
use Rattle.vx_rules.specs.Effects.{task_on, task_of}
use Rattle.vx_rules.specs.Serving.{IsDoable}
use Rattle.vx_rules.specs.PassLaws.{PassedLets}
use Rattle.vx_state.specs.declared.tables.lines.Request.{Request}
use Rattle.vx_state.specs.Shown.{request_shown}
use Rattle.vx_rules.proofs.Laws.{bus-job}
use Rattle.vx_rules.proofs.Laws.Passing.{lets-says}
use Rattle.vx_flow.specs.InterleavedState.{Turn}
use Rattle.vx_flow.specs.InterleavedStep.{job_of, wire_for, target_on, call_target, turn_target, on_conflict, waits_for}
use Rattle.vx_flow.specs.Sound.{Stands, TurnStands}
use Rattle.vx_core.specs.declared.running.Running.{Running}
use Rattle.vx_core.specs.declared.ended.Ended.{Ended}
use Rattle.vx_core.specs.KernelState.{KernelState}
use Rattle.vx_core.specs.Shown.{interleaved_of, own_of, running_of, turn_shown}
use Rattle.vx_core.specs.Keeping.{RunsTurn, Holds}
use Rattle.vx_core.specs.Turning.{HasPassed, HasTurn, BeginsTurn, WentOn, turn_waited}
use Rattle.vx_core.proofs.Laws.{running-own, own-is, few-bytes}
use Rattle.vx_flow.specs.InterleavedStep.{busy_with}

-- ---- what the first lines' letting pass says

-- a call that has passed has neither a check nor a lock against it
pub passes : {B : Type 0} (means : B → Means) (k : KernelState B) (conn : ℕ) → PassedLets → HasPassed means k conn
    → (p : Pending) → pending_at k.tables conn ≡ Some p → (own : ℕ) × (lets_pass k.tables own conn p ≡ true)
passes means k conn law passed p at =
    ((wire_for (interleaved_of means k) conn).own, law k.tables (busy_with (interleaved_of means k).turn) (wire_for (interleaved_of means k) conn).own conn k.moment p (passed p at))

-- the job of a call that may be served, where it has one
pub doable-some : (o : Option Task) (job : Task) (bytes : List ℕ) → IfSome o (λ task. IsDoable task bytes) → o ≡ Some job → IsDoable job bytes
doable-some o job bytes h e = subst (λ (x : Option Task). IfSome x (λ task. IsDoable task bytes)) e h

-- what a kernel keeps
abbrev pub kernel_of : {B : Type 0} → B → Tables → ℕ → Option Running → Wire → List Transfer → List ℕ → List ℕ → Option Ended → Bool → KernelState B
kernel_of bus tables moment running before made room dialed last began = record {
  bus = bus;
  tables = tables;
  moment = moment;
  running = running;
  before = before;
  made = made;
  room = room;
  dialed = dialed;
  last = last;
  began = began;
}

-- ---- a bus call that nothing is against has a job

no-command : (t : Tables) (own : ℕ) (big : Bool) (bytes : List ℕ) (on : Bool) (o : Option Command)
    → cond on (check_command t own big bytes o) (Some code.NotSupported) ≡ None → option_map (λ c. command_task c big bytes) o ≡ None → ⊥
no-command t own big bytes false o e n = cc
no-command t own big bytes true None e n = cc
no-command t own big bytes true (Some c) e n = cc

no-job-on : (t : Tables) (own : ℕ) (l : Link) (asked : Call) → check_on t own l asked ≡ None → is_bus_call asked ≡ true → task_on l.target asked ≡ None → ⊥
no-job-on t own l (call.Docmd lid flags io_timeout lock_timeout cmd big size bytes) e b n = no-command t own big bytes (is_interface l.target) (command_of cmd) e n
no-job-on t own l (call.Write lid io_timeout lock_timeout flags bytes) e b n = cc
no-job-on t own l (call.Read lid request io_timeout lock_timeout flags term) e b n = cc
no-job-on t own l (call.ReadStb generic) e b n = cc
no-job-on t own l (call.Trigger generic) e b n = cc
no-job-on t own l (call.Clear generic) e b n = cc
no-job-on t own l (call.Remote generic) e b n = cc
no-job-on t own l (call.Local generic) e b n = cc
no-job-on t own l _ e b n = cc

no-job-found : (t : Tables) (own conn : ℕ) (o : Option Link) (asked : Call) → check t own conn false (link_found o) asked ≡ None
    → is_bus_call asked ≡ true → task_of (link_found o) asked ≡ None → ⊥
no-job-found t own conn None asked e b n = cc
no-job-found t own conn (Some l) asked e b n = no-job-on t own l asked e b n

bus-named : (asked : Call) → is_bus_call asked ≡ true → (lid : ℕ) × (link_named asked ≡ Some lid)
bus-named (call.Write lid io_timeout lock_timeout flags bytes) b = (lid, refl)
bus-named (call.Read lid request io_timeout lock_timeout flags term) b = (lid, refl)
bus-named (call.ReadStb generic) b = (generic.lid, refl)
bus-named (call.Trigger generic) b = (generic.lid, refl)
bus-named (call.Clear generic) b = (generic.lid, refl)
bus-named (call.Remote generic) b = (generic.lid, refl)
bus-named (call.Local generic) b = (generic.lid, refl)
bus-named (call.Docmd lid flags io_timeout lock_timeout cmd big size bytes) b = (lid, refl)
bus-named _ b = cc

-- a bus call that nothing is against has a job
pub no-job : (t : Tables) (own conn : ℕ) (p : Pending) → lets_pass t own conn p ≡ true → is_bus_call p.call ≡ true → job_of t conn p ≡ None → ⊥
no-job t own conn p h b n =
    let m = bus-named p.call b in
    let P : Option ℕ → Type 0 = λ o. check t own conn false (link_by_number t conn o) p.call ≡ None in
    let Q : Option ℕ → Type 0 = λ o. task_of (link_by_number t conn o) p.call ≡ None in
    let e : check t own conn false (named_link t conn p.call) p.call ≡ None = (lets-says _ _ h).checks in
    no-job-found t own conn (link_of t conn m.0) p.call (subst P m.1 e) b (subst Q m.1 n)

-- ---- a turn begins

-- the turn of a call that has come begins, on the bus as it is
pub begins-turn : {B : Type 0} (means : B → Means) (k : KernelState B) (conn : ℕ) (turn : TurnState) (w : Wire) (made : List Transfer) (job : Task) (p : Pending)
    → Holds means k → pending_at k.tables conn ≡ Some p → job_of k.tables conn p ≡ Some job → IsDoable job (bytes_of p.call)
    → w ≡ (means k.bus).wire → made ≡ [] → turn.task ≡ job → turn.begun ≡ k.moment
    → ((bytes : List ℕ) → HasBytes job bytes → HasMade turn w bytes [] (plan job bytes w.polling w.own))
    → ((room : List ℕ) → HoldsBytes turn [] room)
    → BeginsTurn means k conn (record k { running = Some (record { conn = conn; turn = turn }); before = w; made = made })
begins-turn {B} means k conn turn w made job p holds at has doable same none task begun nothing room =
    let running : Running = record { conn = conn; turn = turn } in
    let N : Wire → List Transfer → KernelState B = λ v ts. record k { running = Some running; before = v; made = ts } in
    let P : List Transfer → Type 0 = λ ts. BeginsTurn means k conn (N w ts) in
    let Own : Wire → Type 0 = λ v. v.own ≤ ADDRESS_MAX in
    subst P (sym none) (record {
      running = running;
      of_call = refl;
      now = begun;
      kept = ap (λ v. N v []) same;
      runs = record {
        asked = p;
        call_at = at;
        job_is = has ∙ ap Some (sym task);
        plain = subst IsPlainTask (sym task) doable.plain;
        sent = subst (λ x. HasBytes x (bytes_of p.call)) (sym task) doable.sent;
        few = subst (λ x. length (bytes_of p.call) ≤ most_bytes x) (sym task) doable.few;
        own = subst Own (sym same) holds.own;
        begins = record {
          left = plan job (bytes_of p.call) w.polling w.own;
          had_made = nothing (bytes_of p.call) doable.sent;
          bus = sym same;
        };
        holds = λ gets. room k.room;
      };
    })

-- ---- a turn goes on

-- the turn under way is that of the connection
pub own-running : (r s : Running) (conn : ℕ) → running_of (Some r) conn ≡ Some s → (r.conn ≡ conn) × (r ≡ s)
own-running r s conn h =
    let own = running-own (Some r) conn s h in
    let same : r ≡ s = same_Some r s own.0 in
    (ap (λ (x : Running). x.conn) same ∙ own.1, same)

-- its room is long enough
has-room : (job : Task) (n : ℕ) → n ≡ READ_MAX → TurnHasRoom job n
has-room (Read t max stop) n e = omega arith
has-room (Stb t) n e = omega arith
has-room _ n e = tt

-- what a turn that may go on stands on
pub record MayGo {B : Type 0} (means : B → Means) (k : KernelState B) (conn : ℕ) (r : Running) : Type 0 where
  pub own_turn : r.conn ≡ conn
  pub runs : RunsTurn means k r
  pub pending : pending_at k.tables conn ≡ Some runs.asked
  pub few : length (bytes_of runs.asked.call) ≤ WRITE_MAX

-- a turn that is under way, and that nothing is against, may go on
pub may-go : {B : Type 0} (means : B → Means) (k now : KernelState B) (conn : ℕ) (r : Running) → PassedLets → k ≡ now → HasTurn means now conn → k.running ≡ Some r → MayGo means k conn r
may-go {B} means k now conn r law view turn at =
    let T : KernelState B → Type 0 = λ s. HasTurn means s conn in
    let has : HasTurn means k conn = subst T (sym view) turn in
    let own = own-running r has.running conn (subst (λ o. running_of o conn ≡ Some has.running) at has.is_own) in
    let runs : RunsTurn means k r = has.holds.runs r at in
    let pending : pending_at k.tables conn ≡ Some runs.asked = subst (λ n. pending_at k.tables n ≡ Some runs.asked) own.0 runs.call_at in
    let job : job_of k.tables conn runs.asked ≡ Some r.turn.task = subst (λ n. job_of k.tables n runs.asked ≡ Some r.turn.task) own.0 runs.job_is in
    let lets = passes means k conn law has.passed runs.asked pending in
    record {
      own_turn = own.0;
      runs = runs;
      pending = pending;
      few = few-bytes k.tables lets.0 conn runs.asked r.turn.task (lets-says _ _ lets.1).checks job;
    }

-- the turn begins again with these bytes, which are its call's
pub begun-with : {B : Type 0} (means : B → Means) (k : KernelState B) (r : Running) (bytes : List ℕ) → (runs : RunsTurn means k r) → bytes ≡ bytes_of runs.asked.call
    → TurnBegins r.turn k.before bytes k.made (means k.bus)
begun-with means k r bytes runs same = subst (λ (bs : List ℕ). TurnBegins r.turn k.before bs k.made (means k.bus)) (sym same) runs.begins

pub few-with : {B : Type 0} (means : B → Means) (k : KernelState B) (conn : ℕ) (r : Running) (bytes : List ℕ) → (m : MayGo means k conn r) → bytes ≡ bytes_of m.runs.asked.call
    → length bytes ≤ WRITE_MAX
few-with means k conn r bytes m same = subst (λ (bs : List ℕ). length bs ≤ WRITE_MAX) (sym same) m.few

-- its own address is 0 to 30
pub turn-own : {B : Type 0} (means : B → Means) (k : KernelState B) (r : Running) → RunsTurn means k r → r.turn.place.own ≤ ADDRESS_MAX
turn-own means k r runs = subst (λ n. n ≤ ADDRESS_MAX) (sym runs.begins.had_made.own) runs.own

-- a list that a turn made has at most as many transfers as the longest job
stands-on : (outcome : Went) (left : Plan) → stand_of (Some left) ≡ outcome_stand outcome → stand_of (Some left) ≢ Off
stands-on went.Finished left e = λ off. cc
stands-on went.Held left e = λ off. cc
stands-on went.Broken left e = λ off. cc
stands-on went.Slice left e = λ off. cc

pub few-made : {B : Type 0} (means : B → Means) (through : B → Step → B → Type 0) (turn : TurnState) (w : Wire) (bytes : List ℕ) (made moves : List Transfer)
    (outcome : Went) (bus after : B) → BoundLaw → length bytes ≤ WRITE_MAX → TurnGoes means through turn w bytes made moves outcome bus after
    → length made + length moves ≤ TURN_MAX
few-made means through turn w bytes made moves outcome bus after law few goes =
    let reaches = goes.has_made.reaches in
    let on : stand (plan turn.task bytes turn.place.polling turn.place.own) (made ++ moves) ≢ Off =
    subst (λ o. stand_of o ≢ Off) (sym reaches.goes) (stands-on outcome goes.left goes.stands) in
    let most : length (made ++ moves) ≤ TURN_MAX = law turn.task bytes turn.place.polling turn.place.own (made ++ moves) few on in
    omega (arith, length-append made moves, most)

-- the turn of a call goes on, with the bus's transfers as its own
pub went-on : {B : Type 0} (means : B → Means) (through : B → Step → B → Type 0) (k : KernelState B) (r : Running) (bus : B) (room bytes : List ℕ) (turn : TurnState) (outcome : Went)
    → (runs : RunsTurn means k r) → bytes ≡ bytes_of runs.asked.call
    → ((w : Wire) (made : List Transfer) → TurnBegins r.turn w bytes made (means k.bus) → TurnGoes means through turn w bytes made (means bus).moves outcome k.bus bus)
    → ((w : Wire) (made : List Transfer) → TurnBegins r.turn w bytes made (means k.bus) → TurnBegins turn w bytes (made ++ (means bus).moves) (means bus))
    → turn.task ≡ r.turn.task → turn.begun ≡ r.turn.begun → (means bus).wire ≡ wire_after (means k.bus).wire (means bus).moves
    → ((w : Wire) (made : List Transfer) → TurnBegins r.turn w bytes made (means k.bus)
    → GetsBytes r.turn.task → HoldsBytes r.turn made k.room → HoldsBytes turn (made ++ (means bus).moves) room)
    → WentOn means through k r outcome (record k { bus = bus; running = Some (record r { turn = turn }); made = k.made ++ (means bus).moves; room = room })
went-on {B} means through k r bus room bytes turn outcome runs same goes goes_on task begun wire holds =
    let asked = runs.asked in
    let b = begun-with means k r bytes runs same in
    let new : KernelState B = record k { bus = bus; running = Some (record r { turn = turn }); made = k.made ++ (means bus).moves; room = room } in
    let next : RunsTurn means new (record r { turn = turn }) = record {
      asked = asked;
      call_at = runs.call_at;
      job_is = runs.job_is ∙ ap Some (sym task);
      plain = subst IsPlainTask (sym task) runs.plain;
      sent = subst (λ x. HasBytes x (bytes_of asked.call)) (sym task) runs.sent;
      few = subst (λ x. length (bytes_of asked.call) ≤ most_bytes x) (sym task) runs.few;
      own = runs.own;
      begins = subst (λ (bs : List ℕ). TurnBegins turn k.before bs (k.made ++ (means bus).moves) (means bus)) same (goes_on k.before k.made b);
      holds = λ gets. let g = subst GetsBytes task gets in holds k.before k.made b g (runs.holds g);
    } in
    record {
      turn = turn;
      kept = refl;
      wire = wire;
      begun = begun;
      job = task;
      runs = next;
      goes = subst (λ (bs : List ℕ). TurnGoes means through turn k.before bs k.made (means bus).moves outcome k.bus bus) same (goes k.before k.made b);
    }

-- a room that was lent whole comes back as it was left
pub written : (n : ℕ) (xs ys : List ℕ) → length xs ≡ n → take n (xs ++ ys) ≡ xs
written n xs ys e = subst (λ m. take m (xs ++ ys) ≡ xs) e (all xs) where
  all : (zs : List ℕ) → take (length zs) (zs ++ ys) ≡ zs
  all [] = refl
  all (z ∷ zs) = ap (λ rest. z ∷ rest) (all zs)

-- ---- which calls wait for the turn

-- a call that is neither a bus call nor a lock call is under no lock
created-none : (own : ℕ) (asked : Call) → is_lock_call asked ≡ false → created_request own asked ≡ None
created-none own (call.CreateLink client true lock_timeout device) h = cc
created-none own (call.CreateLink client false lock_timeout device) h = refl
created-none own _ h = refl

no-request : (own : ℕ) (about : NamedLink) (asked : Call) → is_bus_call asked ≡ false → is_lock_call asked ≡ false → lock_request own about asked ≡ None
no-request own (OnLink l) asked b k = rw (b, k)
no-request own NoLink asked b k = created-none own asked k
no-request own DeadLink asked b k = refl

-- so whether it is a lock call needs no test
lock-only : (own : ℕ) (about : NamedLink) (asked : Call) (held : Option Target) → is_bus_call asked ≡ false
    → (is_lock_call asked && on_conflict (lock_request own about asked) held) ≡ on_conflict (lock_request own about asked) held
lock-only own about asked held b = by (is_lock_call asked) refl where
  by : (k : Bool) → is_lock_call asked ≡ k → (k && on_conflict (lock_request own about asked) held) ≡ on_conflict (lock_request own about asked) held
  by true e = refl
  by false e = sym (ap (λ r. on_conflict r held) (no-request own about asked b e))

-- what the turn's call is under locks with: the target of its link
pub turn-request : (t : Tables) (before now : Wire) (moment own : ℕ) (u : Turn) (q : Pending) → Stands t before now moment u
    → pending_at t u.connection ≡ Some q
    → (l : Link) × (turn_target t u ≡ Some l.target) × (lock_request own (named_link t u.connection q.call) q.call ≡ Some (record { link = l.number; target = l.target }))
turn-request t before now moment own u q s at =
    let same : s.asked ≡ q = same_Some _ _ (sym s.call_at ∙ at) in
    let on : named_link t u.connection q.call ≡ OnLink s.link = subst (λ (x : Pending). named_link t u.connection x.call ≡ OnLink s.link) same s.on_link in
    let bus : is_bus_call q.call ≡ true = subst (λ (x : Pending). is_bus_call x.call ≡ true) same (bus-job s.link.target s.asked.call s.job s.has_job) in (
      s.link,
      ap (call_target t u.connection) at ∙ ap target_on on,
      ap (λ a. lock_request own a q.call) on
          ∙ ap (λ b. cond (b || is_lock_call q.call) (Some (record { link = s.link.number; target = s.link.target })) None) bus,
    )

-- whether two requests conflict
abbrev pub conflicting : Option Request → Option Request → Bool
conflicting (Some a) (Some b) = conflict a.target b.target
conflicting _ _ = false

conflicts-so : (asked held : Option Request) (l : Link) → option_map request_shown held ≡ Some (record { link = l.number; target = l.target })
    → on_conflict (option_map request_shown asked) (Some l.target) ≡ conflicting asked held
conflicts-so None held l e = refl
conflicts-so (Some a) None l e = cc
conflicts-so (Some a) (Some b) l e =
    let same : request_shown b ≡ record { link = l.number; target = l.target } = same_Some _ _ e in
    ap (λ (r : LockRequest). conflict a.target r.target) (sym same)

-- a bus call waits for every other connection's turn
pub waits-on-bus : (t : Tables) (own conn : ℕ) (p : Pending) (u : Turn) → not (u.connection == conn) ≡ true → is_bus_call p.call ≡ true → waits_for t own conn p u ≡ true
waits-on-bus t own conn p u other bus = rw (other, bus)

-- and every other call where its request conflicts with that of the turn's call
pub waits-on-lock : (t : Tables) (before now : Wire) (moment own anywhere conn : ℕ) (p q : Pending) (u : Turn) (asked held : Option Request)
    → Stands t before now moment u → pending_at t u.connection ≡ Some q
    → not (u.connection == conn) ≡ true → is_bus_call p.call ≡ false
    → option_map request_shown asked ≡ lock_request own (named_link t conn p.call) p.call
    → option_map request_shown held ≡ lock_request anywhere (named_link t u.connection q.call) q.call
    → waits_for t own conn p u ≡ conflicting asked held
waits-on-lock t before now moment own anywhere conn p q u asked held s at other bus a h =
    let m = turn-request t before now moment anywhere u q s at in
    let r = lock_request own (named_link t conn p.call) p.call in
    ap (λ b. b && (is_bus_call p.call || (is_lock_call p.call && on_conflict r (turn_target t u)))) other
    ∙ ap (λ b. b || (is_lock_call p.call && on_conflict r (turn_target t u))) bus
    ∙ lock-only own (named_link t conn p.call) p.call (turn_target t u) bus
    ∙ ap (on_conflict r) m.1
    ∙ ap (λ x. on_conflict x (Some m.0.target)) (sym a)
    ∙ conflicts-so asked held m.0 (h ∙ m.2)

-- the turn under way stands
pub turn-stands : {B : Type 0} (means : B → Means) (k : KernelState B) (u : Turn) → Holds means k → (interleaved_of means k).turn ≡ Some u
    → Stands k.tables (interleaved_of means k).before (means k.bus).wire k.moment u
turn-stands means k u holds e =
    let P : Option Turn → Type 0 = λ o. TurnStands k.tables (interleaved_of means k).before (means k.bus).wire k.moment o in
    subst P e holds.sound.turn_stands

-- whether a call other than a bus call waits, by the two requests
pub waits-for-is : {B : Type 0} (means : B → Means) (k : KernelState B) (conn other : ℕ) (p q : Pending) (u : Turn) (own anywhere : ℕ) (asked held : Option Request)
    → Holds means k → ((v : Turn) × ((interleaved_of means k).turn ≡ Some v) × (v.connection ≡ other) × (not (other == conn) ≡ true))
    → (interleaved_of means k).turn ≡ Some u → pending_at k.tables other ≡ Some q → is_bus_call p.call ≡ false → own ≡ own_of means k conn
    → option_map request_shown asked ≡ lock_request own (named_link k.tables conn p.call) p.call
    → option_map request_shown held ≡ lock_request anywhere (named_link k.tables other q.call) q.call
    → waits_for k.tables (wire_for (interleaved_of means k) conn).own conn p u ≡ conflicting asked held
waits-for-is means k conn other p q u own anywhere asked held holds turn e at bus is a h =
    let on : u.connection ≡ other = ap (λ (x : Turn). x.connection) (same_Some u turn.0 (sym e ∙ turn.1)) ∙ turn.2 in
    let Other : ℕ → Type 0 = λ n. not (n == conn) ≡ true in
    let At : ℕ → Type 0 = λ n. pending_at k.tables n ≡ Some q in
    let Held : ℕ → Type 0 = λ n. option_map request_shown held ≡ lock_request anywhere (named_link k.tables n q.call) q.call in
    let Asked : ℕ → Type 0 = λ n. option_map request_shown asked ≡ lock_request n (named_link k.tables conn p.call) p.call in
    waits-on-lock k.tables (interleaved_of means k).before (means k.bus).wire k.moment (wire_for (interleaved_of means k) conn).own anywhere conn p q u asked held
    (turn-stands means k u holds e) (subst At (sym on) at) (subst Other (sym on) turn.3) bus (subst Asked (is ∙ own-is means k conn) a) (subst Held (sym on) h)

-- the connection that a call waits for, where a turn is under way
pub waited : {B : Type 0} (means : B → Means) (k : KernelState B) (conn : ℕ) (p : Pending) (r : Running) (b : Bool) → k.running ≡ Some r
    → ((u : Turn) → (interleaved_of means k).turn ≡ Some u → b ≡ waits_for k.tables (wire_for (interleaved_of means k) conn).own conn p u)
    → turn_waited (interleaved_of means k) conn p (interleaved_of means k).turn ≡ cond b (Some r.conn) None
waited means k conn p r b at h =
    let u : Turn = record { connection = r.conn; begun = r.turn.begun; moves = k.made } in
    let e : (interleaved_of means k).turn ≡ Some u = ap (λ o. turn_shown o k.made) at in
    ap (turn_waited (interleaved_of means k) conn p) e ∙ ap (λ x. cond x (Some r.conn) None) (sym (h u e))
