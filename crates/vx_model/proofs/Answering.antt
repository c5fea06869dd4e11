-- The answers to calls, line by line of the order of answers.
use Rattle.std.proofs.Common.{◌≡◌, ◌<◌, ◌≤◌, leb, ◌⊎◌, inl, inr, arith, ℕ, Bool, true, false, cond, not, ◌&&◌, ◌||◌, List, Option, Some, None, Result, Ok, Err, refl, sym, ap, ◌∙◌, subst}
use Rattle.std.specs.Prelude.{is_some, is_none, nat_le, unwrap_or, IfOk, OnOk}
use Rattle.std.specs.Option.{option_map, option_and_then}
use Rattle.std.proofs.lemmas.Bool.{true≢false, false≢true}
use Rattle.std.proofs.lemmas.Bool.Decides.{leb_tells}
use Rattle.std.proofs.lemmas.Option.{same_Some}
use Rattle.vx_calls.specs.declared.limits.TheConstants.{WRITE_MAX}
use Rattle.vx_calls.specs.declared.codes.ErrorCode.{ErrorCode}
use Rattle.vx_calls.specs.declared.codes.ErrorCode.TheVariants as code
use Rattle.vx_calls.specs.declared.targets.Target.{Target}
use Rattle.vx_calls.specs.Target.{target}
use Rattle.vx_calls.specs.Call.{Call}
use Rattle.vx_calls.specs.Call as call
use Rattle.vx_calls.specs.Reply.{Reply, same_reply}
use Rattle.vx_calls.specs.Reply as reply
use Rattle.vx_488.specs.declared.transfers.Transfer.{Transfer}
use Rattle.vx_488.specs.declared.wire.Wire.{Wire}
use Rattle.vx_plan.specs.declared.tasks.Task.{Task}
use Rattle.vx_plan.specs.Roles.{has_role}
use Rattle.vx_plan.specs.Plan.{Stand}
use Rattle.vx_rules.specs.State.{Pending, Tables, State, pending_at}
use Rattle.vx_rules.specs.Calls.{is_bus_call, asks_dial}
use Rattle.vx_rules.specs.Checks.{NamedLink, NoLink, DeadLink, OnLink, named_link, check}
use Rattle.vx_rules.specs.Lines.{Bar, Admission, Refused, Waiting, Passed, holder_against, checks_pass, later_lines, is_first}
use Rattle.vx_rules.specs.Effects.{task_on, task_of, stopped_reply, create, effect, settle}
use Rattle.vx_rules.specs.Decide.{BusInput, is_quiet, settles, may_tell, may_have_made, is_nothing, begun_between, has_job_role, is_part_of, bus_answer, dialed_answer, by_lines, passed_fits, lines_fit, stand_on, turn_answer}
use Rattle.vx_rules.specs.Entry.{Answer}
use Rattle.vx_rules.specs.AtomicStep.{atomic_step, call_fits, answer_to, if_reply}
use Rattle.vx_rules.specs.Serving.{served_reply}
use Rattle.vx_rules.proofs.Laws.{no-job, dial-no-bus}
use Rattle.vx_rules.proofs.Laws.Walks.{passed-says}
use Rattle.vx_model.specs.Stepping.{ModelGoes, closed, ended, answer_at, stopped_at, refusal_fits, open_job, lines_at, stood_at, turn_at}

-- ---- the reply that is told

-- the state where a reply was found: it is reached exactly where the reply is the one told
pub ended_yes : (s : State) (conn now : ℕ) (moves : List Transfer) (told : Reply) (found : Option (Reply × Tables)) (r : Reply) (t : Tables)
    → found ≡ Some (r, t) → same_reply r told ≡ true → ended s conn now moves told found ≡ Some (closed s conn now moves t)
ended_yes s conn now moves told found r t e same = ap (ended s conn now moves told) e ∙ ap (λ b. cond b (Some (closed s conn now moves t)) None) same

-- it isn't reached where no reply that was found is the one told
pub ended_no : (s : State) (conn now : ℕ) (moves : List Transfer) (told : Reply) (found : Option (Reply × Tables))
    → ((r : Reply) (t : Tables) → found ≡ Some (r, t) → same_reply r told ≡ false) → ended s conn now moves told found ≡ None
ended_no s conn now moves told None h = refl
ended_no s conn now moves told (Some x) h = ap (λ b. cond b (Some (closed s conn now moves x.1)) None) (h x.0 x.1 refl)

-- ---- an answer, in the state where a call is pending

-- something is there
pub some_pending : {A : Type 0} (o : Option A) → is_some o ≡ true → (x : A) × (o ≡ Some x)
some_pending None h = absurd (false≢true h)
some_pending (Some x) h = (x, refl)

-- the state after an answer, by whether its moment is due and by the call that is pending
abbrev by_pending : State → ℕ → ℕ → BusInput → Reply → Bool → Option Pending → Option State
by_pending s conn now o told due p =
    cond (due && call_fits s conn now o p) (option_and_then (if_reply told) (option_and_then (answer_to s conn now o) p)) None

-- at a due moment the answer is that to the pending call
pub answer_is : (s : State) (conn now : ℕ) (o : BusInput) (told : Reply) (p : Pending) → pending_at s.tables conn ≡ Some p → nat_le s.moment now ≡ true
    → atomic_step s (Answer conn now o.begun o.moves o.failed o.dialed o.level told) ≡ answer_at s conn now o told p
answer_is s conn now o told p here due =
    ap (λ b. by_pending s conn now o told b (pending_at s.tables conn)) due ∙ ap (by_pending s conn now o told true) here

-- before its moment there is no answer
pub answer_early : (s : State) (conn now : ℕ) (o : BusInput) (told : Reply) → nat_le s.moment now ≡ false
    → atomic_step s (Answer conn now o.begun o.moves o.failed o.dialed o.level told) ≡ None
answer_early s conn now o told early = ap (λ b. by_pending s conn now o told b (pending_at s.tables conn)) early

-- without a call there is none either
pub answer_idle : (s : State) (conn now : ℕ) (o : BusInput) (told : Reply) → nat_le s.moment now ≡ true → pending_at s.tables conn ≡ None
    → atomic_step s (Answer conn now o.begun o.moves o.failed o.dialed o.level told) ≡ None
answer_idle s conn now o told due idle =
    ap (λ b. by_pending s conn now o told b (pending_at s.tables conn)) due ∙ ap (by_pending s conn now o told true) idle

-- ---- by the first lines

-- an answer by the lines that decide it and by whether what came from outside fits
abbrev by_fits : State → ℕ → ℕ → BusInput → Reply → Pending → Bool → Admission → Option State
by_fits s conn now o told p fits lines = cond fits (ended s conn now o.moves told (by_lines s.tables s.wire conn p now o lines)) None

-- three tests, in either grouping
all_three : (a b d : Bool) → (a && b && d) ≡ (a && (b && d))
all_three true b d = refl
all_three false b d = refl

module _ (t : Tables) (w : Wire) (conn now : ℕ) (p : Pending) (o : BusInput) where
  -- whether what came from outside fits, by the mark and by the lines behind it
  abbrev fits_at : Bool → Admission → Bool
  fits_at aborted later = cond aborted (may_tell p now o.begun && may_have_made t w conn p o.moves && (is_nothing o.moves || is_first t w.own conn p now)) (lines_fit t w conn p now o later)

  -- what fits a refusal
  refused_at : (aborted : Bool) (later : Admission) (error : ErrorCode) → cond aborted (Refused code.Abort) later ≡ Refused error
      → fits_at aborted later ≡ (may_tell p now o.begun && cond aborted (may_have_made t w conn p o.moves && (is_nothing o.moves || is_first t w.own conn p now)) (is_nothing o.moves))
  refused_at true later error h = all_three (may_tell p now o.begun) (may_have_made t w conn p o.moves) (is_nothing o.moves || is_first t w.own conn p now)
  refused_at false (Refused e) error h = refl
  refused_at false (Waiting bar) error h = cc
  refused_at false Passed error h = cc

  -- nothing fits a call that waits
  waiting_at : (aborted : Bool) (later : Admission) (bar : Bar) → cond aborted (Refused code.Abort) later ≡ Waiting bar → fits_at aborted later ≡ false
  waiting_at true later bar h = cc
  waiting_at false (Refused e) bar h = cc
  waiting_at false (Waiting other) bar h = refl
  waiting_at false Passed bar h = cc

  -- what fits a call that passes
  passed_at : (aborted : Bool) (later : Admission) → cond aborted (Refused code.Abort) later ≡ Passed → fits_at aborted later ≡ passed_fits t w conn p now o
  passed_at true later h = cc
  passed_at false (Refused e) h = cc
  passed_at false (Waiting bar) h = cc
  passed_at false Passed h = refl

module _ (s : State) (conn now : ℕ) (o : BusInput) (told : Reply) (p : Pending) where
  -- a call that waits has no answer
  pub waiting-is : (bar : Bar) → lines_at s conn now o p ≡ Waiting bar → answer_at s conn now o told p ≡ None
  waiting-is bar lines =
      ap (λ b. by_fits s conn now o told p b (lines_at s conn now o p))
      (waiting_at s.tables s.wire conn now p o p.aborted (later_lines s.tables s.wire.own conn (settles o) p now) bar lines)

  -- a call that the first lines refuse
  refused_by : (error : ErrorCode) → lines_at s conn now o p ≡ Refused error
      → answer_at s conn now o told p ≡ by_fits s conn now o told p (refusal_fits s.tables s.wire conn p now o) (Refused error)
  refused_by error lines =
      ap (λ b. by_fits s conn now o told p b (lines_at s conn now o p))
      (refused_at s.tables s.wire conn now p o p.aborted (later_lines s.tables s.wire.own conn (settles o) p now) error lines)
      ∙ ap (by_fits s conn now o told p (refusal_fits s.tables s.wire conn p now o)) lines

  -- the answer to a refused call, by whether what came from outside fits and is quiet
  abbrev refused_so : ErrorCode → Bool → Bool → Option State
  refused_so error fits quiet = cond fits (ended s conn now o.moves told (cond quiet (Some (stopped_reply p.call error o.moves, s.tables)) None)) None

  -- where it fits and is quiet the call ends with the error
  pub refused-is : (error : ErrorCode) → lines_at s conn now o p ≡ Refused error → is_quiet o ≡ true → refusal_fits s.tables s.wire conn p now o ≡ true
      → answer_at s conn now o told p ≡ stopped_at s conn now error o.moves told p
  refused-is error lines quiet fits =
      refused_by error lines ∙ ap (λ b. refused_so error b (is_quiet o)) fits ∙ ap (refused_so error true) quiet

  -- where it isn't quiet there is no answer
  pub refused-loud : (error : ErrorCode) → lines_at s conn now o p ≡ Refused error → is_quiet o ≡ false → answer_at s conn now o told p ≡ None
  refused-loud error lines loud =
      refused_by error lines ∙ ap (refused_so error (refusal_fits s.tables s.wire conn p now o)) loud ∙ same (refusal_fits s.tables s.wire conn p now o)
    where
      same : (b : Bool) → refused_so error b false ≡ None
      same true = refl
      same false = refl

  -- and none where it doesn't fit
  pub refused-unfit : (error : ErrorCode) → lines_at s conn now o p ≡ Refused error → refusal_fits s.tables s.wire conn p now o ≡ false → answer_at s conn now o told p ≡ None
  refused-unfit error lines unfit = refused_by error lines ∙ ap (λ b. refused_so error b (is_quiet o)) unfit

-- ---- a call that nothing keeps off

-- a call with a dial or without a bus has no job
no_task : (u : Target) (asked : Call) → is_bus_call asked ≡ false → task_on u asked ≡ None
no_task u (call.Write lid io_timeout lock_timeout flags bytes) h = absurd (true≢false h)
no_task u (call.Read lid request io_timeout lock_timeout flags term) h = absurd (true≢false h)
no_task u (call.ReadStb generic) h = absurd (true≢false h)
no_task u (call.Trigger generic) h = absurd (true≢false h)
no_task u (call.Clear generic) h = absurd (true≢false h)
no_task u (call.Remote generic) h = absurd (true≢false h)
no_task u (call.Local generic) h = absurd (true≢false h)
no_task u (call.Docmd lid flags io_timeout lock_timeout cmd big size bytes) h = absurd (true≢false h)
no_task u _ h = refl

-- the job of a call that passes is open
either_none : (b : Bool) → cond b None None ≡ (let none : Option Task = None in none)
either_none true = refl
either_none false = refl

-- whichever link it is about
open_at : (t : Tables) (own conn : ℕ) (settling : Bool) (about : NamedLink) (asked : Call) (holder : Option ℕ) → check t own conn settling about asked ≡ None → holder ≡ None
    → cond (checks_pass (check t own conn false about asked) holder) (task_of about asked) None ≡ task_of about asked
open_at t own conn settling NoLink asked holder c h = either_none (checks_pass (check t own conn false NoLink asked) holder)
open_at t own conn settling DeadLink asked holder c h = either_none (checks_pass (check t own conn false DeadLink asked) holder)
open_at t own conn settling (OnLink l) asked holder c h =
    ap (λ k. cond (checks_pass k holder) (task_on l.target asked) None) c ∙ ap (λ k. cond (checks_pass None k) (task_on l.target asked) None) h

-- the job of a call that the first lines let pass is its open job
pub open_is : (s : State) (conn now : ℕ) (o : BusInput) (p : Pending) → lines_at s conn now o p ≡ Passed
    → open_job s.tables s.wire conn p ≡ task_of (named_link s.tables conn p.call) p.call
open_is s conn now o p lines =
    let says = passed-says p now p.aborted _ _ _ lines in
    open_at s.tables s.wire.own conn (settles o) (named_link s.tables conn p.call) p.call (holder_against s.tables s.wire.own (named_link s.tables conn p.call) p.call) says.checks says.locks

module _ (s : State) (conn now : ℕ) (o : BusInput) (told : Reply) (p : Pending) where
  -- a reply with the tables as they are
  abbrev paired : Option Reply → Option (Reply × Tables)
  paired found = option_map (λ given. (given, s.tables)) found

  -- no transfer is told, and no beginning but one that may be
  abbrev pub bare : Bool
  bare = may_tell p now o.begun && is_nothing o.moves

  -- the answer to a call that passes, by its job and its kind
  abbrev passed_so : Option Task → Bool → Bool → Option State
  passed_so job dials bus =
      cond (cond (has_job_role s.wire job) (begun_between p now o.begun) bare)
      (ended s conn now o.moves told
      (cond dials (dialed_answer s.tables conn p o o.dialed)
      (cond bus (paired (bus_answer s.wire p now o job))
      (cond (is_quiet o) (effect s.tables s.wire.own conn (named_link s.tables conn p.call) p.call) None))))
      None

  -- the answer is that
  passed_by : lines_at s conn now o p ≡ Passed
      → answer_at s conn now o told p ≡ passed_so (task_of (named_link s.tables conn p.call) p.call) (asks_dial p.call) (is_bus_call p.call)
  passed_by lines =
      ap (λ b. by_fits s conn now o told p b (lines_at s conn now o p))
      (passed_at s.tables s.wire conn now p o p.aborted (later_lines s.tables s.wire.own conn (settles o) p now) lines)
      ∙ ap (by_fits s conn now o told p (passed_fits s.tables s.wire conn p now o)) lines

  -- a call with a dial is answered by how the dial went
  pub dialed-is : lines_at s conn now o p ≡ Passed → asks_dial p.call ≡ true
      → answer_at s conn now o told p ≡ cond bare (ended s conn now o.moves told (dialed_answer s.tables conn p o o.dialed)) None
  dialed-is lines dials =
      passed_by lines ∙ ap (λ b. passed_so (task_of (named_link s.tables conn p.call) p.call) b (is_bus_call p.call)) dials
      ∙ ap (λ k. passed_so k true (is_bus_call p.call)) (no-job (named_link s.tables conn p.call) p.call (dial-no-bus p.call dials))

  -- a call that needs no bus and no dial is answered by its effect
  pub effect-is : lines_at s conn now o p ≡ Passed → asks_dial p.call ≡ false → is_bus_call p.call ≡ false
      → answer_at s conn now o told p
      ≡ cond bare (ended s conn now o.moves told (cond (is_quiet o) (effect s.tables s.wire.own conn (named_link s.tables conn p.call) p.call) None)) None
  effect-is lines dials bus =
      passed_by lines ∙ ap (λ b. passed_so (task_of (named_link s.tables conn p.call) p.call) b (is_bus_call p.call)) dials
      ∙ ap (λ b. passed_so (task_of (named_link s.tables conn p.call) p.call) false b) bus
      ∙ ap (λ k. passed_so k false false) (no-job (named_link s.tables conn p.call) p.call bus)

  -- a bus call, by its open job
  bus_by : lines_at s conn now o p ≡ Passed → asks_dial p.call ≡ false → is_bus_call p.call ≡ true
      → (job : Option Task) → job ≡ open_job s.tables s.wire conn p → answer_at s conn now o told p ≡ passed_so job false true
  bus_by lines dials bus job is =
      passed_by lines ∙ ap (λ b. passed_so (task_of (named_link s.tables conn p.call) p.call) b (is_bus_call p.call)) dials
      ∙ ap (λ b. passed_so (task_of (named_link s.tables conn p.call) p.call) false b) bus
      ∙ ap (λ k. passed_so k false true) (sym (is ∙ open_is s conn now o p lines))

  -- no state, either way
  no_state : (b : Bool) → cond b None None ≡ (let none : Option State = None in none)
  no_state true = refl
  no_state false = refl

  -- a bus call without a job has no answer
  pub jobless-is : lines_at s conn now o p ≡ Passed → asks_dial p.call ≡ false → is_bus_call p.call ≡ true
      → None ≡ open_job s.tables s.wire conn p → answer_at s conn now o told p ≡ None
  jobless-is lines dials bus is = bus_by lines dials bus None is ∙ no_state bare

  -- the answer to a bus call, by whether the gateway has the role for its job
  abbrev with_role : Task → Bool → Option State
  with_role job has =
      cond (cond has (begun_between p now o.begun) bare)
      (ended s conn now o.moves told
      (paired (cond has (cond (is_none o.dialed) (turn_answer s.wire p now o job (stand_on s.wire p.call job o.moves)) None)
      (cond (is_quiet o) (Some (stopped_reply p.call code.BusFault o.moves)) None))))
      None

  -- two tests, in either order
  in_order : (d b : Bool) (x : Option Reply) → cond b (ended s conn now o.moves told (paired (cond d x None))) None ≡ cond (d && b) (ended s conn now o.moves told (paired x)) None
  in_order true true x = refl
  in_order true false x = refl
  in_order false true x = refl
  in_order false false x = refl

  -- with the role it is the answer of its turn
  pub turn-is : (job : Task) → lines_at s conn now o p ≡ Passed → asks_dial p.call ≡ false → is_bus_call p.call ≡ true
      → Some job ≡ open_job s.tables s.wire conn p → has_role job s.wire ≡ true → answer_at s conn now o told p ≡ turn_at s conn now o told p job
  turn-is job lines dials bus is has =
      bus_by lines dials bus (Some job) is ∙ ap (with_role job) has
      ∙ in_order (is_none o.dialed) (begun_between p now o.begun) (turn_answer s.wire p now o job (stand_on s.wire p.call job o.moves))

  -- the answer without the role, by whether what came from outside is bare and quiet
  abbrev roleless_so : Bool → Bool → Option State
  roleless_so fits quiet = cond fits (ended s conn now o.moves told (paired (cond quiet (Some (stopped_reply p.call code.BusFault o.moves)) None))) None

  -- without the role it is that
  roleless_by : (job : Task) → lines_at s conn now o p ≡ Passed → asks_dial p.call ≡ false → is_bus_call p.call ≡ true
      → Some job ≡ open_job s.tables s.wire conn p → has_role job s.wire ≡ false → answer_at s conn now o told p ≡ roleless_so bare (is_quiet o)
  roleless_by job lines dials bus is has = bus_by lines dials bus (Some job) is ∙ ap (with_role job) has

  -- where it is bare and quiet the call ends with a bus fault
  pub roleless-is : (job : Task) → lines_at s conn now o p ≡ Passed → asks_dial p.call ≡ false → is_bus_call p.call ≡ true
      → Some job ≡ open_job s.tables s.wire conn p → has_role job s.wire ≡ false → is_quiet o ≡ true → bare ≡ true
      → answer_at s conn now o told p ≡ stopped_at s conn now code.BusFault o.moves told p
  roleless-is job lines dials bus is has quiet fits =
      roleless_by job lines dials bus is has ∙ ap (λ b. roleless_so b (is_quiet o)) fits ∙ ap (roleless_so true) quiet

  -- where it isn't quiet there is no answer
  pub roleless-loud : (job : Task) → lines_at s conn now o p ≡ Passed → asks_dial p.call ≡ false → is_bus_call p.call ≡ true
      → Some job ≡ open_job s.tables s.wire conn p → has_role job s.wire ≡ false → is_quiet o ≡ false → answer_at s conn now o told p ≡ None
  roleless-loud job lines dials bus is has loud = roleless_by job lines dials bus is has ∙ ap (roleless_so bare) loud ∙ no_state bare

  -- and none where it isn't bare
  pub roleless-unfit : (job : Task) → lines_at s conn now o p ≡ Passed → asks_dial p.call ≡ false → is_bus_call p.call ≡ true
      → Some job ≡ open_job s.tables s.wire conn p → has_role job s.wire ≡ false → bare ≡ false → answer_at s conn now o told p ≡ None
  roleless-unfit job lines dials bus is has unfit = roleless_by job lines dials bus is has ∙ ap (λ b. roleless_so b (is_quiet o)) unfit

  -- ---- a turn

  -- the answer of a turn, by whether no dial is told and its beginning fits
  abbrev turned_so : Task → Bool → Bool → Option State
  turned_so job quiet begun = cond (quiet && begun) (stood_at s conn now o told p job (stand_on s.wire p.call job o.moves)) None

  -- a turn with a dial has no answer
  pub turn-dialed : (job : Task) → is_none o.dialed ≡ false → turn_at s conn now o told p job ≡ None
  turn-dialed job dialed = ap (λ b. turned_so job b (begun_between p now o.begun)) dialed

  -- nor has one whose beginning doesn't fit
  pub turn-unbegun : (job : Task) → begun_between p now o.begun ≡ false → turn_at s conn now o told p job ≡ None
  turn-unbegun job unbegun = ap (turned_so job (is_none o.dialed)) unbegun ∙ same (is_none o.dialed)
    where
      same : (b : Bool) → turned_so job b false ≡ None
      same true = refl
      same false = refl

  -- any other is answered by where its transfers stand
  pub turn-stood : (job : Task) (standing : Stand) → is_none o.dialed ≡ true → begun_between p now o.begun ≡ true → standing ≡ stand_on s.wire p.call job o.moves
      → turn_at s conn now o told p job ≡ stood_at s conn now o told p job standing
  turn-stood job standing none begun is =
      ap (λ b. turned_so job b (begun_between p now o.begun)) none ∙ ap (turned_so job true) begun ∙ ap (stood_at s conn now o told p job) (sym is)

-- ---- effects and dials

-- the reply of an effect doesn't rest on the connection's call being let pass
created_reply : (t : Tables) (conn : ℕ) (lock : Bool) (named : Result Target ErrorCode) (r : Reply) (u : Tables) → create t conn lock named ≡ Some (r, u)
    → r ≡ reply.CreateLink code.Ok t.links.next t.abort_port WRITE_MAX
created_reply t conn lock (Ok named) r u h = sym (ap (λ x. x.0) (same_Some _ (r, u) h))
created_reply t conn lock (Err error) r u h = cc

-- the reply of an effect is the one that is told before it
pub effect-reply : (t : Tables) (own conn : ℕ) (about : NamedLink) (asked : Call) (r : Reply) (u : Tables) → effect t own conn about asked ≡ Some (r, u) → r ≡ served_reply t asked
effect-reply t own conn (OnLink l) (call.Lock lid flags lock_timeout) r u h = sym (ap (λ x. x.0) (same_Some _ (r, u) h))
effect-reply t own conn (OnLink l) (call.Unlock lid) r u h = sym (ap (λ x. x.0) (same_Some _ (r, u) h))
effect-reply t own conn (OnLink l) (call.EnableSrq lid enable handle) r u h = sym (ap (λ x. x.0) (same_Some _ (r, u) h))
effect-reply t own conn (OnLink l) (call.DestroyLink lid) r u h = sym (ap (λ x. x.0) (same_Some _ (r, u) h))
effect-reply t own conn (OnLink l) _ r u h = cc
effect-reply t own conn NoLink (call.CreateLink client lock lock_timeout device) r u h = created_reply t conn lock (target device own) r u h
effect-reply t own conn NoLink call.DestroyIntr r u h = sym (ap (λ x. x.0) (same_Some _ (r, u) h))
effect-reply t own conn NoLink _ r u h = cc
effect-reply t own conn DeadLink asked r u h = cc

-- the reply of a dial, by how it went
dialed_if : (t v : Tables) (up : Bool) (r : Reply) (u : Tables)
    → cond {A = Option (Reply × Tables)} up (Some (reply.Error code.Ok, v)) (Some (reply.Error code.NoChannel, t)) ≡ Some (r, u)
    → r ≡ cond up (reply.Error code.Ok) (reply.Error code.NoChannel)
dialed_if t v true r u h = sym (ap (λ x. x.0) (same_Some _ (r, u) h))
dialed_if t v false r u h = sym (ap (λ x. x.0) (same_Some _ (r, u) h))

-- so is that of a settled call
pub settle-reply : (t : Tables) (conn : ℕ) (asked : Call) (up : Bool) (r : Reply) (u : Tables) → settle t conn asked up ≡ Some (r, u)
    → r ≡ cond up (reply.Error code.Ok) (reply.Error code.NoChannel)
settle-reply t conn (call.CreateIntr host port prog vers family) up r u h = dialed_if t _ up r u h
settle-reply t conn _ up r u h = cc

-- ---- calls that have their effect

module _ (s : State) (conn now : ℕ) (o : BusInput) (told : Reply) (p : Pending) where
  -- a dial that is told with its reply is settled
  pub dial-taken : (up : Bool) (r : Reply) (t : Tables) → lines_at s conn now o p ≡ Passed → asks_dial p.call ≡ true → bare s conn now o told p ≡ true
      → o.dialed ≡ Some up → o.failed ≡ false → o.level ≡ false → settle s.tables conn p.call up ≡ Some (r, t)
      → same_reply (cond up (reply.Error code.Ok) (reply.Error code.NoChannel)) told ≡ true
      → answer_at s conn now o told p ≡ Some (closed s conn now o.moves t)
  dial-taken up r t lines dials fits dialed failed level settles same =
      dialed-is s conn now o told p lines dials
      ∙ ap (λ b. cond b (ended s conn now o.moves told (dialed_answer s.tables conn p o o.dialed)) None) fits
      ∙ ap (λ d. ended s conn now o.moves told (dialed_answer s.tables conn p o d)) dialed
      ∙ ap (λ b. ended s conn now o.moves told (cond (not b && not o.level) (settle s.tables conn p.call up) None)) failed
      ∙ ap (λ b. ended s conn now o.moves told (cond (not b) (settle s.tables conn p.call up) None)) level
      ∙ ended_yes s conn now o.moves told (settle s.tables conn p.call up) r t settles
      (ap (λ x. same_reply x told) (settle-reply s.tables conn p.call up r t settles) ∙ same)

  -- the link that the call is about
  abbrev about : NamedLink
  about = named_link s.tables conn p.call

  -- the answer by an effect, by whether what came from outside is bare and quiet
  abbrev effect_so : Bool → Bool → Option State
  effect_so fits quiet = cond fits (ended s conn now o.moves told (cond quiet (effect s.tables s.wire.own conn about p.call) None)) None

  -- where it is both, it is the effect
  effect_open : lines_at s conn now o p ≡ Passed → asks_dial p.call ≡ false → is_bus_call p.call ≡ false → is_quiet o ≡ true → bare s conn now o told p ≡ true
      → answer_at s conn now o told p ≡ ended s conn now o.moves told (effect s.tables s.wire.own conn about p.call)
  effect_open lines dials bus quiet fits =
      effect-is s conn now o told p lines dials bus ∙ ap (λ b. effect_so b (is_quiet o)) fits ∙ ap (effect_so true) quiet

  -- an effect that is told with its reply is made
  pub effect-taken : (r : Reply) (t : Tables) → lines_at s conn now o p ≡ Passed → asks_dial p.call ≡ false → is_bus_call p.call ≡ false → is_quiet o ≡ true
      → bare s conn now o told p ≡ true → effect s.tables s.wire.own conn about p.call ≡ Some (r, t) → same_reply (served_reply s.tables p.call) told ≡ true
      → answer_at s conn now o told p ≡ Some (closed s conn now o.moves t)
  effect-taken r t lines dials bus quiet fits found same =
      effect_open lines dials bus quiet fits
      ∙ ended_yes s conn now o.moves told (effect s.tables s.wire.own conn about p.call) r t found
      (ap (λ x. same_reply x told) (effect-reply s.tables s.wire.own conn about p.call r t found) ∙ same)

  -- with another reply there is no answer
  pub effect-other : lines_at s conn now o p ≡ Passed → asks_dial p.call ≡ false → is_bus_call p.call ≡ false → is_quiet o ≡ true
      → bare s conn now o told p ≡ true → same_reply (served_reply s.tables p.call) told ≡ false → answer_at s conn now o told p ≡ None
  effect-other lines dials bus quiet fits differs =
      effect_open lines dials bus quiet fits
      ∙ ended_no s conn now o.moves told (effect s.tables s.wire.own conn about p.call)
      (λ r t found. ap (λ x. same_reply x told) (effect-reply s.tables s.wire.own conn about p.call r t found) ∙ differs)

  -- and none where what came from outside isn't quiet
  pub effect-loud : lines_at s conn now o p ≡ Passed → asks_dial p.call ≡ false → is_bus_call p.call ≡ false → is_quiet o ≡ false → answer_at s conn now o told p ≡ None
  effect-loud lines dials bus loud =
      effect-is s conn now o told p lines dials bus ∙ ap (effect_so (bare s conn now o told p)) loud ∙ no_state s conn now o told p (bare s conn now o told p)

  -- or isn't bare
  pub effect-unfit : lines_at s conn now o p ≡ Passed → asks_dial p.call ≡ false → is_bus_call p.call ≡ false → bare s conn now o told p ≡ false
      → answer_at s conn now o told p ≡ None
  effect-unfit lines dials bus unfit = effect-is s conn now o told p lines dials bus ∙ ap (λ b. effect_so b (is_quiet o)) unfit

-- ---- what a result says of a state that is found otherwise

-- a state that is found for each pending call, and is the same as another
pub goes_as : {E : Type 0} (r : Result Bool E) (asked : Option Pending) (found other : Pending → Option State) (old now : State)
    → ((p : Pending) → asked ≡ Some p → other p ≡ found p)
    → IfOk r (λ yes. (p : Pending) → asked ≡ Some p → ModelGoes (found p) old yes now) → IfOk r (λ yes. (p : Pending) → asked ≡ Some p → ModelGoes (other p) old yes now)
goes_as (Ok done) asked found other old now same h = λ p here. subst (λ f. ModelGoes f old done now) (sym (same p here)) (h p here)
goes_as (Err e) asked found other old now same h = tt

-- the same of the one pending call
pub goes_at : {E : Type 0} (r : Result Bool E) (asked : Option Pending) (found : Pending → Option State) (other : Option State) (old now : State) (p : Pending)
    → asked ≡ Some p → other ≡ found p
    → IfOk r (λ yes. (q : Pending) → asked ≡ Some q → ModelGoes (found q) old yes now) → IfOk r (λ yes. ModelGoes other old yes now)
goes_at (Ok done) asked found other old now p here same h = subst (λ f. ModelGoes f old done now) (sym same) (h p here)
goes_at (Err e) asked found other old now p here same h = tt

-- ---- the public clauses

-- the answer says whether the entry is allowed
pub yes_is : {E : Type 0} (r : Result Bool E) (found : Option State) (old now : State) → IfOk r (λ yes. ModelGoes found old yes now) → IfOk r (λ yes. yes ≡ is_some found)
yes_is (Ok true) found old now h = sym (ap is_some h)
yes_is (Ok false) found old now h = sym (ap is_some h.0)
yes_is (Err e) found old now h = tt

-- and the state is the one behind it, or the one before
pub state_is : {E : Type 0} (r : Result Bool E) (found : Option State) (old now : State) → IfOk r (λ yes. ModelGoes found old yes now) → OnOk r (now ≡ unwrap_or found old)
state_is (Ok true) found old now h = sym (ap (λ o. unwrap_or o old) h)
state_is (Ok false) found old now h = h.1 ∙ sym (ap (λ o. unwrap_or o old) h.0)
state_is (Err e) found old now h = tt

-- transfers are a part of an open job where nothing is against the call and they are a part of its job
pub part_open : (w : Wire) (asked : Call) (moves : List Transfer) (lets : Bool) (job : Option Task)
    → is_part_of w asked moves (cond lets job None) ≡ (lets && is_part_of w asked moves job)
part_open w asked moves true job = refl
part_open w asked moves false job = refl

-- what a result says for every job it says for one
pub goes_any : {E : Type 0} (r : Result Bool E) (asked : Option Pending) (found : Pending → Task → Option State) (old now : State) (job : Task)
    → IfOk r (λ yes. (p : Pending) (k : Task) → asked ≡ Some p → ModelGoes (found p k) old yes now) → IfOk r (λ yes. (p : Pending) → asked ≡ Some p → ModelGoes (found p job) old yes now)
goes_any (Ok done) asked found old now job h = λ p here. h p job here
goes_any (Err e) asked found old now job h = tt

-- an order of moments as a test
pub leb-from : (m n : ℕ) → m ≤ n → nat_le m n ≡ true
leb-from m n h = by (leb_tells m n) where
  by : ((leb m n ≡ true) × (m ≤ n)) ⊎ ((leb m n ≡ false) × (n < m)) → leb m n ≡ true
  by (inl e) = e.0
  by (inr e) = absurd (omega (arith, h, e.1))

-- and where they are the other way round
pub leb-not : (m n : ℕ) → n < m → nat_le m n ≡ false
leb-not m n h = by (leb_tells m n) where
  by : ((leb m n ≡ true) × (m ≤ n)) ⊎ ((leb m n ≡ false) × (n < m)) → leb m n ≡ false
  by (inl e) = absurd (omega (arith, h, e.1))
  by (inr e) = e.0
