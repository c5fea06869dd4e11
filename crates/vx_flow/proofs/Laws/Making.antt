-- The transfers of an answer, and of the end of a connection: none, or on the plan of a job that the first lines let pass.
use Rattle.std.proofs.Common.{◌≡◌, ◌≢◌, ℕ, Bool, true, false, cond, ◌⊎◌, inl, inr, List, [], ◌∷◌, Option, Some, None, refl, sym, ap, ◌∙◌}
use Rattle.std.specs.Prelude.{is_none, nat_le, ◌&&◌, ◌||◌}
use Rattle.std.specs.Option.{option_map, option_and_then}
use Rattle.std.proofs.lemmas.Bool.{true≢false, false≢true, and_parts, cond-false}
use Rattle.std.proofs.lemmas.Option.{cond_some}
use Rattle.vx_lemmas.proofs.Laws.Conditions.{chosen}
use Rattle.vx_lemmas.proofs.Laws.Options.{mapped, gone_on}
use Rattle.vx_calls.specs.declared.codes.ErrorCode.TheVariants as code
use Rattle.vx_calls.specs.Reply.{Reply, same_reply}
use Rattle.vx_calls.proofs.Laws.{same_reply-is}
use Rattle.vx_488.specs.declared.transfers.Transfer.{Transfer}
use Rattle.vx_488.specs.declared.wire.Wire.{Wire}
use Rattle.vx_488.specs.Wire.{wire_after}
use Rattle.vx_plan.specs.declared.tasks.Task.{Task}
use Rattle.vx_plan.specs.Plan.{Stand, Whole, Part, Off}
use Rattle.vx_plan.specs.Roles.{has_role}
use Rattle.vx_rules.specs.Table.{Link}
use Rattle.vx_rules.specs.Calls.{is_bus_call, asks_dial}
use Rattle.vx_rules.specs.State.{Pending, Tables, State, pending_at, with_pending}
use Rattle.vx_rules.specs.Checks.{OnLink, named_link, check_on, check}
use Rattle.vx_rules.specs.Lines.{Admission, Refused, Passed, holder_against, ahead_of, bar_against, checked_lines, later_lines_in, later_lines, lets_pass, is_first}
use Rattle.vx_rules.specs.Effects.{task_on, task_of, stopped_reply, effect}
use Rattle.vx_rules.specs.Decide.{BusInput, is_quiet, stand_on, turn_answer, job_answer, bus_answer, dialed_answer, passed_answer, by_lines, settles, decide, is_nothing, begun_between, may_tell, is_part, has_job_role, is_part_of, may_have_made, passed_fits, lines_fit, turn_fits}
use Rattle.vx_rules.specs.Entry as entry
use Rattle.vx_rules.specs.AtomicStep.{atomic_step, answer, answer_to, answered, if_reply, call_fits, may_leave}
use Rattle.vx_rules.proofs.Laws.{bus-job}
use Rattle.vx_flow.specs.Sound.{Passes}
use Rattle.vx_flow.proofs.Laws.Jobs.{job-link, role-job, no-dial, against, passes-parts}
use Rattle.vx_flow.proofs.Laws.ByLines.{lines-both, Gives, ByRefusal, ByPassing, gives}

-- transfers on the plan of a call's job, where the first lines let the call pass
pub record MadePart (t : Tables) (w : Wire) (conn : ℕ) (p : Pending) (moves : List Transfer) : Type 0 where
  pub link : Link
  pub job : Task
  pub on_link : named_link t conn p.call ≡ OnLink link
  pub has_job : task_on link.target p.call ≡ Some job
  pub on_plan : stand_on w p.call job moves ≢ Off
  pub passes : Passes t w.own link p.call

abbrev pub MadeAny : Tables → Wire → ℕ → Pending → List Transfer → Type 0
MadeAny t w conn p moves = (moves ≡ []) ⊎ MadePart t w conn p moves

pub nothing-is : (moves : List Transfer) → is_nothing moves ≡ true → moves ≡ []
nothing-is [] h = refl
nothing-is (m ∷ ms) h = absurd (false≢true h)

-- ---- a call that is ended from outside

part-on : (s : Stand) → is_part s ≡ true → s ≢ Off
part-on Whole h e = cc
part-on Part h e = cc
part-on Off h e = false≢true h

part-made : (t : Tables) (w : Wire) (conn : ℕ) (p : Pending) (moves : List Transfer) (o : Option Task) → task_of (named_link t conn p.call) p.call ≡ o
    → lets_pass t w.own conn p ≡ true → is_part_of w p.call moves o ≡ true → MadePart t w conn p moves
part-made t w conn p moves None e pass h = absurd (false≢true h)
part-made t w conn p moves (Some job) e pass h =
    let link = job-link (named_link t conn p.call) p.call job e in
    record {
      link = link.0;
      job = job;
      on_link = link.1;
      has_job = link.2;
      on_plan = part-on (stand_on w p.call job moves) (and_parts _ _ h).1;
      passes = passes-parts t w.own conn p link.0 link.1 (bus-job link.0.target p.call job link.2) pass;
    }

pub may-made-parts : (t : Tables) (w : Wire) (conn : ℕ) (p : Pending) (moves : List Transfer) → may_have_made t w conn p moves ≡ true → MadeAny t w conn p moves
may-made-parts t w conn p moves h = by (is_nothing moves) refl h where
  by : (b : Bool) → is_nothing moves ≡ b → (b || (lets_pass t w.own conn p && is_part_of w p.call moves (task_of (named_link t conn p.call) p.call))) ≡ true
      → MadeAny t w conn p moves
  by true e h = inl (nothing-is moves e)
  by false e h =
      let both = and_parts (lets_pass t w.own conn p) (is_part_of w p.call moves (task_of (named_link t conn p.call) p.call)) h in
      inr (part-made t w conn p moves (task_of (named_link t conn p.call) p.call) refl both.0 both.1)

-- ---- a call that passed the first lines

-- whoever's turn is under way
pub later-passes-in : (t : Tables) (busy : Option ℕ) (own conn : ℕ) (settling : Bool) (p : Pending) (now : ℕ) (l : Link) → named_link t conn p.call ≡ OnLink l
    → is_bus_call p.call ≡ true → later_lines_in t busy own conn settling p now ≡ Passed → Passes t own l p.call
later-passes-in t busy own conn settling p now l on bus h =
    let parts = lines-both p now (check_on t own l p.call) (holder_against t own (OnLink l) p.call) (ahead_of t busy own now conn (OnLink l) p.call)
    (sym (ap (λ a. checked_lines p now (check t own conn settling a p.call) (bar_against t busy own now conn a p.call)) on) ∙ h) in
    record { checked = parts.0; free = sym (against t own l p.call bus) ∙ parts.1 }

-- and where none is
pub later-passes : (t : Tables) (own conn : ℕ) (settling : Bool) (p : Pending) (now : ℕ) (l : Link) → named_link t conn p.call ≡ OnLink l → is_bus_call p.call ≡ true
    → later_lines t own conn settling p now ≡ Passed → Passes t own l p.call
later-passes t own conn settling p now l on bus h = later-passes-in t None own conn settling p now l on bus h

bus-only : (asks bus : Bool) (x y z : Option (Reply × Tables)) → asks ≡ false → bus ≡ true → cond asks x (cond bus y z) ≡ y
bus-only true bus x y z a b = absurd (true≢false a)
bus-only false true x y z a b = refl
bus-only false false x y z a b = absurd (false≢true b)

turn-on : (w : Wire) (p : Pending) (now : ℕ) (o : BusInput) (job : Task) (s : Stand) (r : Reply) → turn_answer w p now o job s ≡ Some r → s ≢ Off
turn-on w p now o job Whole r h e = cc
turn-on w p now o job Part r h e = cc
turn-on w p now o job Off r h e = cc

job-on : (w : Wire) (p : Pending) (now : ℕ) (o : BusInput) (job : Task) (r : Reply) → has_role job w ≡ true → job_answer w p now o job ≡ Some r
    → stand_on w p.call job o.moves ≢ Off
job-on w p now o job r role h = by (has_role job w) (is_none o.dialed) role h where
  by : (role quiet : Bool) → role ≡ true
      → cond role (cond quiet (turn_answer w p now o job (stand_on w p.call job o.moves)) None) (cond (is_quiet o) (Some (stopped_reply p.call code.BusFault o.moves)) None) ≡ Some r
      → stand_on w p.call job o.moves ≢ Off
  by true true e h = turn-on w p now o job (stand_on w p.call job o.moves) r h
  by true false e h = cc
  by false quiet e h = absurd (false≢true e)

passed-on : (t : Tables) (w : Wire) (conn : ℕ) (p : Pending) (now : ℕ) (o : BusInput) (d : Reply × Tables) (job : Task) → is_bus_call p.call ≡ true
    → task_of (named_link t conn p.call) p.call ≡ Some job → has_role job w ≡ true → passed_answer t w conn p now o ≡ Some d → stand_on w p.call job o.moves ≢ Off
passed-on t w conn p now o d job bus is role h =
    let about = named_link t conn p.call in
    let given = bus_answer w p now o (task_of about p.call) in
    let found = sym (bus-only (asks_dial p.call) (is_bus_call p.call) (dialed_answer t conn p o o.dialed) (option_map (λ given. (given, t)) given)
    (cond (is_quiet o) (effect t w.own conn about p.call) None) (no-dial p.call bus) bus) ∙ h in
    let reply = mapped (λ (r : Reply). (r, t)) given d found in
    job-on w p now o job reply.0 role (sym (ap (bus_answer w p now o) is) ∙ reply.1)

passed-made : (t : Tables) (w : Wire) (conn : ℕ) (p : Pending) (now : ℕ) (o : BusInput) (d : Reply × Tables) (role : Bool)
    → has_job_role w (task_of (named_link t conn p.call) p.call) ≡ role → later_lines t w.own conn (settles o) p now ≡ Passed
    → passed_fits t w conn p now o ≡ true → passed_answer t w conn p now o ≡ Some d → MadeAny t w conn p o.moves
passed-made t w conn p now o d true e is fits found =
    let job = role-job w (task_of (named_link t conn p.call) p.call) e in
    let link = job-link (named_link t conn p.call) p.call job.0 job.1 in
    let bus = bus-job link.0.target p.call job.0 link.2 in
    inr (record {
      link = link.0;
      job = job.0;
      on_link = link.1;
      has_job = link.2;
      on_plan = passed-on t w conn p now o d job.0 bus job.1 job.2 found;
      passes = later-passes t w.own conn (settles o) p now link.0 link.1 bus is;
    })
passed-made t w conn p now o d false e is fits found =
    inl (nothing-is o.moves (and_parts (may_tell p now o.begun) (is_nothing o.moves)
    (sym (cond-false (has_job_role w (task_of (named_link t conn p.call) p.call)) (begun_between p now o.begun) (may_tell p now o.begun && is_nothing o.moves) e) ∙ fits)).1)

-- the transfers of an answer
pub answer-made : (t : Tables) (w : Wire) (conn : ℕ) (p : Pending) (now : ℕ) (o : BusInput) (d : Reply × Tables) → turn_fits t w conn p now o ≡ true
    → decide t w conn p now o ≡ Some d → MadeAny t w conn p o.moves
answer-made t w conn p now o d fits found = by p.aborted (later_lines t w.own conn (settles o) p now) refl fits found where
  given : (l : Admission) → later_lines t w.own conn (settles o) p now ≡ l → lines_fit t w conn p now o l ≡ true → Gives t w conn p now o d l → MadeAny t w conn p o.moves
  given l is fits (ByRefusal error refused quiet told) =
      inl (nothing-is o.moves (and_parts (may_tell p now o.begun) (is_nothing o.moves) (sym (ap (lines_fit t w conn p now o) refused) ∙ fits)).1)
  given l is fits (ByPassing passed answers) =
      passed-made t w conn p now o d (has_job_role w (task_of (named_link t conn p.call) p.call)) refl (is ∙ passed)
      (sym (ap (lines_fit t w conn p now o) passed) ∙ fits) answers

  by : (aborted : Bool) (l : Admission) → later_lines t w.own conn (settles o) p now ≡ l
      → cond aborted (may_tell p now o.begun && may_have_made t w conn p o.moves && (is_nothing o.moves || is_first t w.own conn p now)) (lines_fit t w conn p now o l) ≡ true
      → by_lines t w conn p now o (cond aborted (Refused code.Abort) l) ≡ Some d → MadeAny t w conn p o.moves
  by true l is fits found = may-made-parts t w conn p o.moves
      (and_parts (may_tell p now o.begun) (may_have_made t w conn p o.moves)
      (and_parts (may_tell p now o.begun && may_have_made t w conn p o.moves) (is_nothing o.moves || is_first t w.own conn p now) fits).0).1
  by false l is fits found = given l is fits (gives t w conn p now o d l found)

-- ---- entries

-- An answer that is allowed: the call, its decided reply and tables, and the state behind it.
pub record Answered (s t : State) (conn now : ℕ) (o : BusInput) (told : Reply) : Type 0 where
  pub asked : Pending
  pub decided : Reply × Tables
  pub at : pending_at s.tables conn ≡ Some asked
  pub fits : turn_fits s.tables s.wire conn asked now o ≡ true
  pub found : decide s.tables s.wire conn asked now o ≡ Some decided
  pub same : decided.0 ≡ told
  pub is : ◌≡◌ {A = State} (record { tables = with_pending decided.1 conn None; wire = wire_after s.wire o.moves; moment = now }) t

pub answer-parts : (s t : State) (conn now : ℕ) (o : BusInput) (told : Reply)
    → atomic_step s (entry.Answer conn now o.begun o.moves o.failed o.dialed o.level told) ≡ Some t → Answered s t conn now o told
answer-parts s t conn now o told h =
    let parts = chosen (nat_le s.moment now && call_fits s conn now o (pending_at s.tables conn)) (option_and_then (if_reply told) (answer s conn now o)) t h in
    let given = gone_on (if_reply told) (answer s conn now o) t parts.1 in
    let asked = gone_on (answer_to s conn now o) (pending_at s.tables conn) given.0 given.1 in
    let found = mapped (answered s conn now o.moves) (decide s.tables s.wire conn asked.0 now o) given.0 asked.2 in
    let same = cond_some (same_reply given.0.0 told) given.0.1 t given.2 in
    record {
      asked = asked.0;
      decided = found.0;
      at = asked.1;
      fits = sym (ap (call_fits s conn now o) asked.1) ∙ (and_parts (nat_le s.moment now) (call_fits s conn now o (pending_at s.tables conn)) parts.0).1;
      found = found.1;
      same = ap (λ x. x.0) found.2 ∙ same_reply-is given.0.0 told same.0;
      is = ap (λ x. x.1) found.2 ∙ same.1;
    }

-- the transfers of a connection that goes down
pub leave-made : (s : State) (conn : ℕ) (moves : List Transfer) (o : Option Pending) → may_leave s.tables s conn moves o ≡ true
    → (moves ≡ []) ⊎ ((p : Pending) × (o ≡ Some p) × MadePart s.tables s.wire conn p moves)
leave-made s conn moves None h = inl (nothing-is moves h)
leave-made s conn moves (Some p) h = by (may-made-parts s.tables s.wire conn p moves h) where
  by : MadeAny s.tables s.wire conn p moves → (moves ≡ []) ⊎ ((q : Pending) × (Some p ≡ Some q) × MadePart s.tables s.wire conn q moves)
  by (inl e) = inl e
  by (inr m) = inr (p, refl, m)
