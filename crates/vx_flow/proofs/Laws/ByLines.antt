-- An answer is given by one line of the order of answers, and each line gives one.
use Rattle.std.proofs.Common.{◌≡◌, ◌==◌, ℕ, Bool, true, false, cond, ◌⊎◌, inl, inr, Option, Some, None, refl, sym, ap, ◌∙◌, subst}
use Rattle.std.specs.Prelude.{is_some, is_none, not, ◌&&◌, ◌||◌, if◌then◌else◌}
use Rattle.std.specs.Option.{option_map}
use Rattle.std.specs.List.{list_any}
use Rattle.std.proofs.lemmas.Bool.{and_parts, and_from, or_right, not-true, eqb-true, true≢false, false≢true, cond-true, cond-false}
use Rattle.std.proofs.lemmas.Option.{cond_some, same_Some}
use Rattle.vx_lemmas.proofs.Laws.Conditions.{chosen, eqb-self}
use Rattle.vx_lemmas.proofs.Laws.Options.{mapped, none-is}
use Rattle.vx_calls.specs.declared.codes.ErrorCode.{ErrorCode}
use Rattle.vx_calls.specs.declared.codes.ErrorCode.TheVariants as code
use Rattle.vx_calls.specs.Call.{Call}
use Rattle.vx_calls.specs.Call as call
use Rattle.vx_calls.specs.Reply.{Reply}
use Rattle.vx_calls.specs.Reply as reply
use Rattle.vx_488.specs.declared.wire.Wire.{Wire}
use Rattle.vx_plan.specs.declared.tasks.Task.{Task}
use Rattle.vx_plan.specs.Plan.{Stand, Whole, Part, Off}
use Rattle.vx_plan.specs.Roles.{has_role}
use Rattle.vx_plan.specs.Results.{whole_reply}
use Rattle.vx_rules.specs.SrqState.{with_new_channel}
use Rattle.vx_rules.specs.State.{Pending, Tables}
use Rattle.vx_rules.specs.Calls.{is_bus_call, is_lock_call, asks_dial, bytes_of, is_big, io_timeout_of, has_passed}
use Rattle.vx_rules.specs.Checks.{NamedLink, NoLink, DeadLink, OnLink, named_link, check}
use Rattle.vx_rules.specs.Lines.{Bar, Behind, Admission, Refused, Passed, kept_off, waits_at, holder_against, ahead_of, bar_by, bar_against, lock_request, lock_lines, checked_lines, first_lines_in}
use Rattle.vx_rules.specs.Effects.{stopped_reply, effect, settle}
use Rattle.vx_rules.specs.Decide.{BusInput, is_quiet, stand_on, level_fits, turn_answer, job_answer, bus_answer, dialed_answer, passed_answer, by_lines, settles, decide_in, has_job_role}
use Rattle.vx_rules.proofs.Laws.{bus-job, no-job, dial-no-bus}
use Rattle.vx_rules.proofs.Laws.Walks.{unbarred}
use Rattle.vx_flow.specs.InterleavedState.{Turn, InterleavedState, turn_of, begun_of, moves_of}
use Rattle.vx_flow.specs.InterleavedStep.{job_of, on_conflict, turn_target, busy_with, waits_for, waits_for_turn, wire_for, bus_input, may_answer, passes_lines, is_answered, is_passed}
use Rattle.vx_flow.specs.Does.{IsAdmitted, IsClear, IsStill, Stops, IsDialed, HasTurn, AnsweredBy, ByAbort, ByNoLink, ByCheck, ByBar, ByDialUp, ByDialDown, ByEffect, ByNoRole, ByFault, ByWhole, ByTimeout}
use Rattle.vx_flow.proofs.Laws.Jobs.{job-link, no-dial}

-- ---- the first lines

-- what the lines say of a call that they let pass
pub passed-is : (l : Admission) → is_passed l ≡ true → l ≡ Passed
passed-is Passed h = refl
passed-is _ h = absurd (false≢true h)

-- they let a call pass only where it isn't marked and the lines behind that of the abort let it pass
pub passed-parts : (p : Pending) (later : Admission) → cond p.aborted (Refused code.Abort) later ≡ Passed → (p.aborted ≡ false) × (later ≡ Passed)
passed-parts p later h = by p.aborted h where
  by : (b : Bool) → cond b (Refused code.Abort) later ≡ Passed → (b ≡ false) × (later ≡ Passed)
  by true x = cc
  by false x = (refl, x)

-- those let it pass only where neither a check nor a lock is against it, and no other call stands in line before it
pub lines-both : (p : Pending) (now : ℕ) (refused : Option ErrorCode) (holder first : Option ℕ) → checked_lines p now refused (bar_by holder first) ≡ Passed
    → (refused ≡ None) × (holder ≡ None) × (first ≡ None)
lines-both p now (Some error) holder first h = cc
lines-both p now None holder first h = by (bar_by holder first) refl h where
  kept : (bar : Bar) (b : Bool) → kept_off bar b ≡ Passed → ⊥
  kept bar true e = cc
  kept bar false e = cc

  by : (bar : Option Bar) → bar_by holder first ≡ bar → lock_lines p now bar ≡ Passed → (◌≡◌ {A = Option ErrorCode} None None) × (holder ≡ None) × (first ≡ None)
  by None is e = let none = unbarred holder first is in (refl, none.0, none.1)
  by (Some bar) is e = absurd (kept bar (waits_at p now) e)

-- and refuse it only with the error of its check, or with that of a lock
checked-refuses : (p : Pending) (now : ℕ) (refused : Option ErrorCode) (bar : Option Bar) (error : ErrorCode) → checked_lines p now refused bar ≡ Refused error
    → (refused ≡ Some error) ⊎ (error ≡ code.Locked)
checked-refuses p now (Some e) bar error h = inl (by h) where
  by : Refused e ≡ Refused error → Some e ≡ Some error
  by x = cc
checked-refuses p now None None error h = cc
checked-refuses p now None (Some bar) error h = inr (by _ h) where
  by : (b : Bool) → kept_off bar b ≡ Refused error → error ≡ code.Locked
  by true e = cc
  by false e = cc

-- the first lines refuse a call only with the error of an abort, of its check or of a lock
pub first-refuses : (t : Tables) (busy : Option ℕ) (own conn : ℕ) (settling : Bool) (p : Pending) (now : ℕ) (error : ErrorCode)
    → first_lines_in t busy own conn settling p now ≡ Refused error
    → (error ≡ code.Abort) ⊎ ((check t own conn settling (named_link t conn p.call) p.call ≡ Some error) ⊎ (error ≡ code.Locked))
first-refuses t busy own conn settling p now error h = by p.aborted h where
  bar : Option Bar
  bar = bar_against t busy own now conn (named_link t conn p.call) p.call

  by : (aborted : Bool) → cond aborted (Refused code.Abort) (checked_lines p now (check t own conn settling (named_link t conn p.call) p.call) bar) ≡ Refused error
      → (error ≡ code.Abort) ⊎ ((check t own conn settling (named_link t conn p.call) p.call ≡ Some error) ⊎ (error ≡ code.Locked))
  by true x = inl (marked x) where
    marked : Refused code.Abort ≡ Refused error → error ≡ code.Abort
    marked y = cc
  by false x = inr (checked-refuses p now (check t own conn settling (named_link t conn p.call) p.call) bar error x)

-- What the order of answers gives a call behind the first lines: they refuse it, and nothing comes from outside, or let it pass.
pub data Gives (t : Tables) (w : Wire) (conn : ℕ) (p : Pending) (now : ℕ) (o : BusInput) (d : Reply × Tables) (l : Admission) : Type 0 where
  ByRefusal : (error : ErrorCode) → l ≡ Refused error → is_quiet o ≡ true → (stopped_reply p.call error o.moves, t) ≡ d → Gives t w conn p now o d l
  ByPassing : l ≡ Passed → passed_answer t w conn p now o ≡ Some d → Gives t w conn p now o d l

-- it gives nothing else
pub gives : (t : Tables) (w : Wire) (conn : ℕ) (p : Pending) (now : ℕ) (o : BusInput) (d : Reply × Tables) (l : Admission) → by_lines t w conn p now o l ≡ Some d
    → Gives t w conn p now o d l
gives t w conn p now o d (Refused error) h =
    let parts = cond_some (is_quiet o) (stopped_reply p.call error o.moves, t) d h in
    ByRefusal error refl parts.0 parts.1
gives t w conn p now o d Passed h = ByPassing refl h
gives t w conn p now o d _ h = cc

-- it gives the same on two buses on which a call that passed is answered alike
pub gives-alike : (t : Tables) (w b : Wire) (conn : ℕ) (p : Pending) (now : ℕ) (o : BusInput) (l : Admission)
    → (l ≡ Passed → passed_answer t w conn p now o ≡ passed_answer t b conn p now o) → by_lines t w conn p now o l ≡ by_lines t b conn p now o l
gives-alike t w b conn p now o Passed same = same refl
gives-alike t w b conn p now o _ same = refl

-- what the first lines' letting a call pass says
pub admit : (t : Tables) (busy : Option ℕ) (own conn : ℕ) (settling : Bool) (p : Pending) (now : ℕ) → first_lines_in t busy own conn settling p now ≡ Passed
    → IsAdmitted t busy own conn settling p now
admit t busy own conn settling p now h = by p.aborted refl h where
  by : (aborted : Bool) → p.aborted ≡ aborted
      → cond aborted (Refused code.Abort)
      (checked_lines p now (check t own conn settling (named_link t conn p.call) p.call) (bar_against t busy own now conn (named_link t conn p.call) p.call)) ≡ Passed
      → IsAdmitted t busy own conn settling p now
  by true e h = cc
  by false e h =
      let parts = lines-both p now (check t own conn settling (named_link t conn p.call) p.call) (holder_against t own (named_link t conn p.call) p.call)
      (ahead_of t busy own now conn (named_link t conn p.call) p.call) h in
      record { unmarked = e; checked = parts.0; unlocked = parts.1; first = parts.2 }

-- the lines of a call that isn't marked
unmarked-lines : (t : Tables) (busy : Option ℕ) (own conn : ℕ) (settling : Bool) (p : Pending) (now : ℕ) (error : Option ErrorCode) (bar : Option Bar) → p.aborted ≡ false
    → check t own conn settling (named_link t conn p.call) p.call ≡ error → bar_against t busy own now conn (named_link t conn p.call) p.call ≡ bar
    → first_lines_in t busy own conn settling p now ≡ checked_lines p now error bar
unmarked-lines t busy own conn settling p now error bar unmarked checked kept =
    cond-false p.aborted (Refused code.Abort)
    (checked_lines p now (check t own conn settling (named_link t conn p.call) p.call) (bar_against t busy own now conn (named_link t conn p.call) p.call)) unmarked
    ∙ ap (λ c. checked_lines p now c (bar_against t busy own now conn (named_link t conn p.call) p.call)) checked
    ∙ ap (checked_lines p now error) kept

-- and back
pub admitted-passes : (t : Tables) (busy : Option ℕ) (own conn : ℕ) (settling : Bool) (p : Pending) (now : ℕ) → IsAdmitted t busy own conn settling p now
    → first_lines_in t busy own conn settling p now ≡ Passed
admitted-passes t busy own conn settling p now a =
    unmarked-lines t busy own conn settling p now None None a.unmarked a.checked
    (ap (λ held. bar_by held (ahead_of t busy own now conn (named_link t conn p.call) p.call)) a.unlocked ∙ ap (option_map Behind) a.first)

-- ---- what comes from outside

-- what is quiet is still
still : (o : BusInput) → is_quiet o ≡ true → IsStill o
still o h =
    let first = and_parts (not o.failed && is_none o.dialed) (not o.level) h in
    let second = and_parts (not o.failed) (is_none o.dialed) first.0 in
    record { held = not-true o.failed second.0; undialed = none-is o.dialed second.1; untold = not-true o.level first.1 }

-- and back
still-quiet : (o : BusInput) → IsStill o → is_quiet o ≡ true
still-quiet o s =
    and_from (not o.failed && is_none o.dialed) (not o.level) (and_from (not o.failed) (is_none o.dialed) (ap not s.held) (ap is_none s.undialed)) (ap not s.untold)

-- ---- the turn of a connection

-- a connection's turn is the one under way
pub turn-is : (turn : Option Turn) (conn : ℕ) (u : Turn) → turn_of turn conn ≡ Some u → (turn ≡ Some u) × (u.connection ≡ conn)
turn-is None conn u h = cc
turn-is (Some v) conn u h =
    let parts = cond_some (v.connection == conn) v u h in
    (ap Some parts.1, subst (λ (x : Turn). x.connection ≡ conn) parts.1 (eqb-true v.connection conn parts.0))

-- and back
pub turn-own : (turn : Option Turn) (conn : ℕ) (u : Turn) → turn ≡ Some u → u.connection ≡ conn → turn_of turn conn ≡ Some u
turn-own turn conn u is of =
    ap (λ t. turn_of t conn) is ∙ cond-true (u.connection == conn) (Some u) None (ap (λ c. c == conn) of ∙ eqb-self conn)

-- a connection waits for no turn of its own
own-free : (t : Tables) (own conn : ℕ) (p : Pending) (u : Turn) → u.connection ≡ conn → waits_for t own conn p u ≡ false
own-free t own conn p u of =
    ap (λ b. not b && (is_bus_call p.call || (is_lock_call p.call && on_conflict (lock_request own (named_link t conn p.call) p.call) (turn_target t u))))
    (ap (λ c. c == conn) of ∙ eqb-self conn)

-- ---- from the answer to its line

module _ (f : InterleavedState) (conn now : ℕ) (p : Pending) (failed : Bool) (dialed : Option Bool) (level : Bool) where
  abbrev o : BusInput
  o = bus_input f conn failed dialed level

  abbrev t : Tables
  t = f.state.tables

  abbrev own : ℕ
  own = (wire_for f conn).own

  -- the connection whose turn is under way
  abbrev busy : Option ℕ
  busy = busy_with f.turn

  -- a refusal
  stops : (error : ErrorCode) (d : Reply × Tables) → cond (is_quiet o) (Some (stopped_reply p.call error o.moves, t)) None ≡ Some d
      → IsStill o × Stops f p o error d.0 d.1
  stops error d h =
      let parts = cond_some (is_quiet o) (stopped_reply p.call error o.moves, t) d h in
      (still o parts.0, record { reply_is = ap (λ x. x.0) (sym parts.1); same = ap (λ x. x.1) (sym parts.1) })

  -- by the link or a check
  refused-by : (about : NamedLink) (error : ErrorCode) (told : Reply) (after : Tables) → named_link t conn p.call ≡ about → p.aborted ≡ false
      → check t own conn false about p.call ≡ Some error → IsStill o → Stops f p o error told after → AnsweredBy f conn now p o told after
  refused-by DeadLink error told after is unmarked checked quiet stopped =
      ByNoLink unmarked is quiet (subst (λ e. Stops f p o e told after) (sym (same_Some code.InvalidLink error checked)) stopped)
  refused-by NoLink error told after is unmarked checked quiet stopped =
      ByCheck error unmarked (λ e. not_dead (sym is ∙ e)) (ap (λ a. check t own conn false a p.call) is ∙ checked) quiet stopped
    where
      not_dead : NoLink ≡ DeadLink → ⊥
      not_dead e = cc
  refused-by (OnLink l) error told after is unmarked checked quiet stopped =
      ByCheck error unmarked (λ e. not_dead (sym is ∙ e)) (ap (λ a. check t own conn false a p.call) is ∙ checked) quiet stopped
    where
      not_dead : OnLink l ≡ DeadLink → ⊥
      not_dead e = cc

  -- a dial that is told
  dialed-by : (asked : Call) (up : Bool) (d : Reply × Tables) → p.call ≡ asked → dialed ≡ Some up → IsClear f conn true p now → list_any (λ n. n == conn) f.dialed ≡ true
      → failed ≡ false → level ≡ false → settle t conn asked up ≡ Some d → AnsweredBy f conn now p o d.0 d.1
  dialed-by (call.CreateIntr host port program version family) true d is told clear wanted held untold h =
      let e = same_Some (reply.Error code.Ok, record t { srq_state = with_new_channel t.srq_state conn program version }) d h in
      ByDialUp clear
      (record { host = host; port = port; program = program; version = version; family = family; asks = is; wanted = wanted; told_so = told; held = held; untold = untold })
      (ap (λ x. x.0) (sym e)) (ap (λ x. x.1) (sym e))
  dialed-by (call.CreateIntr host port program version family) false d is told clear wanted held untold h =
      let e = same_Some (reply.Error code.NoChannel, t) d h in
      ByDialDown clear
      (record { host = host; port = port; program = program; version = version; family = family; asks = is; wanted = wanted; told_so = told; held = held; untold = untold })
      (ap (λ x. x.0) (sym e)) (ap (λ x. x.1) (sym e))
  dialed-by _ up d is told clear wanted held untold h = cc

  -- the turn that a bus call with the role has
  own-role : (job : Task) → job_of t conn p ≡ Some job → has_role job (wire_for f conn) ≡ true
      → (is_some (turn_of f.turn conn) || not (has_job_role f.state.wire (job_of t conn p))) ≡ true → (h : HasTurn f conn p) × (h.job ≡ job) × (turn_of f.turn conn ≡ Some h.turn)
  own-role job has role free = by (turn_of f.turn conn) refl where
    by : (own : Option Turn) → turn_of f.turn conn ≡ own → (h : HasTurn f conn p) × (h.job ≡ job) × (turn_of f.turn conn ≡ Some h.turn)
    by None e =
        let wire : wire_for f conn ≡ f.state.wire = ap (λ own. if is_some own then f.before else f.state.wire) e in
        let roleless : not (has_job_role f.state.wire (job_of t conn p)) ≡ true = sym (ap (λ own. is_some own || not (has_job_role f.state.wire (job_of t conn p))) e) ∙ free in
        let in_role : has_job_role f.state.wire (job_of t conn p) ≡ true = ap (has_job_role f.state.wire) has ∙ ap (has_role job) (sym wire) ∙ role in
        absurd (true≢false (sym in_role ∙ not-true (has_job_role f.state.wire (job_of t conn p)) roleless))
    by (Some u) e =
        let parts = turn-is f.turn conn u e in
        let wire : wire_for f conn ≡ f.before = ap (λ own. if is_some own then f.before else f.state.wire) e in
        (record { turn = u; under_way = parts.0; of_call = parts.1; job = job; has_job = has; in_role = ap (has_role job) (sym wire) ∙ role }, refl, e)

  -- the bus that it is measured on
  own-wire : (u : Turn) → turn_of f.turn conn ≡ Some u → wire_for f conn ≡ f.before
  own-wire u e = ap (λ own. if is_some own then f.before else f.state.wire) e

  own-moves : (u : Turn) → turn_of f.turn conn ≡ Some u → o.moves ≡ u.moves
  own-moves u e = ap moves_of e

  -- a turn's answer, by where its list stands
  turn-by : (h : HasTurn f conn p) (r : Reply) (s : Stand) → turn_of f.turn conn ≡ Some h.turn → IsClear f conn false p now → dialed ≡ None
      → stand_on (wire_for f conn) p.call h.job o.moves ≡ s → turn_answer (wire_for f conn) p now o h.job s ≡ Some r → AnsweredBy f conn now p o r t
  turn-by h r Whole own_is clear undialed stands given =
      let parts = cond_some (not failed && level_fits h.job level) (whole_reply h.job (bytes_of p.call) (wire_for f conn) (is_big p.call) level o.moves) r given in
      let tests = and_parts (not failed) (level_fits h.job level) parts.0 in
      ByWhole clear (record {
        own = h;
        whole = sym (stand-same h own_is) ∙ stands;
        held = not-true failed tests.0;
        undialed = undialed;
        level_is = tests.1;
        reply_is =
            sym parts.1
            ∙ ap (λ w. whole_reply h.job (bytes_of p.call) w (is_big p.call) level o.moves) (own-wire h.turn own_is)
            ∙ ap (λ ms. whole_reply h.job (bytes_of p.call) f.before (is_big p.call) level ms) (own-moves h.turn own_is);
        same = refl;
      })
    where
      stand-same : (h : HasTurn f conn p) → turn_of f.turn conn ≡ Some h.turn
          → stand_on (wire_for f conn) p.call h.job o.moves ≡ stand_on f.before p.call h.job h.turn.moves
      stand-same h e = ap (λ w. stand_on w p.call h.job o.moves) (own-wire h.turn e) ∙ ap (stand_on f.before p.call h.job) (own-moves h.turn e)
  turn-by h r Part own_is clear undialed stands given = by level failed refl refl given where
    stand-same : stand_on (wire_for f conn) p.call h.job o.moves ≡ stand_on f.before p.call h.job h.turn.moves
    stand-same = ap (λ w. stand_on w p.call h.job o.moves) (own-wire h.turn own_is) ∙ ap (stand_on f.before p.call h.job) (own-moves h.turn own_is)

    late : Bool
    late = has_passed (io_timeout_of p.call) o.begun now

    timed : (b : Bool) → late ≡ b → failed ≡ false → level ≡ false → cond b (Some (stopped_reply p.call code.Timeout o.moves)) None ≡ Some r → AnsweredBy f conn now p o r t
    timed false e held untold x = cc
    timed true e held untold x =
        ByTimeout clear
        (record {
          own = h;
          part = sym stand-same ∙ stands;
          still = record { held = held; undialed = undialed; untold = untold };
          passed = ap (λ u. has_passed (io_timeout_of p.call) (begun_of u) now) (sym own_is) ∙ e;
        })
        (record { reply_is = sym (same_Some (stopped_reply p.call code.Timeout o.moves) r x); same = refl })

    by : (told broke : Bool) → level ≡ told → failed ≡ broke
        → cond told None (cond broke (Some (stopped_reply p.call code.BusFault o.moves)) (cond late (Some (stopped_reply p.call code.Timeout o.moves)) None)) ≡ Some r
        → AnsweredBy f conn now p o r t
    by true broke a b x = cc
    by false true a b x =
        ByFault clear (record { own = h; part = sym stand-same ∙ stands; failed = b; undialed = undialed; untold = a })
        (record { reply_is = sym (same_Some (stopped_reply p.call code.BusFault o.moves) r x); same = refl })
    by false false a b x = timed late refl b a x
  turn-by h r Off own_is clear undialed stands given = cc

  -- a bus call's answer
  job-by : (job : Task) (r : Reply) → job_of t conn p ≡ Some job → IsClear f conn (settles o) p now
      → (is_some (turn_of f.turn conn) || not (has_job_role f.state.wire (job_of t conn p))) ≡ true
      → job_answer (wire_for f conn) p now o job ≡ Some r → AnsweredBy f conn now p o r t
  job-by job r has clear free given = by (has_role job (wire_for f conn)) refl given where
    unsettled : dialed ≡ None → IsClear f conn false p now
    unsettled e = subst (λ d. IsClear f conn (is_some d) p now) e clear

    turned : (b : Bool) → is_none dialed ≡ b → has_role job (wire_for f conn) ≡ true
        → cond b (turn_answer (wire_for f conn) p now o job (stand_on (wire_for f conn) p.call job o.moves)) None ≡ Some r → AnsweredBy f conn now p o r t
    turned false e role x = cc
    turned true e role x =
        let own_is = own-role job has role free in
        let undialed = none-is dialed e in
        let same : job ≡ own_is.0.job = sym own_is.1 in
        turn-by own_is.0 r (stand_on (wire_for f conn) p.call own_is.0.job o.moves) own_is.2 (unsettled undialed) undialed refl
        (subst (λ j. turn_answer (wire_for f conn) p now o j (stand_on (wire_for f conn) p.call j o.moves) ≡ Some r) same x)

    by : (role : Bool) → has_role job (wire_for f conn) ≡ role
        → cond role (cond (is_none dialed) (turn_answer (wire_for f conn) p now o job (stand_on (wire_for f conn) p.call job o.moves)) None)
        (cond (is_quiet o) (Some (stopped_reply p.call code.BusFault o.moves)) None) ≡ Some r
        → AnsweredBy f conn now p o r t
    by true role x = turned (is_none dialed) refl role x
    by false role x =
        let parts = cond_some (is_quiet o) (stopped_reply p.call code.BusFault o.moves) r x in
        let quiet = still o parts.0 in
        ByNoRole job (unsettled quiet.undialed) has role quiet (record { reply_is = sym parts.1; same = refl })

  -- a call that passed
  passed-by : (d : Reply × Tables) → IsAdmitted t busy own conn (settles o) p now → may_answer f conn p o ≡ true → passed_answer t (wire_for f conn) conn p now o ≡ Some d
      → AnsweredBy f conn now p o d.0 d.1
  passed-by d admitted may h = by (asks_dial p.call) (is_bus_call p.call) refl refl h where
    waits : Bool
    waits = waits_for_turn t own conn p f.turn

    role : Bool
    role = is_some (turn_of f.turn conn) || not (has_job_role f.state.wire (job_of t conn p))

    wanted : Bool
    wanted = is_none dialed || list_any (λ n. n == conn) f.dialed

    tests : ((not waits && role) ≡ true) × (wanted ≡ true)
    tests = and_parts (not waits && role) wanted may

    clear : IsClear f conn (settles o) p now
    clear = record { admitted = admitted; alone = not-true waits (and_parts (not waits) role tests.0).0 }

    dial : (tells : Option Bool) → dialed ≡ tells → (is_none tells || list_any (λ n. n == conn) f.dialed) ≡ true → dialed_answer t conn p o tells ≡ Some d → AnsweredBy f conn now p o d.0 d.1
    dial None e asked x = cc
    dial (Some up) e asked x =
        let parts = chosen (not failed && not level) (settle t conn p.call up) d x in
        let quiet = and_parts (not failed) (not level) parts.0 in
        dialed-by p.call up d refl e (subst (λ tells. IsClear f conn (is_some tells) p now) e clear) asked (not-true failed quiet.0) (not-true level quiet.1) parts.1

    bus_by : (job : Option Task) → job_of t conn p ≡ job → option_map (λ (given : Reply). (given, t)) (bus_answer (wire_for f conn) p now o job) ≡ Some d → AnsweredBy f conn now p o d.0 d.1
    bus_by None e x = cc
    bus_by (Some job) e x =
        let found = mapped (λ (given : Reply). (given, t)) (job_answer (wire_for f conn) p now o job) d x in
        subst (λ (y : Reply × Tables). AnsweredBy f conn now p o y.0 y.1) found.2
        (job-by job found.0 e clear (and_parts (not waits) role tests.0).1 found.1)

    by : (asks bus : Bool) → asks_dial p.call ≡ asks → is_bus_call p.call ≡ bus
        → cond asks (dialed_answer t conn p o dialed)
        (cond bus (option_map (λ (given : Reply). (given, t)) (bus_answer (wire_for f conn) p now o (job_of t conn p)))
        (cond (is_quiet o) (effect t own conn (named_link t conn p.call) p.call) None)) ≡ Some d
        → AnsweredBy f conn now p o d.0 d.1
    by true bus a b x = dial dialed refl tests.1 x
    by false true a b x = bus_by (job_of t conn p) refl x
    by false false a b x =
        let parts = chosen (is_quiet o) (effect t own conn (named_link t conn p.call) p.call) d x in
        let quiet = still o parts.0 in
        ByEffect (subst (λ tells. IsClear f conn (is_some tells) p now) quiet.undialed clear) b a quiet parts.1

  -- an answer that was decided, where the call may be answered
  pub decided-by : (d : Reply × Tables) → is_answered f conn now o (Some p) ≡ true → decide_in t busy (wire_for f conn) conn p now o ≡ Some d
      → AnsweredBy f conn now p o d.0 d.1
  decided-by d may h =
      by p.aborted (check t own conn (settles o) (named_link t conn p.call) p.call) (bar_against t busy own now conn (named_link t conn p.call) p.call) refl refl refl may h
    where
      by : (aborted : Bool) (error : Option ErrorCode) (bar : Option Bar) → p.aborted ≡ aborted
          → check t own conn (settles o) (named_link t conn p.call) p.call ≡ error → bar_against t busy own now conn (named_link t conn p.call) p.call ≡ bar
          → passes_lines f conn p o (cond aborted (Refused code.Abort) (checked_lines p now error bar)) ≡ true
          → by_lines t (wire_for f conn) conn p now o (cond aborted (Refused code.Abort) (checked_lines p now error bar)) ≡ Some d
          → AnsweredBy f conn now p o d.0 d.1
      by true error bar a b c may h = let stopped = stops code.Abort d h in ByAbort a stopped.0 stopped.1
      by false (Some error) bar a b c may h =
          let stopped = stops error d h in
          refused-by (named_link t conn p.call) error d.0 d.1 refl a
          (ap (λ tells. check t own conn (is_some tells) (named_link t conn p.call) p.call) (sym stopped.0.undialed) ∙ b) stopped.0 stopped.1
      by false None (Some bar) a b c may h = kept (waits_at p now) refl h where
        kept : (waits : Bool) → waits_at p now ≡ waits → by_lines t (wire_for f conn) conn p now o (kept_off bar waits) ≡ Some d
            → AnsweredBy f conn now p o d.0 d.1
        kept true e h = cc
        kept false e h =
            let stopped = stops code.Locked d h in
            ByBar bar a (ap (λ tells. check t own conn (is_some tells) (named_link t conn p.call) p.call) (sym stopped.0.undialed) ∙ b) c e stopped.0 stopped.1
      by false None None a b c may h =
          let free = unbarred (holder_against t own (named_link t conn p.call) p.call) (ahead_of t busy own now conn (named_link t conn p.call) p.call) c in
          passed-by d (record { unmarked = a; checked = b; unlocked = free.0; first = free.1 }) may h

  -- ---- from the line to the answer

  -- the call may be answered so, and this is decided
  pub record Decided (told : Reply) (after : Tables) : Type 0 where
    pub may : is_answered f conn now o (Some p) ≡ true
    pub found : decide_in t busy (wire_for f conn) conn p now o ≡ Some (told, after)

  -- by a refusal of the first lines
  refused-gives : (error : ErrorCode) (told : Reply) (after : Tables) → first_lines_in t busy own conn (settles o) p now ≡ Refused error → IsStill o
      → Stops f p o error told after → Decided told after
  refused-gives error told after is quiet stopped = record {
    may = ap (passes_lines f conn p o) is;
    found =
        ap (by_lines t (wire_for f conn) conn p now o) is
        ∙ cond-true (is_quiet o) (Some (stopped_reply p.call error o.moves, t)) None (still-quiet o quiet)
        ∙ ap (λ r. Some (r, t)) (sym stopped.reply_is)
        ∙ ap (λ u. Some (told, u)) (sym stopped.same);
  }

  -- by what answers a call that they let pass
  passed-gives : (told : Reply) (after : Tables) → IsClear f conn (settles o) p now
      → (is_some (turn_of f.turn conn) || not (has_job_role f.state.wire (job_of t conn p))) ≡ true
      → (is_none dialed || list_any (λ n. n == conn) f.dialed) ≡ true → passed_answer t (wire_for f conn) conn p now o ≡ Some (told, after) → Decided told after
  passed-gives told after clear role wanted given =
      let passed = admitted-passes t busy own conn (settles o) p now clear.admitted in
      let waits = waits_for_turn t own conn p f.turn in
      record {
        may =
            ap (passes_lines f conn p o) passed
            ∙ and_from (not waits && (is_some (turn_of f.turn conn) || not (has_job_role f.state.wire (job_of t conn p)))) (is_none dialed || list_any (λ n. n == conn) f.dialed)
            (and_from (not waits) (is_some (turn_of f.turn conn) || not (has_job_role f.state.wire (job_of t conn p))) (ap not clear.alone) role) wanted;
        found = ap (by_lines t (wire_for f conn) conn p now o) passed ∙ given;
      }

  -- a call that needs no bus needs no role
  no-role : is_bus_call p.call ≡ false → (is_some (turn_of f.turn conn) || not (has_job_role f.state.wire (job_of t conn p))) ≡ true
  no-role bus = or_right (is_some (turn_of f.turn conn)) _ (ap (λ job. not (has_job_role f.state.wire job)) (no-job (named_link t conn p.call) p.call bus))

  -- a call that asks for no dial and has a job is answered by its job
  job-passed : (job : Task) → job_of t conn p ≡ Some job → passed_answer t (wire_for f conn) conn p now o ≡ option_map (λ (given : Reply). (given, t)) (job_answer (wire_for f conn) p now o job)
  job-passed job has =
      let link = job-link (named_link t conn p.call) p.call job has in
      let bus = bus-job link.0.target p.call job link.2 in
      cond-false (asks_dial p.call) (dialed_answer t conn p o dialed) _ (no-dial p.call bus)
      ∙ cond-true (is_bus_call p.call) (option_map (λ (given : Reply). (given, t)) (bus_answer (wire_for f conn) p now o (job_of t conn p))) _ bus
      ∙ ap (λ job. option_map (λ (given : Reply). (given, t)) (bus_answer (wire_for f conn) p now o job)) has

  -- by its turn
  turn-gives : (h : HasTurn f conn p) (told : Reply) (after : Tables) (s : Stand) → IsClear f conn false p now → dialed ≡ None → after ≡ t
      → stand_on f.before p.call h.job h.turn.moves ≡ s → turn_answer f.before p now (record { begun = h.turn.begun; moves = h.turn.moves; failed = failed; dialed = dialed; level = level }) h.job s ≡ Some told
      → Decided told after
  turn-gives h told after s clear undialed same stands given =
      let own_is = turn-own f.turn conn h.turn h.under_way h.of_call in
      let wire = own-wire h.turn own_is in
      let inner : BusInput = record { begun = h.turn.begun; moves = h.turn.moves; failed = failed; dialed = dialed; level = level } in
      let outer : o ≡ inner = ap (λ own. record { begun = begun_of own; moves = moves_of own; failed = failed; dialed = dialed; level = level }) own_is in
      let answers : job_answer (wire_for f conn) p now o h.job ≡ Some told =
      ap (λ w. job_answer w p now o h.job) wire
      ∙ ap (λ x. job_answer f.before p now x h.job) outer
      ∙ cond-true (has_role h.job f.before) (cond (is_none dialed) (turn_answer f.before p now inner h.job (stand_on f.before p.call h.job h.turn.moves)) None) _ h.in_role
      ∙ ap (λ d. cond (is_none d) (turn_answer f.before p now inner h.job (stand_on f.before p.call h.job h.turn.moves)) None) undialed
      ∙ ap (turn_answer f.before p now inner h.job) stands
      ∙ given in
      passed-gives told after (subst (λ d. IsClear f conn (is_some d) p now) (sym undialed) clear)
      (ap (λ own. is_some own || not (has_job_role f.state.wire (job_of t conn p))) own_is)
      (ap (λ d. is_none d || list_any (λ n. n == conn) f.dialed) undialed)
      (job-passed h.job h.has_job ∙ ap (option_map (λ (r : Reply). (r, t))) answers ∙ ap (λ u. Some (told, u)) (sym same))

  -- a bus call that hasn't the role waits for no turn of its own
  roleless : (job : Task) → job_of t conn p ≡ Some job → has_role job (wire_for f conn) ≡ false
      → (is_some (turn_of f.turn conn) || not (has_job_role f.state.wire (job_of t conn p))) ≡ true
  roleless job has role = by (turn_of f.turn conn) refl where
    by : (own : Option Turn) → turn_of f.turn conn ≡ own → (is_some (turn_of f.turn conn) || not (has_job_role f.state.wire (job_of t conn p))) ≡ true
    by (Some u) e = ap (λ own. is_some own || not (has_job_role f.state.wire (job_of t conn p))) e
    by None e =
        let wire : wire_for f conn ≡ f.state.wire = ap (λ own. if is_some own then f.before else f.state.wire) e in
        or_right (is_some (turn_of f.turn conn)) (not (has_job_role f.state.wire (job_of t conn p)))
        (ap not (ap (has_job_role f.state.wire) has ∙ ap (has_role job) (sym wire) ∙ role))

  -- a dial that is told decides
  dial-gives : (up : Bool) (told : Reply) (after : Tables) → IsClear f conn true p now → IsDialed f conn p o up → settle t conn p.call up ≡ Some (told, after) → Decided told after
  dial-gives up told after clear d given =
      let asks : asks_dial p.call ≡ true = ap asks_dial d.asks in
      passed-gives told after (subst (λ tells. IsClear f conn (is_some tells) p now) (sym d.told_so) clear) (no-role (dial-no-bus p.call asks))
      (ap (λ tells. is_none tells || list_any (λ n. n == conn) f.dialed) d.told_so ∙ d.wanted)
      (cond-true (asks_dial p.call) (dialed_answer t conn p o dialed) _ asks
      ∙ ap (dialed_answer t conn p o) d.told_so
      ∙ cond-true (not failed && not level) (settle t conn p.call up) None (and_from (not failed) (not level) (ap not d.held) (ap not d.untold))
      ∙ given)

  -- the answer of a turn whose time may have passed
  abbrev timeout : HasTurn f conn p → Option Reply
  timeout h = cond (has_passed (io_timeout_of p.call) h.turn.begun now) (Some (stopped_reply p.call code.Timeout h.turn.moves)) None

  -- the reply to a call whose turn is stopped
  stopped-own : (h : HasTurn f conn p) (error : ErrorCode) (told : Reply) (after : Tables) → Stops f p o error told after → stopped_reply p.call error h.turn.moves ≡ told
  stopped-own h error told after stopped =
      ap (stopped_reply p.call error) (sym (own-moves h.turn (turn-own f.turn conn h.turn h.under_way h.of_call))) ∙ sym stopped.reply_is

  -- each line decides its answer
  pub line-gives : (told : Reply) (after : Tables) → AnsweredBy f conn now p o told after → Decided told after
  line-gives told after (ByAbort marked quiet stopped) =
      refused-gives code.Abort told after
      (cond-true p.aborted (Refused code.Abort)
      (checked_lines p now (check t own conn (settles o) (named_link t conn p.call) p.call) (bar_against t busy own now conn (named_link t conn p.call) p.call)) marked)
      quiet stopped
  line-gives told after (ByNoLink unmarked dead quiet stopped) =
      refused-gives code.InvalidLink told after
      (unmarked-lines t busy own conn (settles o) p now (Some code.InvalidLink) (bar_against t busy own now conn (named_link t conn p.call) p.call) unmarked
      (ap (λ a. check t own conn (settles o) a p.call) dead) refl)
      quiet stopped
  line-gives told after (ByCheck error unmarked lives checked quiet stopped) =
      refused-gives error told after
      (unmarked-lines t busy own conn (settles o) p now (Some error) (bar_against t busy own now conn (named_link t conn p.call) p.call) unmarked
      (ap (λ d. check t own conn (is_some d) (named_link t conn p.call) p.call) quiet.undialed ∙ checked) refl)
      quiet stopped
  line-gives told after (ByBar bar unmarked checked kept waits quiet stopped) =
      refused-gives code.Locked told after
      (unmarked-lines t busy own conn (settles o) p now None (Some bar) unmarked
      (ap (λ d. check t own conn (is_some d) (named_link t conn p.call) p.call) quiet.undialed ∙ checked) kept
      ∙ ap (kept_off bar) waits)
      quiet stopped
  line-gives told after (ByDialUp clear d told_is after_is) = dial-gives true told after clear d
      (ap (λ c. settle t conn c true) d.asks ∙ ap (λ r. Some (r, record t { srq_state = with_new_channel t.srq_state conn d.program d.version })) (sym told_is) ∙ ap (λ u. Some (told, u)) (sym after_is))
  line-gives told after (ByDialDown clear d told_is after_is) = dial-gives false told after clear d
      (ap (λ c. settle t conn c false) d.asks ∙ ap (λ r. Some (r, t)) (sym told_is) ∙ ap (λ u. Some (told, u)) (sym after_is))
  line-gives told after (ByEffect clear bus dial quiet given) =
      passed-gives told after (subst (λ d. IsClear f conn (is_some d) p now) (sym quiet.undialed) clear) (no-role bus)
      (ap (λ d. is_none d || list_any (λ n. n == conn) f.dialed) quiet.undialed)
      (cond-false (asks_dial p.call) _ _ dial ∙ cond-false (is_bus_call p.call) _ _ bus
      ∙ cond-true (is_quiet o) (effect t own conn (named_link t conn p.call) p.call) None (still-quiet o quiet) ∙ given)
  line-gives told after (ByNoRole job clear has role quiet stopped) =
      passed-gives told after (subst (λ d. IsClear f conn (is_some d) p now) (sym quiet.undialed) clear) (roleless job has role)
      (ap (λ d. is_none d || list_any (λ n. n == conn) f.dialed) quiet.undialed)
      (job-passed job has
      ∙ ap (option_map (λ (r : Reply). (r, t)))
      (cond-false (has_role job (wire_for f conn)) _ (cond (is_quiet o) (Some (stopped_reply p.call code.BusFault o.moves)) None) role
      ∙ cond-true (is_quiet o) (Some (stopped_reply p.call code.BusFault o.moves)) None (still-quiet o quiet))
      ∙ ap (λ r. Some (r, t)) (sym stopped.reply_is)
      ∙ ap (λ u. Some (told, u)) (sym stopped.same))
  line-gives told after (ByFault clear b stopped) =
      turn-gives b.own told after Part clear b.undialed stopped.same b.part
      (ap (λ l. cond l None (cond failed (Some (stopped_reply p.call code.BusFault b.own.turn.moves)) (timeout b.own))) b.untold
      ∙ ap (λ x. cond x (Some (stopped_reply p.call code.BusFault b.own.turn.moves)) (timeout b.own)) b.failed
      ∙ ap Some (stopped-own b.own code.BusFault told after stopped))
  line-gives told after (ByWhole clear d) =
      turn-gives d.own told after Whole clear d.undialed d.same d.whole
      (cond-true (not failed && level_fits d.own.job level) (Some (whole_reply d.own.job (bytes_of p.call) f.before (is_big p.call) level d.own.turn.moves)) None
      (and_from (not failed) (level_fits d.own.job level) (ap not d.held) d.level_is)
      ∙ ap Some (sym d.reply_is))
  line-gives told after (ByTimeout clear b stopped) =
      turn-gives b.own told after Part clear b.still.undialed stopped.same b.part
      (ap (λ l. cond l None (cond failed (Some (stopped_reply p.call code.BusFault b.own.turn.moves)) (timeout b.own))) b.still.untold
      ∙ ap (λ x. cond x (Some (stopped_reply p.call code.BusFault b.own.turn.moves)) (timeout b.own)) b.still.held
      ∙ cond-true (has_passed (io_timeout_of p.call) b.own.turn.begun now) (Some (stopped_reply p.call code.Timeout b.own.turn.moves)) None b.passed
      ∙ ap Some (stopped-own b.own code.Timeout told after stopped))
