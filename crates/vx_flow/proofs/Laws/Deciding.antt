-- An answer is decided alike on the bus before the turn and on the present one, and its turn is such as one thread can have.
use Rattle.std.proofs.Common.{◌≡◌, ◌≤◌, ℕ, Bool, true, false, cond, ◌⊎◌, inl, inr, [], Option, Some, None, refl, sym, ap, ◌∙◌, arith}
use Rattle.std.specs.Prelude.{is_some, is_none, nat_le, ◌&&◌, ◌||◌}
use Rattle.std.specs.Option.{option_map, option_and_then}
use Rattle.std.proofs.lemmas.Bool.{cases_Bool, true≢false, and_from, or_left, or_right, cond-false, cond-true, le-leb}
use Rattle.vx_calls.specs.declared.codes.ErrorCode.{ErrorCode}
use Rattle.vx_calls.specs.declared.codes.ErrorCode.TheVariants as code
use Rattle.vx_calls.specs.Reply.{Reply, same_reply}
use Rattle.vx_488.specs.declared.wire.Wire.{Wire}
use Rattle.vx_488.specs.Wire.{wire_after}
use Rattle.vx_rules.specs.Table.{Link}
use Rattle.vx_rules.specs.Calls.{is_bus_call, asks_dial}
use Rattle.vx_rules.specs.State.{Pending, Tables, State, pending_at, with_pending}
use Rattle.vx_rules.specs.Checks.{OnLink, named_link, check}
use Rattle.vx_rules.specs.Lines.{Behind, Admission, Refused, Passed, first_ahead, ahead_of, bar_by, bar_against, lock_lines, checked_lines, later_lines_in, later_lines, first_lines_in, first_lines, is_first}
use Rattle.vx_rules.specs.Effects.{task_of, effect}
use Rattle.vx_rules.specs.Decide.{BusInput, is_quiet, stand_on, bus_answer, dialed_answer, by_lines, settles, decide_in, decide, is_nothing, begun_between, may_tell, has_job_role, may_have_made, lines_fit, turn_fits}
use Rattle.vx_rules.specs.Entry as entry
use Rattle.vx_rules.specs.AtomicStep.{atomic_step, answer, answer_to, answered, if_reply, call_fits}
use Rattle.vx_rules.proofs.Laws.{bus-job}
use Rattle.vx_flow.specs.InterleavedState.{Turn}
use Rattle.vx_flow.specs.InterleavedStep.{is_whole}
use Rattle.vx_flow.specs.Sound.{Passes, request_on, Stands}
use Rattle.vx_flow.proofs.Laws.Jobs.{against, behind}
use Rattle.vx_flow.proofs.Laws.ByLines.{Gives, ByRefusal, ByPassing, gives, gives-alike}
use Rattle.vx_flow.proofs.Laws.Ending.{job-is, may-made}

-- ---- two buses of one own address

-- a call that needs no bus reads the bus's own address alone
agree-passed : (t : Tables) (w b : Wire) (conn : ℕ) (p : Pending) (now : ℕ) (o : BusInput) (asks bus quiet : Bool) (x : Option (Reply × Tables)) (r s : Option Reply)
    → w.own ≡ b.own → bus ≡ false
    → ◌≡◌ {A = Option (Reply × Tables)}
    (cond asks x (cond bus (option_map (λ given. (given, t)) r) (cond quiet (effect t w.own conn (named_link t conn p.call) p.call) None)))
    (cond asks x (cond bus (option_map (λ given. (given, t)) s) (cond quiet (effect t b.own conn (named_link t conn p.call) p.call) None)))
agree-passed t w b conn p now o true bus quiet x r s same no_bus = refl
agree-passed t w b conn p now o false true quiet x r s same no_bus = absurd (true≢false no_bus)
agree-passed t w b conn p now o false false quiet x r s same no_bus = ap (λ own. cond quiet (effect t own conn (named_link t conn p.call) p.call) None) same

-- a call that no turn was for is decided alike, whoever's turn is under way
pub agree-in : (t : Tables) (busy : Option ℕ) (w b : Wire) (conn : ℕ) (p : Pending) (now : ℕ) (o : BusInput) → w.own ≡ b.own
    → (first_lines_in t busy w.own conn (settles o) p now ≡ Passed → is_bus_call p.call ≡ false) → decide_in t busy w conn p now o ≡ decide_in t busy b conn p now o
agree-in t busy w b conn p now o same no_bus =
    gives-alike t w b conn p now o (first_lines_in t busy w.own conn (settles o) p now)
    (λ passed.
    agree-passed t w b conn p now o (asks_dial p.call) (is_bus_call p.call) (is_quiet o) (dialed_answer t conn p o o.dialed)
    (bus_answer w p now o (task_of (named_link t conn p.call) p.call)) (bus_answer b p now o (task_of (named_link t conn p.call) p.call)) same (no_bus passed))
    ∙ ap (λ own. by_lines t b conn p now o (first_lines_in t busy own conn (settles o) p now)) same

-- and where none is
pub agree : (t : Tables) (w b : Wire) (conn : ℕ) (p : Pending) (now : ℕ) (o : BusInput) → w.own ≡ b.own
    → (first_lines t w.own conn (settles o) p now ≡ Passed → is_bus_call p.call ≡ false) → decide t w conn p now o ≡ decide t b conn p now o
agree t w b conn p now o same no_bus = agree-in t None w b conn p now o same no_bus

-- ---- an answer without a turn

-- what comes to the answer of a call without a turn
abbrev pub quiet_turn : Bool → Option Bool → Bool → BusInput
quiet_turn failed dialed level = record { begun = 0; moves = []; failed = failed; dialed = dialed; level = level }

-- such a call made nothing, and has no role for a job where it passed
fits-lines : (t : Tables) (w : Wire) (conn : ℕ) (p : Pending) (now : ℕ) (failed : Bool) (dialed : Option Bool) (level : Bool) (d : Reply × Tables) (aborted : Bool) (l : Admission)
    → by_lines t w conn p now (quiet_turn failed dialed level) (cond aborted (Refused code.Abort) l) ≡ Some d
    → (cond aborted (Refused code.Abort) l ≡ Passed → has_job_role w (task_of (named_link t conn p.call) p.call) ≡ false)
    → cond aborted (may_tell p now 0 && may_have_made t w conn p [] && (is_nothing [] || is_first t w.own conn p now)) (lines_fit t w conn p now (quiet_turn failed dialed level) l) ≡ true
fits-lines t w conn p now failed dialed level d true l h role = refl
fits-lines t w conn p now failed dialed level d false l h role = by (gives t w conn p now (quiet_turn failed dialed level) d l h) where
  by : Gives t w conn p now (quiet_turn failed dialed level) d l → lines_fit t w conn p now (quiet_turn failed dialed level) l ≡ true
  by (ByRefusal error refused quiet told) = ap (lines_fit t w conn p now (quiet_turn failed dialed level)) refused
  by (ByPassing passed answers) =
      ap (lines_fit t w conn p now (quiet_turn failed dialed level)) passed
      ∙ cond-false (has_job_role w (task_of (named_link t conn p.call) p.call)) (begun_between p now 0) true (role passed)

pub fits-quiet : (t : Tables) (w : Wire) (conn : ℕ) (p : Pending) (now : ℕ) (failed : Bool) (dialed : Option Bool) (level : Bool) (d : Reply × Tables)
    → decide t w conn p now (quiet_turn failed dialed level) ≡ Some d
    → (first_lines t w.own conn (is_some dialed) p now ≡ Passed → has_job_role w (task_of (named_link t conn p.call) p.call) ≡ false)
    → turn_fits t w conn p now (quiet_turn failed dialed level) ≡ true
fits-quiet t w conn p now failed dialed level d h role =
    fits-lines t w conn p now failed dialed level d p.aborted (later_lines t w.own conn (is_some dialed) p now) h role

-- ---- an answer of the call whose turn it is

-- the lines behind that of the abort let a call pass that has made transfers, where no other stands in line before it
pub later-passed-in : (t : Tables) (busy : Option ℕ) (own conn : ℕ) (settling : Bool) (p : Pending) (now : ℕ) (l : Link) → named_link t conn p.call ≡ OnLink l
    → is_bus_call p.call ≡ true → Passes t own l p.call → first_ahead t busy now conn (request_on l) ≡ None → later_lines_in t busy own conn settling p now ≡ Passed
later-passed-in t busy own conn settling p now l on bus h first =
    ap (λ a. checked_lines p now (check t own conn settling a p.call) (bar_against t busy own now conn a p.call)) on
    ∙ ap (λ c. checked_lines p now c (bar_against t busy own now conn (OnLink l) p.call)) h.checked
    ∙ ap (λ held. lock_lines p now (bar_by held (ahead_of t busy own now conn (OnLink l) p.call))) (against t own l p.call bus ∙ h.free)
    ∙ ap (λ o. lock_lines p now (option_map Behind o)) (behind t busy own now conn l p.call bus ∙ first)

-- and where no turn is under way
pub later-passed : (t : Tables) (own conn : ℕ) (settling : Bool) (p : Pending) (now : ℕ) (l : Link) → named_link t conn p.call ≡ OnLink l → is_bus_call p.call ≡ true
    → Passes t own l p.call → first_ahead t None now conn (request_on l) ≡ None → later_lines t own conn settling p now ≡ Passed
later-passed t own conn settling p now l on bus h first = later-passed-in t None own conn settling p now l on bus h first

-- it waits behind no other
pub first-is : (t : Tables) (own conn : ℕ) (p : Pending) (now : ℕ) (l : Link) → named_link t conn p.call ≡ OnLink l → is_bus_call p.call ≡ true
    → first_ahead t None now conn (request_on l) ≡ None → is_first t own conn p now ≡ true
first-is t own conn p now l on bus first =
    ap (λ a. is_none (ahead_of t None own now conn a p.call)) on ∙ ap is_none (behind t None own now conn l p.call bus ∙ first)

-- what comes to the answer of the call whose turn this is
abbrev pub own_outside : Turn → Bool → Option Bool → Bool → BusInput
own_outside u failed dialed level = record { begun = u.begun; moves = u.moves; failed = failed; dialed = dialed; level = level }

module _ (t : Tables) (before present : Wire) (m now : ℕ) (u : Turn) (s : Stands t before present m u) (late : m ≤ now) (failed : Bool) (dialed : Option Bool) (level : Bool)
  where
    -- the turn began between the call's arrival and its answer
    between : begun_between s.asked now u.begun ≡ true
    between = and_from _ _ (le-leb s.asked.arrival u.begun s.came) (le-leb u.begun now (omega (arith, s.began, late)))

    -- its call is one for the bus, before which no other stands in line
    on_bus : is_bus_call s.asked.call ≡ true
    on_bus = bus-job s.link.target s.asked.call s.job s.has_job

    leads : first_ahead t None now u.connection (request_on s.link) ≡ None
    leads = s.first now (omega (arith, s.began, late))

    tells : may_tell s.asked now u.begun ≡ true
    tells = or_right _ _ between

    -- the list isn't whole where the call was marked
    marked-open : is_nothing u.moves ≡ false → s.asked.aborted ≡ true → is_whole (stand_on before s.asked.call s.job u.moves) ≡ false
    marked-open some marked = by (cases_Bool (is_whole (stand_on before s.asked.call s.job u.moves))) where
      by : (is_whole (stand_on before s.asked.call s.job u.moves) ≡ true) ⊎ (is_whole (stand_on before s.asked.call s.job u.moves) ≡ false)
          → is_whole (stand_on before s.asked.call s.job u.moves) ≡ false
      by (inl e) = absurd (true≢false (sym marked ∙ s.unmarked some e))
      by (inr e) = e

    marked-made : s.asked.aborted ≡ true → may_have_made t before u.connection s.asked u.moves ≡ true
    marked-made marked = by (cases_Bool (is_nothing u.moves)) where
      by : (is_nothing u.moves ≡ true) ⊎ (is_nothing u.moves ≡ false) → may_have_made t before u.connection s.asked u.moves ≡ true
      by (inl e) = or_left _ _ e
      by (inr some) = may-made t before present m u s (marked-open some marked)

    -- where the first lines refuse it, it has made nothing
    refused-nothing : (error : ErrorCode) → later_lines t before.own u.connection (is_some dialed) s.asked now ≡ Refused error → is_nothing u.moves ≡ true
    refused-nothing error h = by (cases_Bool (is_nothing u.moves)) where
      never : Refused error ≡ Passed → ⊥
      never e = cc

      by : (is_nothing u.moves ≡ true) ⊎ (is_nothing u.moves ≡ false) → is_nothing u.moves ≡ true
      by (inl e) = e
      by (inr some) =
          absurd (never (sym h ∙ later-passed t before.own u.connection (is_some dialed) s.asked now s.link s.on_link on_bus (s.passes some) leads))

    -- by the line that gives the answer
    own-lines : (d : Reply × Tables) (aborted : Bool) (l : Admission) → s.asked.aborted ≡ aborted → later_lines t before.own u.connection (is_some dialed) s.asked now ≡ l
        → by_lines t before u.connection s.asked now (own_outside u failed dialed level) (cond aborted (Refused code.Abort) l) ≡ Some d
        → cond aborted
        (may_tell s.asked now u.begun && may_have_made t before u.connection s.asked u.moves && (is_nothing u.moves || is_first t before.own u.connection s.asked now))
        (lines_fit t before u.connection s.asked now (own_outside u failed dialed level) l) ≡ true
    own-lines d true l marked is h =
        and_from (may_tell s.asked now u.begun && may_have_made t before u.connection s.asked u.moves) (is_nothing u.moves || is_first t before.own u.connection s.asked now)
        (and_from (may_tell s.asked now u.begun) (may_have_made t before u.connection s.asked u.moves) tells (marked-made marked))
        (or_right (is_nothing u.moves) (is_first t before.own u.connection s.asked now) (first-is t before.own u.connection s.asked now s.link s.on_link on_bus leads))
    own-lines d false l marked is h = by (gives t before u.connection s.asked now (own_outside u failed dialed level) d l h) where
      by : Gives t before u.connection s.asked now (own_outside u failed dialed level) d l
          → lines_fit t before u.connection s.asked now (own_outside u failed dialed level) l ≡ true
      by (ByRefusal error refused quiet told) =
          ap (lines_fit t before u.connection s.asked now (own_outside u failed dialed level)) refused
          ∙ and_from (may_tell s.asked now u.begun) (is_nothing u.moves) tells (refused-nothing error (is ∙ refused))
      by (ByPassing passed answers) =
          ap (lines_fit t before u.connection s.asked now (own_outside u failed dialed level)) passed
          ∙ cond-true (has_job_role before (task_of (named_link t u.connection s.asked.call) s.asked.call)) _ _ (ap (has_job_role before) (job-is t before present m u s) ∙ s.in_role)
          ∙ between

    pub fits-own : (d : Reply × Tables) → decide t before u.connection s.asked now (own_outside u failed dialed level) ≡ Some d
        → turn_fits t before u.connection s.asked now (own_outside u failed dialed level) ≡ true
    fits-own d h = own-lines d s.asked.aborted (later_lines t before.own u.connection (is_some dialed) s.asked now) refl refl h

-- ---- the entry of an answer

pub one-answer : (s : State) (conn now : ℕ) (o : BusInput) (told : Reply) (p : Pending) (d : Reply × Tables) → nat_le s.moment now ≡ true
    → pending_at s.tables conn ≡ Some p → turn_fits s.tables s.wire conn p now o ≡ true → decide s.tables s.wire conn p now o ≡ Some d → same_reply d.0 told ≡ true
    → atomic_step s (entry.Answer conn now o.begun o.moves o.failed o.dialed o.level told)
    ≡ Some (record { tables = with_pending d.1 conn None; wire = wire_after s.wire o.moves; moment = now })
one-answer s conn now o told p d late at fits found same =
    cond-true (nat_le s.moment now && call_fits s conn now o (pending_at s.tables conn)) (option_and_then (if_reply told) (answer s conn now o)) None
    (and_from _ _ late (ap (call_fits s conn now o) at ∙ fits))
    ∙ ap (λ q. option_and_then (if_reply told) (option_and_then (answer_to s conn now o) q)) at
    ∙ ap (λ x. option_and_then (if_reply told) (option_map (answered s conn now o.moves) x)) found
    ∙ cond-true (same_reply d.0 told) _ None same
