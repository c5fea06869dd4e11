-- The calls that stand in line before the turn's call, under changes of the tables: their number only falls.
use Rattle.std.proofs.Common.{◌≡◌, ◌≢◌, ◌≤◌, ◌-◌, ◌==◌, ℕ, Bool, true, false, cond, ◌⊎◌, inl, inr, List, [], ◌∷◌, ◌++◌, Option, Some, None, refl, sym, ap, ◌∙◌, subst, arith}
use Rattle.std.specs.Prelude.{not, ◌&&◌, ◌||◌, filter, find, is_some}
use Rattle.std.specs.List.{list_any}
use Rattle.std.specs.Option.{option_map, option_map_or, option_and_then}
use Rattle.std.proofs.lemmas.Bool.{true≢false, false≢true, and_parts, and_from, or_left, or_right, eqb-true, eq-eqb, leb-true, le-leb}
use Rattle.std.proofs.lemmas.Option.{same_Some}
use Rattle.vx_lemmas.proofs.Laws.Conditions.{eqb-self, chosen}
use Rattle.vx_lemmas.proofs.Laws.Lists.{is_some-find, found_passes, any_kept}
use Rattle.vx_488.specs.declared.wire.Wire.{Wire}
use Rattle.vx_calls.specs.declared.codes.ErrorCode.{ErrorCode}
use Rattle.vx_calls.specs.declared.codes.ErrorCode.TheVariants as code
use Rattle.vx_calls.specs.declared.targets.Target.{Target}
use Rattle.vx_calls.specs.Target.{conflict}
use Rattle.vx_calls.specs.Call.{Call}
use Rattle.vx_calls.specs.Call as call
use Rattle.vx_rules.specs.Table.{Link}
use Rattle.vx_rules.specs.Locks.{Lock, holds}
use Rattle.vx_rules.specs.State.{Pending, Tables, pending_at, link_of, has_come, without_arrival, with_arrival, with_pending, is_lock_of}
use Rattle.vx_rules.specs.Calls.{link_named, is_bus_call, is_lock_call, asks_wait, lock_timeout_of, has_passed}
use Rattle.vx_rules.specs.Checks.{NamedLink, NoLink, DeadLink, OnLink, named_link, link_found, link_by_number, check}
use Rattle.vx_rules.specs.Lines.{LockRequest, Behind, Refused, Passed, nobody, lock_request, holder_against, waits_at, wanted_by, is_busy, is_in_line, came_before, ahead, first_of, first_ahead, ahead_of, bar_by, kept_off, lock_lines, checked_lines, first_lines_in}
use Rattle.vx_rules.specs.AtomicStep.{mark_call, marked, names}
use Rattle.vx_rules.specs.Decide.{BusInput, by_lines, settles, decide_in, decide}
use Rattle.vx_rules.specs.Sound as rules
use Rattle.vx_rules.proofs.Laws.Walks.{passed-says}
use Rattle.vx_rules.proofs.Laws.Rows.{pending-other, pending-marked}
use Rattle.vx_rules.proofs.Laws.Numbers.{find-own}
use Rattle.vx_rules.proofs.Laws.Apart.{conflict-turned}
use Rattle.vx_flow.specs.Sound.{request_on}
use Rattle.vx_flow.specs.InterleavedStep.{on_conflict}

-- ---- lists

-- one of two tests passes
either : (a b : Bool) → (a || b) ≡ true → (a ≡ true) ⊎ (b ≡ true)
either true b h = inl refl
either false b h = inr h

-- a list has nothing that passes where each of its numbers fails
none-passes : (p : ℕ → Bool) (ns : List ℕ) → ((n : ℕ) → has_come ns n ≡ true → p n ≡ false) → filter p ns ≡ []
none-passes p [] h = refl
none-passes p (n ∷ ns) h =
    ap (λ b. cond b (n ∷ filter p ns) (filter p ns)) (h n (or_left (n == n) (has_come ns n) (eqb-self n)))
    ∙ none-passes p ns (λ m e. h m (or_right (n == m) (has_come ns m) e))

-- and back
passes-none : (p : ℕ → Bool) (ns : List ℕ) (n : ℕ) → filter p ns ≡ [] → has_come ns n ≡ true → p n ≡ false
passes-none p [] n h e = absurd (false≢true e)
passes-none p (m ∷ ms) n h e = by (p m) refl h (passes-none p ms n) where
  at : (p m ≡ false) → (filter p ms ≡ []) → ((filter p ms ≡ []) → has_come ms n ≡ true → p n ≡ false) → ((m == n) ≡ true) ⊎ (has_come ms n ≡ true) → p n ≡ false
  at is none rest (inl same) = subst (λ k. p k ≡ false) (eqb-true m n same) is
  at is none rest (inr more) = rest none more

  by : (b : Bool) → p m ≡ b → cond b (m ∷ filter p ms) (filter p ms) ≡ [] → ((filter p ms ≡ []) → has_come ms n ≡ true → p n ≡ false) → p n ≡ false
  by true is x rest = cc
  by false is x rest = at is x rest (either (m == n) (has_come ms n) e)

-- who came before is among those that came
pub before-come : (ns : List ℕ) (conn n : ℕ) → has_come (came_before ns conn) n ≡ true → has_come ns n ≡ true
before-come [] conn n h = absurd (false≢true h)
before-come (m ∷ ms) conn n h = by (m == conn) h (before-come ms conn n) where
  at : ((m == n) ≡ true) ⊎ (has_come (came_before ms conn) n ≡ true) → (has_come (came_before ms conn) n ≡ true → has_come ms n ≡ true) → ((m == n) || has_come ms n) ≡ true
  at (inl same) rest = or_left (m == n) (has_come ms n) same
  at (inr more) rest = or_right (m == n) (has_come ms n) (rest more)

  by : (b : Bool) → has_come (cond b [] (m ∷ came_before ms conn)) n ≡ true → (has_come (came_before ms conn) n ≡ true → has_come ms n ≡ true) → ((m == n) || has_come ms n) ≡ true
  by true h rest = absurd (false≢true h)
  by false h rest = at (either (m == n) (has_come (came_before ms conn) n) h) rest

-- one that comes is behind all that came
before-added : (ns : List ℕ) (conn n : ℕ) → has_come ns conn ≡ true → came_before (ns ++ n ∷ []) conn ≡ came_before ns conn
before-added [] conn n h = absurd (false≢true h)
before-added (m ∷ ms) conn n h = by (m == conn) h (before-added ms conn n) where
  by : (b : Bool) → (b || has_come ms conn) ≡ true → (has_come ms conn ≡ true → came_before (ms ++ n ∷ []) conn ≡ came_before ms conn)
      → cond b [] (m ∷ came_before (ms ++ n ∷ []) conn) ≡ cond b [] (m ∷ came_before ms conn)
  by true h rest = refl
  by false h rest = ap (λ xs. m ∷ xs) (rest h)

pub before-with : (ns : List ℕ) (conn n : ℕ) → has_come ns conn ≡ true → came_before (with_arrival ns n) conn ≡ came_before ns conn
before-with ns conn n h = by (has_come ns n) where
  by : (b : Bool) → came_before (cond b ns (ns ++ n ∷ [])) conn ≡ came_before ns conn
  by true = refl
  by false = before-added ns conn n h

-- without another one each that is left came before as it did
pub before-without : (ns : List ℕ) (gone conn n : ℕ) → gone ≢ conn → has_come (came_before (without_arrival ns gone) conn) n ≡ true
    → (has_come (came_before ns conn) n ≡ true) × (n ≢ gone)
before-without [] gone conn n ne h = absurd (false≢true h)
before-without (m ∷ ms) gone conn n ne h = by (m == gone) (m == conn) refl refl h (before-without ms gone conn n ne) where
  Rest : Type 0
  Rest = has_come (came_before (without_arrival ms gone) conn) n ≡ true → (has_come (came_before ms conn) n ≡ true) × (n ≢ gone)

  Now : Bool → Type 0
  Now b = (has_come (cond b [] (m ∷ came_before ms conn)) n ≡ true) × (n ≢ gone)

  at : (m == gone) ≡ false → ((m == n) ≡ true) ⊎ (has_come (came_before (without_arrival ms gone) conn) n ≡ true) → Rest → Now false
  at other (inl same) rest = (or_left (m == n) (has_come (came_before ms conn) n) same, λ e. true≢false (sym (ap (λ k. k == gone) (eqb-true m n same) ∙ eq-eqb n gone e) ∙ other))
  at other (inr more) rest = let both = rest more in (or_right (m == n) (has_come (came_before ms conn) n) both.0, both.1)

  by : (here there : Bool) → (m == gone) ≡ here → (m == conn) ≡ there
      → has_come (came_before (cond (not here) (m ∷ without_arrival ms gone) (without_arrival ms gone)) conn) n ≡ true → Rest → Now there
  by true true h1 h2 h rest = absurd (ne (sym (eqb-true m gone h1) ∙ eqb-true m conn h2))
  by true false h1 h2 h rest = let both = rest h in (or_right (m == n) (has_come (came_before ms conn) n) both.0, both.1)
  by false true h1 h2 h rest = absurd (false≢true (ap (λ b. has_come (cond b [] (m ∷ came_before (without_arrival ms gone) conn)) n) (sym h2) ∙ h))
  by false false h1 h2 h rest =
      at h1 (either (m == n) (has_come (came_before (without_arrival ms gone) conn) n)
      (ap (λ b. has_come (cond b [] (m ∷ came_before (without_arrival ms gone) conn)) n) (sym h2) ∙ h)) rest

-- ---- what a call stands in line for

-- the link that a call names is what it is by its number
pub named-alike : (t u : Tables) (conn : ℕ) (asked : Call) → ((lid : ℕ) → link_of u conn lid ≡ link_of t conn lid) → named_link u conn asked ≡ named_link t conn asked
named-alike t u conn asked links = by (link_named asked) where
  by : (o : Option ℕ) → link_by_number u conn o ≡ link_by_number t conn o
  by None = refl
  by (Some lid) = ap link_found (links lid)

-- a call on the same links stands in line as it did
pub line-alike : (t u : Tables) (busy : Option ℕ) (at : ℕ) (target : Target) (n : ℕ) → ((lid : ℕ) → link_of u n lid ≡ link_of t n lid) → pending_at u n ≡ pending_at t n
    → is_in_line u busy at target n ≡ is_in_line t busy at target n
line-alike t u busy at target n links call =
    ap (λ o. not (is_busy busy n) && option_map_or (λ wanted. conflict wanted target) (option_and_then (wanted_by u at n) o) false) call
    ∙ by (pending_at t n)
  where
    by : (o : Option Pending)
        → (not (is_busy busy n) && option_map_or (λ wanted. conflict wanted target) (option_and_then (wanted_by u at n) o) false)
        ≡ (not (is_busy busy n) && option_map_or (λ wanted. conflict wanted target) (option_and_then (wanted_by t at n) o) false)
    by None = refl
    by (Some p) =
        ap (λ about. not (is_busy busy n) && option_map_or (λ wanted. conflict wanted target)
        (cond (not p.aborted && waits_at p at) (option_map (λ c. c.target) (lock_request nobody about p.call)) None) false) (named-alike t u n p.call links)

-- a mark takes a call out of its line, and puts none in
marked-wants : (t : Tables) (lid at n : ℕ) (target : Target) (p : Pending) → option_map_or (λ wanted. conflict wanted target) (wanted_by t at n (mark_call lid p)) false ≡ true
    → option_map_or (λ wanted. conflict wanted target) (wanted_by t at n p) false ≡ true
marked-wants t lid at n target p h = by (names lid (link_named p.call)) h where
  by : (b : Bool) → option_map_or (λ wanted. conflict wanted target) (wanted_by t at n (cond b (record p { aborted = true }) p)) false ≡ true
      → option_map_or (λ wanted. conflict wanted target) (wanted_by t at n p) false ≡ true
  by true h = absurd (false≢true h)
  by false h = h

-- time takes calls out of their lines, and puts none in
waits-earlier : (p : Pending) (early late : ℕ) → early ≤ late → waits_at p late ≡ true → waits_at p early ≡ true
waits-earlier p early late le h =
    let parts = and_parts (asks_wait p.call) (not (has_passed (lock_timeout_of p.call) p.arrival late)) h in
    and_from (asks_wait p.call) (not (has_passed (lock_timeout_of p.call) p.arrival early)) parts.0
    (by (has_passed (lock_timeout_of p.call) p.arrival early) refl parts.1)
  where
    by : (b : Bool) → has_passed (lock_timeout_of p.call) p.arrival early ≡ b → not (has_passed (lock_timeout_of p.call) p.arrival late) ≡ true → not b ≡ true
    by false e h = refl
    by true e h =
        let so = leb-true (lock_timeout_of p.call) (early - p.arrival) e in
        let later : has_passed (lock_timeout_of p.call) p.arrival late ≡ true = le-leb (lock_timeout_of p.call) (late - p.arrival) (omega (arith, so, le)) in
        absurd (false≢true (ap not (sym later) ∙ h))

line-earlier : (t : Tables) (busy : Option ℕ) (early late : ℕ) (target : Target) (n : ℕ) → early ≤ late → is_in_line t busy late target n ≡ true
    → is_in_line t busy early target n ≡ true
line-earlier t busy early late target n le h =
    let parts = and_parts (not (is_busy busy n)) (option_map_or (λ wanted. conflict wanted target) (option_and_then (wanted_by t late n) (pending_at t n)) false) h in
    and_from (not (is_busy busy n)) _ parts.0 (by (pending_at t n) parts.1)
  where
    wait : (p : Pending) (now then : Bool) → (now ≡ true → then ≡ true) → (o : Option Target) → option_map_or (λ wanted. conflict wanted target) (cond (not p.aborted && now) o None) false ≡ true
        → option_map_or (λ wanted. conflict wanted target) (cond (not p.aborted && then) o None) false ≡ true
    wait p true then f o h = ap (λ b. option_map_or (λ wanted. conflict wanted target) (cond (not p.aborted && b) o None) false) (f refl) ∙ h
    wait p false then f o h = absurd (false≢true (sym (off p.aborted) ∙ h)) where
      off : (b : Bool) → option_map_or (λ wanted. conflict wanted target) (cond (not b && false) o None) false ≡ false
      off true = refl
      off false = refl

    by : (o : Option Pending) → option_map_or (λ wanted. conflict wanted target) (option_and_then (wanted_by t late n) o) false ≡ true
        → option_map_or (λ wanted. conflict wanted target) (option_and_then (wanted_by t early n) o) false ≡ true
    by None h = h
    by (Some p) h = wait p (waits_at p late) (waits_at p early) (waits-earlier p early late le) (option_map (λ c. c.target) (lock_request nobody (named_link t n p.call) p.call)) h

-- ---- what is ahead

-- no more calls came before that of a connection, and none of them stands in line that didn't
pub record Shrinks (t u : Tables) (conn : ℕ) : Type 0 where
  pub before : (n : ℕ) → has_come (came_before u.arrivals conn) n ≡ true → has_come (came_before t.arrivals conn) n ≡ true
  pub lines : (n at : ℕ) (target : Target) → has_come (came_before u.arrivals conn) n ≡ true → is_in_line u None at target n ≡ true → is_in_line t None at target n ≡ true

false-is : (a b : Bool) → (a ≡ true → b ≡ true) → b ≡ false → a ≡ false
false-is true b f h = absurd (true≢false (sym (f refl) ∙ h))
false-is false b f h = refl

still-none : (t u : Tables) (conn at : ℕ) (target : Target) → Shrinks t u conn → ahead t None at conn target ≡ [] → ahead u None at conn target ≡ []
still-none t u conn at target s h =
    none-passes (is_in_line u None at target) (came_before u.arrivals conn)
    (λ n e. false-is (is_in_line u None at target n) (is_in_line t None at target n) (s.lines n at target e)
    (passes-none (is_in_line t None at target) (came_before t.arrivals conn) n h (s.before n e)))

first-none : (ns : List ℕ) → first_of ns ≡ None → ns ≡ []
first-none [] h = refl
first-none (n ∷ ns) h = cc

-- where no call was ahead none is, while the link holds its lock, if it has one
pub ahead-stays : (t u : Tables) (conn at : ℕ) (c : LockRequest) → Shrinks t u conn → (holds t.locks c.link ≡ true → holds u.locks c.link ≡ true)
    → first_ahead t None at conn c ≡ None → first_ahead u None at conn c ≡ None
ahead-stays t u conn at c s held h = by (holds t.locks c.link) (holds u.locks c.link) held h where
  by : (was is : Bool) → (was ≡ true → is ≡ true) → cond was None (first_of (ahead t None at conn c.target)) ≡ None → cond is None (first_of (ahead u None at conn c.target)) ≡ None
  by was true f h = refl
  by true false f h = absurd (false≢true (f refl))
  by false false f h = ap first_of (still-none t u conn at c.target s (first-none (ahead t None at conn c.target) h))

-- nor at a later moment
pub ahead-later : (t : Tables) (conn early late : ℕ) (c : LockRequest) → early ≤ late → first_ahead t None early conn c ≡ None → first_ahead t None late conn c ≡ None
ahead-later t conn early late c le h = by (holds t.locks c.link) h where
  by : (b : Bool) → cond b None (first_of (ahead t None early conn c.target)) ≡ None → cond b None (first_of (ahead t None late conn c.target)) ≡ None
  by true h = refl
  by false h =
      ap first_of (none-passes (is_in_line t None late c.target) (came_before t.arrivals conn)
      (λ n e. false-is (is_in_line t None late c.target n) (is_in_line t None early c.target n) (line-earlier t None early late c.target n le)
      (passes-none (is_in_line t None early c.target) (came_before t.arrivals conn) n (first-none (ahead t None early conn c.target) h) e)))

-- whoever's turn is under way, no more are ahead
pub ahead-busy : (t : Tables) (busy : Option ℕ) (at conn : ℕ) (c : LockRequest) → first_ahead t None at conn c ≡ None → first_ahead t busy at conn c ≡ None
ahead-busy t busy at conn c h = by (holds t.locks c.link) h where
  less : (n : ℕ) → is_in_line t busy at c.target n ≡ true → is_in_line t None at c.target n ≡ true
  less n e = (and_parts (not (is_busy busy n)) (option_map_or (λ wanted. conflict wanted c.target) (option_and_then (wanted_by t at n) (pending_at t n)) false) e).1

  by : (b : Bool) → cond b None (first_of (ahead t None at conn c.target)) ≡ None → cond b None (first_of (ahead t busy at conn c.target)) ≡ None
  by true h = refl
  by false h =
      ap first_of (none-passes (is_in_line t busy at c.target) (came_before t.arrivals conn)
      (λ n e. false-is (is_in_line t busy at c.target n) (is_in_line t None at c.target n) (less n)
      (passes-none (is_in_line t None at c.target) (came_before t.arrivals conn) n (first-none (ahead t None at conn c.target) h) e)))

-- what is ahead of a bus call on a link
pub ahead-on : (t : Tables) (busy : Option ℕ) (own now conn : ℕ) (l : Link) (asked : Call) → is_bus_call asked ≡ true
    → ahead_of t busy own now conn (OnLink l) asked ≡ first_ahead t busy now conn (request_on l)
ahead-on t busy own now conn l asked bus =
    ap (λ b. option_and_then (first_ahead t busy now conn) (cond (b || is_lock_call asked) (Some (request_on l)) None)) bus

-- the first lines say the same where the same call is ahead
pub lines-by : (t : Tables) (b c : Option ℕ) (own conn : ℕ) (settling : Bool) (p : Pending) (now : ℕ)
    → ahead_of t b own now conn (named_link t conn p.call) p.call ≡ ahead_of t c own now conn (named_link t conn p.call) p.call
    → first_lines_in t b own conn settling p now ≡ first_lines_in t c own conn settling p now
lines-by t b c own conn settling p now e =
    ap (λ a. cond p.aborted (Refused code.Abort)
    (checked_lines p now (check t own conn settling (named_link t conn p.call) p.call) (bar_by (holder_against t own (named_link t conn p.call) p.call) a))) e

-- the number of a link that is named
pub on-number : (t : Tables) (conn : ℕ) (asked : Call) (l : Link) → named_link t conn asked ≡ OnLink l → (lid : ℕ) × (link_of t conn lid ≡ Some l)
on-number t conn asked l h = by (link_named asked) h where
  found : (o : Option Link) → link_found o ≡ OnLink l → o ≡ Some l
  found None x = cc
  found (Some k) x = cc

  by : (o : Option ℕ) → link_by_number t conn o ≡ OnLink l → (lid : ℕ) × (link_of t conn lid ≡ Some l)
  by None x = cc
  by (Some lid) x = (lid, found (link_of t conn lid) x)

-- tables with the arrivals, the links and the calls of others
pub same-shrinks : (t u : Tables) (conn : ℕ) → u.arrivals ≡ t.arrivals → ((n lid : ℕ) → link_of u n lid ≡ link_of t n lid) → ((n : ℕ) → pending_at u n ≡ pending_at t n)
    → Shrinks t u conn
same-shrinks t u conn arrivals links calls = record {
  before = λ n e. ap (λ ns. has_come (came_before ns conn) n) (sym arrivals) ∙ e;
  lines = λ n at target e h. sym (line-alike t u None at target n (links n) (calls n)) ∙ h;
}

-- a call that comes on another connection is the last
pub come-shrinks : (t : Tables) (m conn : ℕ) (p : Pending) → has_come t.arrivals conn ≡ true → has_come t.arrivals m ≡ false
    → Shrinks t (with_pending t m (Some p)) conn
come-shrinks t m conn p here new =
    let u : Tables = with_pending t m (Some p) in
    let same : came_before u.arrivals conn ≡ came_before t.arrivals conn = before-with t.arrivals conn m here in
    let was : (n : ℕ) → has_come (came_before u.arrivals conn) n ≡ true → has_come (came_before t.arrivals conn) n ≡ true =
    λ n e. ap (λ ns. has_come ns n) (sym same) ∙ e in
    record {
      before = was;
      lines = λ n at target e h.
          let ne : m ≢ n = λ x. true≢false (sym (before-come t.arrivals conn n (was n e)) ∙ ap (has_come t.arrivals) (sym x) ∙ new) in
          sym (line-alike t u None at target n (λ lid. refl) (pending-other t m n (Some p) ne)) ∙ h;
    }

-- a mark takes calls out of their lines
pub mark-shrinks : (t : Tables) (lid conn : ℕ) → Shrinks t (marked t lid) conn
mark-shrinks t lid conn = record { before = λ n e. e; lines = λ n at target e h. unmarked n at target h } where
  unmarked : (n at : ℕ) (target : Target) → is_in_line (marked t lid) None at target n ≡ true → is_in_line t None at target n ≡ true
  unmarked n at target h =
      by (pending_at t n) (sym (ap (λ o. option_map_or (λ wanted. conflict wanted target) (option_and_then (wanted_by (marked t lid) at n) o) false) (pending-marked t lid n)) ∙ h)
    where
      by : (o : Option Pending) → option_map_or (λ wanted. conflict wanted target) (option_and_then (wanted_by (marked t lid) at n) (option_map (mark_call lid) o)) false ≡ true
          → option_map_or (λ wanted. conflict wanted target) (option_and_then (wanted_by t at n) o) false ≡ true
      by None x = x
      by (Some p) x =
          let q : Pending = mark_call lid p in
          marked-wants t lid at n target p
          (sym (ap (λ about. option_map_or (λ wanted. conflict wanted target)
          (cond (not q.aborted && waits_at q at) (option_map (λ c. c.target) (lock_request nobody about q.call)) None) false) (named-alike t (marked t lid) n q.call (λ lid. refl))) ∙ x)

-- a call that is over, or gone, leaves the others in line, where their links and calls stay
pub left-shrinks : (t u : Tables) (gone conn : ℕ) → gone ≢ conn → u.arrivals ≡ without_arrival t.arrivals gone
    → ((n lid : ℕ) → gone ≢ n → link_of u n lid ≡ link_of t n lid) → ((n : ℕ) → gone ≢ n → pending_at u n ≡ pending_at t n) → Shrinks t u conn
left-shrinks t u gone conn ne arrivals links calls =
    let parts : (n : ℕ) → has_come (came_before u.arrivals conn) n ≡ true → (has_come (came_before t.arrivals conn) n ≡ true) × (n ≢ gone) =
    λ n e. before-without t.arrivals gone conn n ne (ap (λ ns. has_come (came_before ns conn) n) (sym arrivals) ∙ e) in
    record {
      before = λ n e. (parts n e).0;
      lines = λ n at target e h.
          let other : gone ≢ n = λ x. (parts n e).1 (sym x) in
          sym (line-alike t u None at target n (λ lid. links n lid other) (calls n other)) ∙ h;
    }

-- ---- links of other connections

-- two connections' links have two numbers
pub numbers-apart : (t : Tables) (m n a b : ℕ) (k l : Link) → rules.IsSound t → link_of t m a ≡ Some k → link_of t n b ≡ Some l → m ≢ n → k.number ≢ l.number
numbers-apart t m n a b k l sound first second ne same = ne (conns (find (λ x. x.number == a) t.links.links) refl) where
  is-a : (k.number ≡ a) × (k.connection ≡ m)
  is-a =
      let parts = and_parts (k.number == a) (k.connection == m) (found_passes (λ x. (x.number == a) && (x.connection == m)) t.links.links k first) in
      (eqb-true k.number a parts.0, eqb-true k.connection m parts.1)

  is-b : (l.number ≡ b) × (l.connection ≡ n)
  is-b =
      let parts = and_parts (l.number == b) (l.connection == n) (found_passes (λ x. (x.number == b) && (x.connection == n)) t.links.links l second) in
      (eqb-true l.number b parts.0, eqb-true l.connection n parts.1)

  own : (conn : ℕ) (o : Option Link) (x : Link) → option_and_then (λ l. cond (l.connection == conn) (Some l) None) o ≡ Some x → (y : Link) × (o ≡ Some y) × (y.connection ≡ conn)
  own conn None x h = cc
  own conn (Some y) x h = (y, refl, eqb-true y.connection conn (chosen (y.connection == conn) (Some y) x h).0)

  conns : (o : Option Link) → find (λ x. x.number == a) t.links.links ≡ o → m ≡ n
  conns o e =
      let one = own m (find (λ x. x.number == a) t.links.links) k (sym (find-own a m t.links.links sound.numbered.rising) ∙ first) in
      let b_is : b ≡ a = sym is-b.0 ∙ sym same ∙ is-a.0 in
      let two = own n (find (λ x. x.number == b) t.links.links) l (sym (find-own b n t.links.links sound.numbered.rising) ∙ second) in
      let there : find (λ x. x.number == a) t.links.links ≡ Some two.0 = ap (λ c. find (λ x. x.number == c) t.links.links) (sym b_is) ∙ two.1 in
      let same_one = same_Some one.0 two.0 (sym one.1 ∙ there) in
      sym one.2 ∙ ap (λ (x : Link). x.connection) same_one ∙ two.2

-- ---- a lock that is held

-- it stays where only locks of other links go
pub held-kept : (locks : List Lock) (keep : Lock → Bool) (lid : ℕ) → ((k : Lock) → (k.link == lid) ≡ true → keep k ≡ true) → holds locks lid ≡ true → holds (filter keep locks) lid ≡ true
held-kept locks keep lid h held = any_kept (λ (k : Lock). k.link == lid) keep locks h held

-- of a link whose number another connection has none of
pub others-locks : (t : Tables) (conn : ℕ) (lid : ℕ) → link_of t conn lid ≡ None → (k : Lock) → (k.link == lid) ≡ true → not (is_lock_of t.links.links conn k) ≡ true
others-locks t conn lid none k e =
    let same : k.link ≡ lid = eqb-true k.link lid e in
    ap not (ap (λ n. list_any (λ l. (l.number == n) && (l.connection == conn)) t.links.links) same
    ∙ sym (is_some-find (λ l. (l.number == lid) && (l.connection == conn)) t.links.links) ∙ ap is_some none)

-- a number of one connection's link is no other's
pub none-of-another : (t : Tables) (m n b : ℕ) (l : Link) → rules.IsSound t → link_of t n b ≡ Some l → m ≢ n → link_of t m l.number ≡ None
none-of-another t m n b l sound second ne = by (link_of t m l.number) refl where
  by : (o : Option Link) → link_of t m l.number ≡ o → o ≡ None
  by None e = refl
  by (Some k) e =
      let parts = and_parts (k.number == l.number) (k.connection == m) (found_passes (λ x. (x.number == l.number) && (x.connection == m)) t.links.links k e) in
      absurd (numbers-apart t m n l.number b k l sound e second ne (eqb-true k.number l.number parts.0))

-- ---- a call beside another connection's turn

-- a call that is under locks needs the bus or takes a lock
request-kind : (own : ℕ) (about : NamedLink) (asked : Call) (c : LockRequest) → lock_request own about asked ≡ Some c → (is_bus_call asked || is_lock_call asked) ≡ true
request-kind own (OnLink l) asked c h = (chosen (is_bus_call asked || is_lock_call asked) (Some (request_on l)) c h).0
request-kind own NoLink (call.CreateLink client true lock_timeout device) c h = refl
request-kind own NoLink asked c h = cc
request-kind own DeadLink asked c h = cc

-- what the call of the turn stands in line for doesn't conflict with a target that its link's doesn't conflict with
turn-aside : (t : Tables) (now : ℕ) (other : ℕ) (q : Pending) (l : Link) (target : Target) → pending_at t other ≡ Some q → named_link t other q.call ≡ OnLink l
    → conflict target l.target ≡ false → option_map_or (λ wanted. conflict wanted target) (option_and_then (wanted_by t now other) (pending_at t other)) false ≡ false
turn-aside t now other q l target here on free =
    ap (λ o. option_map_or (λ wanted. conflict wanted target) (option_and_then (wanted_by t now other) o) false) here
    ∙ ap (λ about. option_map_or (λ wanted. conflict wanted target) (cond (not q.aborted && waits_at q now) (option_map (λ c. c.target) (lock_request nobody about q.call)) None) false) on
    ∙ by (not q.aborted && waits_at q now) (is_bus_call q.call || is_lock_call q.call)
  where
    by : (waits under : Bool) → option_map_or (λ wanted. conflict wanted target) (cond waits (option_map (λ c. c.target) (cond under (Some (request_on l)) None)) None) false ≡ false
    by true true = conflict-turned l.target target ∙ free
    by true false = refl
    by false under = refl

-- where nobody is ahead while that turn is under way, nobody is without it, if the call is on a target that the turn leaves free
aside : (t : Tables) (now conn other : ℕ) (q : Pending) (l : Link) (c : LockRequest) → pending_at t other ≡ Some q → named_link t other q.call ≡ OnLink l
    → conflict c.target l.target ≡ false → first_ahead t (Some other) now conn c ≡ None → first_ahead t None now conn c ≡ None
aside t now conn other q l c here on free h = by (holds t.locks c.link) h where
  X : ℕ → Bool
  X n = option_map_or (λ wanted. conflict wanted c.target) (option_and_then (wanted_by t now n) (pending_at t n)) false

  one : (n : ℕ) (b : Bool) → (other == n) ≡ b → (not b && X n) ≡ false → X n ≡ false
  one n true is x = subst (λ m. X m ≡ false) (eqb-true other n is) (turn-aside t now other q l c.target here on free)
  one n false is x = x

  by : (b : Bool) → cond b None (first_of (ahead t (Some other) now conn c.target)) ≡ None → cond b None (first_of (ahead t None now conn c.target)) ≡ None
  by true x = refl
  by false x =
      ap first_of (none-passes (is_in_line t None now c.target) (came_before t.arrivals conn)
      (λ n e. one n (other == n) refl
      (passes-none (is_in_line t (Some other) now c.target) (came_before t.arrivals conn) n (first-none (ahead t (Some other) now conn c.target) x) e)))

-- so a call that waits for no turn is decided as if none were under way
pub decided-beside : (t : Tables) (w : Wire) (conn other : ℕ) (p : Pending) (now : ℕ) (o : BusInput) (q : Pending) (l : Link)
    → pending_at t other ≡ Some q → named_link t other q.call ≡ OnLink l
    → (first_lines_in t (Some other) w.own conn (settles o) p now ≡ Passed
    → (is_bus_call p.call ≡ false) × ((is_lock_call p.call && on_conflict (lock_request w.own (named_link t conn p.call) p.call) (Some l.target)) ≡ false))
    → decide_in t (Some other) w conn p now o ≡ decide t w conn p now o
decided-beside t w conn other p now o q l here on free =
    by p.aborted (check t w.own conn (settles o) about p.call) (holder_against t w.own about p.call) (ahead_of t (Some other) w.own now conn about p.call)
    (ahead_of t None w.own now conn about p.call) less more
  where
    about : NamedLink
    about = named_link t conn p.call

    request : Option LockRequest
    request = lock_request w.own about p.call

    less : ahead_of t None w.own now conn about p.call ≡ None → ahead_of t (Some other) w.own now conn about p.call ≡ None
    less h = at request h where
      at : (r : Option LockRequest) → option_and_then (first_ahead t None now conn) r ≡ None → option_and_then (first_ahead t (Some other) now conn) r ≡ None
      at None x = refl
      at (Some c) x = ahead-busy t (Some other) now conn c x

    more : first_lines_in t (Some other) w.own conn (settles o) p now ≡ Passed → ahead_of t None w.own now conn about p.call ≡ None
    more passed = at request refl (passed-says p now p.aborted _ _ _ passed).first_come where
      at : (r : Option LockRequest) → request ≡ r → option_and_then (first_ahead t (Some other) now conn) r ≡ None → option_and_then (first_ahead t None now conn) r ≡ None
      at None is x = refl
      at (Some c) is x =
          let says = free passed in
          let lock : is_lock_call p.call ≡ true = ap (λ b. b || is_lock_call p.call) (sym says.0) ∙ request-kind w.own about p.call c is in
          aside t now conn other q l c here on
          (ap (λ b. b && conflict c.target l.target) (sym lock) ∙ ap (λ r. is_lock_call p.call && on_conflict r (Some l.target)) (sym is) ∙ says.1) x

    by : (aborted : Bool) (checked : Option ErrorCode) (holder busy single : Option ℕ) → (single ≡ None → busy ≡ None)
        → (cond aborted (Refused code.Abort) (checked_lines p now checked (bar_by holder busy)) ≡ Passed → single ≡ None)
        → by_lines t w conn p now o (cond aborted (Refused code.Abort) (checked_lines p now checked (bar_by holder busy)))
        ≡ by_lines t w conn p now o (cond aborted (Refused code.Abort) (checked_lines p now checked (bar_by holder single)))
    by true checked holder busy single f g = refl
    by false (Some error) holder busy single f g = refl
    by false None (Some link) busy single f g = refl
    by false None None None single f g = ap (λ a. by_lines t w conn p now o (lock_lines p now (option_map Behind a))) (sym (g refl))
    by false None None (Some n) None f g = let no = f refl in cc
    by false None None (Some n) (Some m) f g = kept (waits_at p now) where
      kept : (b : Bool) → by_lines t w conn p now o (kept_off (Behind n) b) ≡ by_lines t w conn p now o (kept_off (Behind m) b)
      kept true = refl
      kept false = refl
