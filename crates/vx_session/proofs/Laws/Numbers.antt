-- The numbers of the connections that live, and how many they are behind each event.
use Rattle.std.proofs.Common.{◌≡◌, ◌<◌, ◌+◌, ◌==◌, ◌||◌, not, ℕ, Bool, true, false, cond, List, [], ◌∷◌, ◌++◌, map, length, count_by, Option, Some, None, refl, sym, ap, ◌∙◌, subst, arith}
use Rattle.std.specs.Prelude.{IsSome}
use Rattle.std.specs.List.{All, AllPairs, filter, list_any}
use Rattle.std.proofs.lemmas.Bool.{ne_eqb, eqb-true}
use Rattle.std.proofs.lemmas.List.{map_push, length-append}
use Rattle.std.proofs.lemmas.List.Elements.{All-head, All-tail, All-push, All-weaker, All-filter}
use Rattle.std.proofs.lemmas.List.Filters.{length-filter_both}
use Rattle.std.proofs.lemmas.List.Kept.{AllPairs-filter}
use Rattle.std.proofs.lemmas.List.Quantifiers.{all_pairs_push}
use Rattle.std.proofs.lemmas.List.Sums.{sum_by-cons, length-filter}
use Rattle.vx_lemmas.proofs.Laws.Lists.{filter-map, is_some-find, list_any-map}
use Rattle.vx_lemmas.proofs.Laws.Filters.{pairs_head, pairs_tail}
use Rattle.vx_rules.specs.Table.{is_live}
use Rattle.vx_rules.specs.Lists.{update_first}
use Rattle.vx_calls.specs.declared.calls.Role.{Role}
use Rattle.vx_rules.specs.State.{Pending, Connection, Tables, connection_at, with_pending, with_connection, without_connection}
use Rattle.vx_rules.specs.AtomicStep.{arrived, mark_on, marked, abort_tables}
use Rattle.vx_flow.specs.Event.{Event, Up, Down, Arrive, Answer, Abort}
use Rattle.vx_flow.specs.Frames.{TablesAfter}
use Rattle.vx_session.specs.Counting.{ups, downs}

-- the number of a connection, and those of a list of them
abbrev pub number_of : Connection → ℕ
number_of c = c.number

abbrev pub numbers : List Connection → List ℕ
numbers connections = map number_of connections

-- ---- one number in a list of numbers that rise

-- one more in front is counted where it passes
count-front : (p : ℕ → Bool) (n : ℕ) (ns : List ℕ) → count_by p (n ∷ ns) ≡ cond (p n) 1 0 + count_by p ns
count-front p n ns = sum_by-cons (λ m. cond (p m) 1 0) n ns

-- where all are greater than a number none is that one
none-greater : (n : ℕ) (ns : List ℕ) → All (λ m. n < m) ns → count_by (λ m. m == n) ns ≡ 0
none-greater n [] all = refl
none-greater n (m ∷ ns) all =
    let greater : n < m = All-head (λ k. n < k) m ns all in
    let rest = none-greater n ns (All-tail (λ k. n < k) m ns all) in
    let front = count-front (λ k. k == n) m ns ∙ ap (λ b. cond b 1 0 + count_by (λ k. k == n) ns) (ne_eqb m n (λ e. absurd (omega arith))) in
    omega (arith, front, rest)

-- a number that is among those that rise is so once
once : (n : ℕ) (ns : List ℕ) → AllPairs (λ a b. a < b) ns → list_any (λ m. m == n) ns ≡ true → count_by (λ m. m == n) ns ≡ 1
once n [] rise has = cc
once n (m ∷ ns) rise has =
    count-front (λ k. k == n) m ns ∙ by (m == n) refl has (once n ns (pairs_tail (λ a b. a < b) m ns rise))
  where
    by : (b : Bool) → (m == n) ≡ b → (b || list_any (λ k. k == n) ns) ≡ true → (list_any (λ k. k == n) ns ≡ true → count_by (λ k. k == n) ns ≡ 1)
        → cond b 1 0 + count_by (λ k. k == n) ns ≡ 1
    by true is has rest =
        let none = none-greater n ns (subst (λ k. All (λ j. k < j) ns) (eqb-true m n is) (pairs_head (λ a b. a < b) m ns rise)) in omega (arith, none)
    by false is has rest = let one = rest has in omega (arith, one)

-- without it they are one fewer
one-fewer : (n : ℕ) (ns : List ℕ) → AllPairs (λ a b. a < b) ns → list_any (λ m. m == n) ns ≡ true → length (filter (λ m. not (m == n)) ns) + 1 ≡ length ns
one-fewer n ns rise has =
    let all = length-filter_both (λ (m : ℕ). m == n) (λ m. not (m == n)) (λ m. refl) ns in
    let one = length-filter (λ (m : ℕ). m == n) ns ∙ once n ns rise has in
    omega (arith, all, one)

-- ---- the numbers behind a change of the connections

-- a change of one connection that leaves its number
numbers-update : (p : Connection → Bool) (g : Connection → Connection) → ((c : Connection) → (g c).number ≡ c.number) → (cs : List Connection)
    → numbers (update_first p g cs) ≡ numbers cs
numbers-update p g same [] = refl
numbers-update p g same (c ∷ cs) = by (p c) (numbers-update p g same cs) where
  by : (b : Bool) → numbers (update_first p g cs) ≡ numbers cs → numbers (cond b (g c ∷ cs) (c ∷ update_first p g cs)) ≡ numbers (c ∷ cs)
  by true rest = ap (λ n. n ∷ numbers cs) (same c)
  by false rest = ap (λ ns. c.number ∷ ns) rest

-- marks leave them
numbers-marks : (lid : ℕ) (cs : List Connection) → numbers (map (mark_on lid) cs) ≡ numbers cs
numbers-marks lid [] = refl
numbers-marks lid (c ∷ cs) = ap (λ ns. c.number ∷ ns) (numbers-marks lid cs)

-- and so does a device_abort
numbers-abort : (t : Tables) (lid : ℕ) → numbers (abort_tables t lid).connections ≡ numbers t.connections
numbers-abort t lid = by (is_live t.links lid) where
  by : (b : Bool) → numbers (cond b (marked t lid) t).connections ≡ numbers t.connections
  by true = numbers-marks lid t.connections
  by false = refl

next-abort : (t : Tables) (lid : ℕ) → (abort_tables t lid).next_connection ≡ t.next_connection
next-abort t lid = by (is_live t.links lid) where
  by : (b : Bool) → (cond b (marked t lid) t).next_connection ≡ t.next_connection
  by true = refl
  by false = refl

-- and a call that comes or goes
numbers-pending : (t : Tables) (conn : ℕ) (p : Option Pending) → numbers (with_pending t conn p).connections ≡ numbers t.connections
numbers-pending t conn p = numbers-update (λ c. c.number == conn) (λ c. record c { pending = p }) (λ c. refl) t.connections

-- The numbers of the connections rise, and each is below the one that comes next; so many came up, and so many of them went down.
pub record Counts (t : Tables) (up down : ℕ) : Type 0 where
  pub rise : AllPairs (λ a b. a < b) (numbers t.connections)
  pub below : All (λ n. n < t.next_connection) (numbers t.connections)
  pub live : length (numbers t.connections) + down ≡ up
  pub next : t.next_connection ≡ up + 1

-- it stays so where the numbers stay
pub counts-same : (t u : Tables) (up down : ℕ) → numbers u.connections ≡ numbers t.connections → u.next_connection ≡ t.next_connection → Counts t up down
    → Counts u (up + 0) (down + 0)
counts-same t u up down same next c = record {
  rise = subst (AllPairs (λ a b. a < b)) (sym same) c.rise;
  below = subst (λ m. All (λ n. n < m) (numbers u.connections)) (sym next) (subst (All (λ n. n < t.next_connection)) (sym same) c.below);
  live = let long = ap length same in omega (arith, long, c.live);
  next = omega (arith, next, c.next);
}

-- a connection that comes up is one more
with-one : (t : Tables) (r : Role) (up down : ℕ) → Counts t up down → Counts (with_connection t r) (up + 1) (down + 0)
with-one t r up down c =
    let are : numbers (with_connection t r).connections ≡ numbers t.connections ++ t.next_connection ∷ [] =
    map_push number_of t.connections (record { number = t.next_connection; role = r; pending = None }) in
    let long = ap length are ∙ length-append (numbers t.connections) (t.next_connection ∷ []) in
    record {
      rise = subst (AllPairs (λ a b. a < b)) (sym are) (all_pairs_push (λ a b. a < b) (numbers t.connections) t.next_connection c.rise (λ k d h. c.below k d h));
      below = subst (All (λ n. n < t.next_connection + 1)) (sym are)
          (All-push (λ n. n < t.next_connection + 1) (numbers t.connections) t.next_connection
          (All-weaker (λ n. n < t.next_connection) (λ n. n < t.next_connection + 1) (λ n h. omega (arith, h)) (numbers t.connections) c.below) (omega arith));
      live = omega (arith, long, c.live);
      next = omega (arith, c.next);
    }

-- one that goes is one fewer
without-one : (t : Tables) (conn up down : ℕ) → IsSome (connection_at t conn) → Counts t up down → Counts (without_connection t conn) (up + 0) (down + 1)
without-one t conn up down lives c =
    let are : numbers (without_connection t conn).connections ≡ filter (λ n. not (n == conn)) (numbers t.connections) =
    filter-map number_of (λ n. not (n == conn)) t.connections in
    let among : list_any (λ n. n == conn) (numbers t.connections) ≡ true =
    sym (list_any-map number_of (λ n. n == conn) t.connections) ∙ sym (is_some-find (λ (d : Connection). d.number == conn) t.connections) ∙ lives in
    let fewer = one-fewer conn (numbers t.connections) c.rise among in
    let long = ap length are in
    record {
      rise = subst (AllPairs (λ a b. a < b)) (sym are) (AllPairs-filter (λ a b. a < b) (λ n. not (n == conn)) (numbers t.connections) c.rise);
      below = subst (All (λ n. n < t.next_connection)) (sym are) (All-filter (λ n. not (n == conn)) (λ n. n < t.next_connection) (numbers t.connections) c.below);
      live = omega (arith, long, fewer, c.live);
      next = omega (arith, c.next);
    }

-- the connection whose end an event tells lives
abbrev pub Lives : Tables → Event → Type 0
Lives t (Down conn) = IsSome (connection_at t conn)
Lives t _ = Unit {0}

-- behind each event so many more came up and went down
pub counts-after : (e : Event) (t u : Tables) (up down : ℕ) → TablesAfter t e u → Lives t e → Counts t up down → Counts u (up + ups (e ∷ [])) (down + downs (e ∷ []))
counts-after e t u up down is lives c = by e is lives where
  stays : numbers u.connections ≡ numbers t.connections → u.next_connection ≡ t.next_connection → Counts u (up + 0) (down + 0)
  stays same next = counts-same t u up down same next c

  by : (e : Event) → TablesAfter t e u → Lives t e → Counts u (up + ups (e ∷ [])) (down + downs (e ∷ []))
  by (Up conn r) is lives = subst (λ (x : Tables). Counts x (up + 1) (down + 0)) (sym is) (with-one t r up down c)
  by (Down conn) is lives = subst (λ (x : Tables). Counts x (up + 0) (down + 1)) (sym is) (without-one t conn up down lives c)
  by (Arrive conn asked now) is lives = stays (ap (λ (x : Tables). numbers x.connections) is ∙ numbers-pending t conn (Some (arrived asked now))) (ap (λ (x : Tables). x.next_connection) is)
  by (Answer conn now failed dialed level told) is lives =
      stays
      (ap (λ (x : Tables). numbers x.connections) is.over_is ∙ numbers-pending is.after conn None ∙ ap numbers is.leaves.connections)
      (ap (λ (x : Tables). x.next_connection) is.over_is ∙ is.leaves.next)
  by (Abort conn lid told) is lives = stays (ap (λ (x : Tables). numbers x.connections) is ∙ numbers-abort t lid) (ap (λ (x : Tables). x.next_connection) is ∙ next-abort t lid)
  by _ is lives = stays (ap (λ (x : Tables). numbers x.connections) is) (ap (λ (x : Tables). x.next_connection) is)
