-- There are no more locks and no more enables than links, and no more arrivals than core connections.
use Rattle.std.proofs.Common.{◌≡◌, ◌≢◌, ℕ, suc, ◌<◌, ◌≤◌, true, false, not, ◌==◌, ◌&&◌, List, [], ◌∷◌, map, length, get_or, Option, Some, None, is_some, refl, sym, ◌∙◌, arith}
use Rattle.std.specs.Prelude.{nat_eq}
use Rattle.std.specs.Cmp.{nat_eq_equiv}
use Rattle.std.specs.List.{list_any, filter, All, AllPairs}
use Rattle.std.specs.Option.{option_and_then}
use Rattle.std.proofs.lemmas.Bool.{false≢true, and_parts, and_from}
use Rattle.std.proofs.lemmas.Bool.Decides.{Decides-eqb}
use Rattle.std.proofs.lemmas.List.{length-map}
use Rattle.std.proofs.lemmas.List.Elements.{All-cons, All-map}
use Rattle.std.proofs.lemmas.List.Kept.{AllPairs-cons, AllPairs-filter}
use Rattle.std.proofs.lemmas.Map.Made.{length-le_from_is_member, IsDistinct-from_AllPairs}
use Rattle.vx_lemmas.proofs.Laws.Conditions.{other-number, eqb-self}
use Rattle.vx_lemmas.proofs.Laws.Lists.{list_any-map, in_list, turned, any_weaker, All-kept, found_passes, found_among, found_holds}
use Rattle.vx_calls.specs.declared.limits.TheConstants.{LINK_MAX, ROLE_MAX}
use Rattle.vx_rules.specs.Table.{Link, is_live}
use Rattle.vx_rules.specs.Locks.{holds}
use Rattle.vx_rules.proofs.Laws.Room.{has_room}
use Rattle.vx_rules.specs.SrqState.{Enable}
use Rattle.vx_rules.specs.State.{Tables, Connection, same_role, connection_at, pending_at, has_role_of, lives_as, is_idle}
use Rattle.vx_rules.specs.Sound.{IsSound, IsOwned, IsAsked}
use Rattle.std.proofs.lemmas.List.Sums.{length-filter}
use Rattle.std.proofs.lemmas.List.Folds.{list_any_at}
use Rattle.vx_calls.specs.declared.calls.Role.TheVariants as role
use Rattle.vx_rules.proofs.Laws.Arriving.{come-none, idle-new}
use Rattle.vx_lemmas.proofs.Laws.Filters.{list_any-filter}

-- the links' numbers
abbrev numbers : List Link → List ℕ
numbers xs = map (λ l. l.number) xs

is_number : (xs : List Link) (n : ℕ) → list_any (λ l. l.number == n) xs ≡ true → list_any (λ m. m == n) (numbers xs) ≡ true
is_number xs n live = sym (list_any-map (λ l. l.number) (λ m. m == n) xs) ∙ live

-- a link that lives and holds no lock finds room for one
pub lock_room : (t : Tables) (lid : ℕ) → IsSound t → is_live t.links lid ≡ true → holds t.locks lid ≡ false → length t.locks < LINK_MAX
lock_room t lid s live none =
    let fewer : length t.locks < length (numbers t.links.links) =
    has_room t.locks (numbers t.links.links) lid s.apart (λ i d h. is_number t.links.links _ (s.held i d h)) (is_number t.links.links lid live) none in
    omega (arith, fewer, length-map t.links.links (λ (l : Link). l.number), s.numbered.few)

-- numbers that differ, each one of some others of which one more isn't among them
few_numbers : (ns links : List ℕ) (lid : ℕ) → AllPairs (λ a b. a ≢ b) ns → All (λ n. list_any (λ m. m == n) links ≡ true) ns
    → list_any (λ m. m == lid) links ≡ true → All (λ n. lid ≢ n) ns → length ns < length links
few_numbers ns links lid apart among live others =
    let all : All (λ n. list_any (nat_eq n) links ≡ true) (lid ∷ ns) =
    All-cons (λ n. list_any (nat_eq n) links ≡ true) lid ns (sym (turned lid links) ∙ live) (λ i d h. sym (turned _ links) ∙ among i d h) in
    let few : length (lid ∷ ns) ≤ length links =
    length-le_from_is_member nat_eq_equiv (lid ∷ ns) links
    (IsDistinct-from_AllPairs Decides-eqb (lid ∷ ns) (AllPairs-cons (λ a b. a ≢ b) lid ns others apart))
    (in_list (λ n. list_any (nat_eq n) links ≡ true) (lid ∷ ns) all) in
    omega arith

-- numbers that rise differ
rising_differ : (es : List Enable) → AllPairs (λ a b. a.link < b.link) es → AllPairs (λ a b. a ≢ b) (map (λ e. e.link) es)
rising_differ [] rises = λ i j d before h. absurd (omega arith)
rising_differ (e ∷ es) rises =
    AllPairs-cons (λ a b. a ≢ b) e.link (map (λ k. k.link) es)
    (All-map (λ b. e.link ≢ b) (λ k. k.link) es (λ i d h same. let below = rises 0 (suc i) d (omega arith) (omega arith) in absurd (omega (arith, below, same))))
    (rising_differ es (λ i j d before h. rises (suc i) (suc j) d (omega arith) (omega arith)))

-- a link that lives finds room for its enable
pub enable_room : (t : Tables) (lid : ℕ) → IsSound t → is_live t.links lid ≡ true
    → length (filter (λ e. not (e.link == lid)) t.srq_state.enables) < LINK_MAX
enable_room t lid s live =
    let others = filter (λ (e : Enable). not (e.link == lid)) t.srq_state.enables in
    let apart = rising_differ others (AllPairs-filter (λ a b. a.link < b.link) (λ e. not (e.link == lid)) t.srq_state.enables s.in_order) in
    let fewer : length (map (λ (e : Enable). e.link) others) < length (numbers t.links.links) =
    few_numbers (map (λ e. e.link) others) (numbers t.links.links) lid apart
    (All-map (λ n. list_any (λ m. m == n) (numbers t.links.links) ≡ true) (λ e. e.link) others
    (All-kept (IsOwned t) (λ e. list_any (λ m. m == e.link) (numbers t.links.links) ≡ true) (λ e. not (e.link == lid)) t.srq_state.enables
    (λ e other own. is_number t.links.links e.link
    (any_weaker (λ l. (l.number == e.link) && (l.connection == e.connection)) (λ l. l.number == e.link) t.links.links (λ l both. (and_parts _ _ both).0) own)) s.owned))
    (is_number t.links.links lid live)
    (All-map (λ n. lid ≢ n) (λ e. e.link) others (All-kept (IsOwned t) (λ e. lid ≢ e.link) (λ e. not (e.link == lid)) t.srq_state.enables (λ e other own. other-number e.link lid other) s.owned)) in
    omega (arith, fewer, length-map others (λ (e : Enable). e.link), length-map t.links.links (λ (l : Link). l.number), s.numbered.few)

-- the numbers of the core connections
abbrev cores : Tables → List ℕ
cores t = map (λ c. c.number) (filter (λ c. same_role c.role role.Core) t.connections)

-- a core connection is among them
core_listed : (t : Tables) (n : ℕ) (c : Connection) → connection_at t n ≡ Some c → same_role c.role role.Core ≡ true → list_any (λ m. m == n) (cores t) ≡ true
core_listed t n c found core =
    sym (list_any-map (λ (k : Connection). k.number) (λ m. m == n) (filter (λ (k : Connection). same_role k.role role.Core) t.connections))
    ∙ list_any-filter (λ (k : Connection). same_role k.role role.Core) (λ (k : Connection). k.number == n) t.connections
    ∙ found_among (λ (k : Connection). k.number == n) (λ (k : Connection). same_role k.role role.Core && (k.number == n)) t.connections c found
    (and_from (same_role c.role role.Core) (c.number == n) core (found_passes (λ (k : Connection). k.number == n) t.connections c found))

-- so is one that has a call
asked_listed : (t : Tables) (n : ℕ) → IsSound t → is_some (pending_at t n) ≡ true → list_any (λ m. m == n) (cores t) ≡ true
asked_listed t n s some = by (connection_at t n) refl some where
  by : (o : Option Connection) → connection_at t n ≡ o → is_some (option_and_then (λ (c : Connection). c.pending) o) ≡ true → list_any (λ m. m == n) (cores t) ≡ true
  by None e h = absurd (false≢true h)
  by (Some c) e h = core_listed t n c e (found_holds IsAsked (λ k. k.number == n) t.connections c s.asked e h)

-- and one on which a call may come
idle_listed : (t : Tables) (n : ℕ) → lives_as t n role.Core ≡ true → list_any (λ m. m == n) (cores t) ≡ true
idle_listed t n lives = by (connection_at t n) refl lives where
  by : (o : Option Connection) → connection_at t n ≡ o → has_role_of role.Core o ≡ true → list_any (λ m. m == n) (cores t) ≡ true
  by None e h = absurd (false≢true h)
  by (Some c) e h = core_listed t n c e h

-- a call that comes finds room among the arrivals
pub arrival_room : (t : Tables) (conn : ℕ) → IsSound t → is_idle t conn ≡ true → length t.arrivals < ROLE_MAX
arrival_room t conn s idle =
    let new = come-none t.arrivals conn (idle-new t conn s.waiting idle) in
    let fewer : length t.arrivals < length (cores t) =
    few_numbers t.arrivals (cores t) conn s.once
    (λ k d h. asked_listed t _ s (sym (s.waiting _) ∙ list_any_at (λ m. m == get_or t.arrivals k d) t.arrivals k d h (eqb-self (get_or t.arrivals k d))))
    (idle_listed t conn (and_parts _ _ idle).0) (λ k d h same. new k d h (sym same)) in
    omega (
      arith,
      fewer,
      s.few,
      length-map (filter (λ (c : Connection). same_role c.role role.Core) t.connections) (λ (c : Connection). c.number),
      length-filter (λ (c : Connection). same_role c.role role.Core) t.connections,
    )
