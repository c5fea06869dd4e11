-- What a pass's own groups tell of a connection is so, and the events of a connection are made by one pass alone.
use Rattle.std.proofs.Common.{◌≡◌, ◌<◌, ◌≤◌, ◌==◌, not, Some, ◌++◌, ◌⊎◌, inl, inr, ℕ, suc, zero, Bool, true, false, cond, List, [], ◌∷◌, length, get_or, refl, sym, ap, ◌∙◌, subst, arith}
use Rattle.std.specs.List.{Contains, filter}
use Rattle.std.proofs.lemmas.List.{length-map}
use Rattle.std.proofs.lemmas.List.Filters.{length-filter_both}
use Rattle.std.proofs.lemmas.Bool.{cases_eq, eq-eqb, ne_eqb, cond-true, cond-false}
use Rattle.std.proofs.lemmas.List.Elements.{All-map, All-filter, All-weaker, Contains-append_left, Contains-append_right, Contains-append_cases}
use Rattle.vx_gate.specs.declared.views.Logged.{Logged}
use Rattle.vx_gate.specs.History.{groups}
use Rattle.vx_calls.specs.declared.limits.TheConstants.{LINK_LAST}
use Rattle.vx_rules.specs.Table.{Link}
use Rattle.vx_flow.specs.Event.{Event, Up}
use Rattle.vx_flow.specs.InterleavedState.{InterleavedState}
use Rattle.vx_group.specs.Groups.{Group, events_of}
use Rattle.vx_group.specs.Phases.{HasPhase, phase_by}
use Rattle.vx_group.specs.MadeLinks.{numbers_of}
use Rattle.vx_group.specs.Laws.{PhaseLaw, LinksLaw, FewLinksLaw, OwnedLaw}
use Rattle.vx_group.proofs.Standing.{sound-holds}
use Rattle.vx_group.proofs.Phasing.{later-phase}
use Rattle.vx_group.proofs.Turns.{own_of, history-known}

-- the state has each connection as the groups of a pass tell
pub phases-hold : PhaseLaw
phases-hold log f number conn law stands =
    let phase = phase_by conn (own_of log number) in
    subst (λ s. HasPhase s conn phase) (sym stands.same)
    (later-phase phase stands.last f.state.moment conn ((history-known log f law stands).phases number conn))

-- and the links that it has as they tell
pub links-hold : LinksLaw
links-hold log f number conn law stands up =
    (history-known log f law stands).links number conn up ∙ ap (λ (s : InterleavedState). Some (numbers_of s.state.tables conn)) (sym stands.same)

-- they are among the live links, of which there are at most 1,024
pub few_links-hold : FewLinksLaw
few_links-hold log f conn stands =
    let numbered = (sound-holds log f stands).tables.numbered in
    let links = f.state.tables.links.links in
    let mine = filter (λ (l : Link). l.connection == conn) links in
    let both = length-filter_both (λ (l : Link). l.connection == conn) (λ l. not (l.connection == conn)) (λ l. refl) links in
    let long = length-map mine (λ (l : Link). l.number) in (
      omega (arith, both, long, numbered.few),
      All-map (λ n. n ≤ LINK_LAST) (λ (l : Link). l.number) mine
          (All-filter (λ (l : Link). l.connection == conn) (λ (l : Link). l.number ≤ LINK_LAST) links
          (All-weaker (λ (l : Link). (0 < l.number) × (l.number < f.state.tables.links.next)) (λ (l : Link). l.number ≤ LINK_LAST)
          (λ l h. let low = h.1 in omega (arith, low, numbered.last)) links numbered.given)),
    )

-- ---- where an event stands

-- what stands in a list is its first element, or stands behind it
stands-in : {X : Type 0} (x : X) (xs : List X) (y : X) (k : ℕ) → k < length (x ∷ xs) → get_or (x ∷ xs) k y ≡ y → (x ≡ y) ⊎ Contains xs y
stands-in x xs y zero within is = inl is
stands-in x xs y (suc k) within is = inr (k, omega arith, is)

-- a pass's events in a history by its first group
own-cons : (n : ℕ) (x : Logged Group) (log : List (Logged Group)) → own_of (x ∷ log) n ≡ cond (x.by == n) (x.group.events ++ own_of log n) (own_of log n)
own-cons n x log = by (x.by == n) where
  by : (b : Bool) → events_of (groups (cond b (x ∷ filter (λ m. m.by == n) log) (filter (λ m. m.by == n) log)))
      ≡ cond b (x.group.events ++ own_of log n) (own_of log n)
  by true = refl
  by false = refl

-- where the group is its own it has the group's events in front
own-mine : (n : ℕ) (x : Logged Group) (log : List (Logged Group)) → x.by ≡ n → own_of (x ∷ log) n ≡ x.group.events ++ own_of log n
own-mine n x log is = own-cons n x log ∙ cond-true (x.by == n) (x.group.events ++ own_of log n) (own_of log n) (eq-eqb x.by n is)

-- where the group is of another pass it has the rest alone
own-other : (n : ℕ) (x : Logged Group) (log : List (Logged Group)) → (x.by ≡ n → ⊥) → own_of (x ∷ log) n ≡ own_of log n
own-other n x log ne = own-cons n x log ∙ cond-false (x.by == n) (x.group.events ++ own_of log n) (own_of log n) (ne_eqb x.by n ne)

-- an event of a group is one of the pass that made the group
in-own : (log : List (Logged Group)) (m : Logged Group) (e : Event) → Contains log m → Contains m.group.events e → Contains (own_of log m.by) e
in-own [] m e none at = absurd (omega (arith, none.1))
in-own (x ∷ log) m e in_log at = by (stands-in x log m in_log.0 in_log.1 in_log.2) (in-own log m e) where
  behind : (x.by ≡ m.by) ⊎ (x.by ≡ m.by → ⊥) → Contains (own_of log m.by) e → Contains (own_of (x ∷ log) m.by) e
  behind (inl mine) rest = subst (λ es. Contains es e) (sym (own-mine m.by x log mine)) (Contains-append_right x.group.events (own_of log m.by) e rest)
  behind (inr other) rest = subst (λ es. Contains es e) (sym (own-other m.by x log other)) rest

  by : (x ≡ m) ⊎ Contains log m → (Contains log m → Contains m.group.events e → Contains (own_of log m.by) e) → Contains (own_of (x ∷ log) m.by) e
  by (inl is) rest =
      subst (λ es. Contains es e) (sym (own-mine m.by x log (ap (λ (y : Logged Group). y.by) is)))
      (Contains-append_left x.group.events (own_of log m.by) e (subst (λ (y : Logged Group). Contains y.group.events e) (sym is) at))
  by (inr later) rest = behind (cases_eq x.by m.by) (rest later at)

-- an event of a pass stands in a group that it made
record Source (log : List (Logged Group)) (n : ℕ) (e : Event) : Type 0 where
  made : Logged Group
  in_log : Contains log made
  by_pass : made.by ≡ n
  in_group : Contains made.group.events e

-- it stands in a group behind the first one
later-source : (x : Logged Group) (log : List (Logged Group)) (n : ℕ) (e : Event) → Source log n e → Source (x ∷ log) n e
later-source x log n e s = record { made = s.made; in_log = Contains-append_right (x ∷ []) log s.made s.in_log; by_pass = s.by_pass; in_group = s.in_group }

-- so does each event of a pass
from-own : (log : List (Logged Group)) (n : ℕ) (e : Event) → Contains (own_of log n) e → Source log n e
from-own [] n e none = absurd (omega (arith, none.1))
from-own (x ∷ log) n e at = by (cases_eq x.by n) (from-own log n e) where
  mine : (x.by ≡ n) → Contains x.group.events e ⊎ Contains (own_of log n) e → (Contains (own_of log n) e → Source log n e) → Source (x ∷ log) n e
  mine is (inl here) rest = record { made = x; in_log = (0, omega arith, refl); by_pass = is; in_group = here }
  mine is (inr later) rest = later-source x log n e (rest later)

  by : (x.by ≡ n) ⊎ (x.by ≡ n → ⊥) → (Contains (own_of log n) e → Source log n e) → Source (x ∷ log) n e
  by (inl is) rest = mine is (Contains-append_cases x.group.events (own_of log n) e (subst (λ es. Contains es e) (own-mine n x log is) at)) rest
  by (inr ne) rest = later-source x log n e (rest (subst (λ es. Contains es e) (own-other n x log ne) at))

-- the events of a connection are made by the one pass that has it come up
pub owned-holds : OwnedLaw
owned-holds log f law stands m e conn in_log at of_it =
    let known = history-known log f law stands in
    let raised = known.owned m.by conn e (in-own log m e in_log at) of_it in
    let source = from-own log m.by (Up conn raised.0) raised.1 in
    record {
      raiser = source.made;
      in_log = source.in_log;
      raises = (raised.0, source.in_group);
      same = source.by_pass;
      alone = λ other also raises. known.once other.by m.by conn raises.0 raised.0 (in-own log other (Up conn raises.0) also raises.1) raised.1;
    }
