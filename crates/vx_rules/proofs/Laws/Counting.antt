-- How many core connections live behind each change of the tables.
use Rattle.std.proofs.Common.{◌≡◌, ◌≤◌, ◌+◌, ◌==◌, ℕ, Bool, true, false, cond, not, List, [], ◌∷◌, map, count_by, Option, None, refl, sym, ap, ◌∙◌, arith}
use Rattle.std.proofs.lemmas.Bool.{and_parts, ltb-true}
use Rattle.std.proofs.lemmas.List.Filters.{sum_by-filter_both}
use Rattle.std.proofs.lemmas.List.Sums.{sum_by-cons, sum_by_push}
use Rattle.vx_calls.specs.declared.limits.TheConstants.{ROLE_MAX}
use Rattle.vx_calls.specs.declared.calls.Role.{Role}
use Rattle.vx_calls.specs.declared.calls.Role.TheVariants as role
use Rattle.vx_rules.specs.Lists.{update_first}
use Rattle.vx_rules.specs.State.{Pending, Connection, Tables, same_role, count_of, has_room, with_pending, with_connection, without_connection}
use Rattle.vx_rules.specs.AtomicStep.{mark_on, marked}

-- one connection more in front is counted where it passes the test
pub count-front : (p : Connection → Bool) (c : Connection) (cs : List Connection) → count_by p (c ∷ cs) ≡ cond (p c) 1 0 + count_by p cs
count-front p c cs = sum_by-cons (λ c. cond (p c) 1 0) c cs

-- a change of the first that passes leaves how many pass another test that it leaves
pub count-update : (p q : Connection → Bool) (g : Connection → Connection) → ((c : Connection) → p (g c) ≡ p c) → (cs : List Connection)
    → count_by p (update_first q g cs) ≡ count_by p cs
count-update p q g same [] = refl
count-update p q g same (c ∷ cs) = by (q c) (count-update p q g same cs) where
  by : (b : Bool) → count_by p (update_first q g cs) ≡ count_by p cs → count_by p (cond b (g c ∷ cs) (c ∷ update_first q g cs)) ≡ count_by p (c ∷ cs)
  by true rest = count-front p (g c) cs ∙ ap (λ b. cond b 1 0 + count_by p cs) (same c) ∙ sym (count-front p c cs)
  by false rest = count-front p c (update_first q g cs) ∙ ap (λ n. cond (p c) 1 0 + n) rest ∙ sym (count-front p c cs)

-- and so does one of all
pub count-map : (p : Connection → Bool) (g : Connection → Connection) → ((c : Connection) → p (g c) ≡ p c) → (cs : List Connection) → count_by p (map g cs) ≡ count_by p cs
count-map p g same [] = refl
count-map p g same (c ∷ cs) =
    count-front p (g c) (map g cs) ∙ ap (λ b. cond b 1 0 + count_by p (map g cs)) (same c) ∙ ap (λ n. cond (p c) 1 0 + n) (count-map p g same cs)
    ∙ sym (count-front p c cs)

-- calls leave the count
pub count-called : (t : Tables) (conn : ℕ) (p : Option Pending) → count_of (with_pending t conn p) role.Core ≡ count_of t role.Core
count-called t conn p =
    count-update (λ c. same_role c.role role.Core) (λ c. c.number == conn) (λ c. record c { pending = p }) (λ c. refl) t.connections

-- and so do marks
pub count-marks : (t : Tables) (lid : ℕ) → count_of (marked t lid) role.Core ≡ count_of t role.Core
count-marks t lid = count-map (λ c. same_role c.role role.Core) (mark_on lid) (λ c. refl) t.connections

-- a connection that goes leaves no more
pub count-down : (t : Tables) (conn : ℕ) → count_of (without_connection t conn) role.Core ≤ count_of t role.Core
count-down t conn =
    omega (
      arith,
      sum_by-filter_both (λ (c : Connection). not (c.number == conn)) (λ c. not (not (c.number == conn))) (λ c. refl)
          (λ c. cond (same_role c.role role.Core) 1 0) t.connections,
    )

-- one that comes up has room
pub count-up : (t : Tables) (r : Role) → has_room t r ≡ true → count_of t role.Core ≤ ROLE_MAX → count_of (with_connection t r) role.Core ≤ ROLE_MAX
count-up t role.Core room few =
    omega (
      arith,
      ltb-true (count_of t role.Core) ROLE_MAX (and_parts _ _ room).0,
      sum_by_push (λ (c : Connection). cond (same_role c.role role.Core) 1 0) t.connections (record { number = t.next_connection; role = role.Core; pending = None }),
    )
count-up t role.Abort room few =
    omega (
      arith,
      few,
      sum_by_push (λ (c : Connection). cond (same_role c.role role.Core) 1 0) t.connections (record { number = t.next_connection; role = role.Abort; pending = None }),
    )
