-- To be believed.
-- The links that live, as a plain list, and what each call makes of it.
use Rattle.std.specs.Prelude.{ℕ, ◌+◌, ◌<◌, ◌≤◌, Bool, false, not, ◌||◌, ◌==◌, nat_lt, nat_le, List, [], ◌∷◌, ◌++◌, length, find, filter, Option}
use Rattle.std.specs.List.{list_any, All, AllPairs}
use Rattle.vx_calls.specs.declared.targets.Target.{Target}
use Rattle.vx_calls.specs.declared.targets.Target.TheVariants.{Interface, Device}
use Rattle.vx_calls.specs.declared.limits.TheConstants.{LINK_MAX, LINK_LAST}

-- a link: its number, the connection that made it, and what it is to
pub record Link : Type 0 where
  pub number : ℕ
  pub connection : ℕ
  pub target : Target

-- the links that live, in order of their numbers, and the number that comes next
pub record Table : Type 0 where
  pub links : List Link
  pub next : ℕ

-- no link, and first number 1
abbrev pub empty : Table
empty = record { links = []; next = 1 }

-- whether no link can be made: 1,024 live, or number 2^30 - 1 was given out
abbrev pub is_full : Table → Bool
is_full t = nat_le LINK_MAX (length t.links) || nat_lt LINK_LAST t.next

-- the link of this number, where it lives
abbrev pub link_at : Table → ℕ → Option Link
link_at t lid = find (λ l. l.number == lid) t.links

-- whether a link of this number lives
abbrev pub is_live : Table → ℕ → Bool
is_live t lid = list_any (λ l. l.number == lid) t.links

-- the first link of the connection
abbrev pub first_link_of : Table → ℕ → Option Link
first_link_of t conn = find (λ l. l.connection == conn) t.links

-- whether a target is a device of this primary address
abbrev pub is_at : ℕ → Target → Bool
is_at p Interface = false
is_at p (Device q s) = q == p

-- whether a live link is to a device of this primary address
abbrev pub uses_address : Table → ℕ → Bool
uses_address t p = list_any (λ l. is_at p l.target) t.links

-- one link more, at the end, with the next number
abbrev pub with_link : Table → ℕ → Target → Table
with_link t conn target = record {
  links = t.links ++ record { number = t.next; connection = conn; target = target } ∷ [];
  next = t.next + 1;
}

-- the link of this number gone
abbrev pub without_link : Table → ℕ → Table
without_link t lid = record t { links = filter (λ l. not (l.number == lid)) t.links }

-- the numbers of a table's links rise, from 1 on and below the one that comes next; there are at most 1,024 links and
-- numbers up to 2^30 - 1
pub record IsNumbered (t : Table) : Type 0 where
  pub rising : AllPairs (λ a b. a.number < b.number) t.links
  pub given : All (λ l. (0 < l.number) × (l.number < t.next)) t.links
  pub few : length t.links ≤ LINK_MAX
  pub first : 0 < t.next
  pub last : t.next ≤ LINK_LAST + 1
