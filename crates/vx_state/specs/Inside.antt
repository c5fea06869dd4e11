-- What the fields of a `Tables` hold, as the tables of a gateway, and what is true of them.
use Rattle.std.specs.Prelude.{◌<◌, ◌≤◌, ◌+◌, ℕ, List, map, vec_capacity}
use Rattle.std.specs.List.{All, AllPairs}
use Rattle.vx_calls.specs.declared.limits.TheConstants.{ROLE_MAX, CONNECTION_LAST}
use Rattle.vx_state.specs.declared.tables.Tables.TheInside.{Inside}
use Rattle.vx_rules.specs.State as state
use Rattle.vx_state.specs.Rows.{connection_of}
use Rattle.vx_rules.specs.Serving.{IsPlainLink}
use Rattle.vx_rules.specs.Sound.{IsSound}

abbrev pub tables_of : Inside → state.Tables
tables_of t = record {
  connections = map connection_of t.rows.items;
  next_connection = t.next;
  arrivals = t.arrivals.items;
  links = t.links;
  locks = t.locks;
  srq_state = t.srq;
  abort_port = t.abort_port;
}

-- the numbers of connections
abbrev pub numbers_of : List state.Connection → List ℕ
numbers_of cs = map (λ c. c.number) cs

-- numbers that were given out one after the other, before this one
pub record AreGiven (numbers : List ℕ) (next : ℕ) : Type 0 where
  pub rising : AllPairs (λ a b. a < b) numbers
  pub given : All (λ n. n < next) numbers

-- the tables are sound, the connections stand in order of number, the numbers of connections have not run past the last, the addresses of links are at most 30, and the
-- room of all arrivals stands
pub record IsKept (t : Inside) : Type 0 where
  pub sound : IsSound (tables_of t)
  pub ordered : AreGiven (numbers_of (tables_of t).connections) t.next
  pub numbers : t.next ≤ CONNECTION_LAST + 1
  pub plain : All IsPlainLink t.links.links
  pub room : ROLE_MAX ≤ vec_capacity t.arrivals
