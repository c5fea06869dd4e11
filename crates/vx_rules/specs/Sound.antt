-- To be believed.
-- What holds of the tables of every gateway.
use Rattle.std.specs.Prelude.{◌≡◌, ◌≢◌, ◌≤◌, ℕ, Bool, true, ◌&&◌, ◌==◌, List, is_some}
use Rattle.std.specs.List.{list_any, All, AllPairs}
use Rattle.vx_calls.specs.declared.calls.Role.TheVariants as role
use Rattle.vx_calls.specs.declared.limits.TheConstants.{ROLE_MAX}
use Rattle.vx_rules.specs.Table.{Link, IsNumbered, is_live}
use Rattle.vx_rules.specs.Locks.{Lock, IsApart}
use Rattle.vx_rules.specs.SrqState.{SrqState, Enable, LinksRise}
use Rattle.vx_rules.specs.State.{Connection, Tables, same_role, pending_at, count_of, has_come}

-- whether the connection has a live link of this number
abbrev pub owns : List Link → ℕ → ℕ → Bool
owns live lid conn = list_any (λ l. (l.number == lid) && (l.connection == conn)) live

-- whether the connection may have an interrupt channel
abbrev pub has_slot : SrqState → ℕ → Bool
has_slot d conn = list_any (λ p. p.connection == conn) d.slots

-- the lock's link lives
abbrev pub IsHeld : Tables → Lock → Type 0
IsHeld t k = is_live t.links k.link ≡ true

-- the enable's link lives, and is its connection's
abbrev pub IsOwned : Tables → Enable → Type 0
IsOwned t e = owns t.links.links e.link e.connection ≡ true

-- a core connection may have a channel, and only such a one has a call
abbrev pub IsAdded : Tables → Connection → Type 0
IsAdded t c = same_role c.role role.Core ≡ true → has_slot t.srq_state c.number ≡ true

abbrev pub IsAsked : Connection → Type 0
IsAsked c = is_some c.pending ≡ true → same_role c.role role.Core ≡ true

-- each connection is at most once among the arrivals
abbrev pub IsOnce : Tables → Type 0
IsOnce t = AllPairs (λ a b. a ≢ b) t.arrivals

-- those among them are exactly the connections that have a call without an answer
abbrev pub AreWaiting : Tables → Type 0
AreWaiting t = (conn : ℕ) → has_come t.arrivals conn ≡ is_some (pending_at t conn)

-- Numbers of links rise; no link holds two locks, and no two locks are on conflicting targets; whoever holds a lock lives,
-- and so does each link with an enable; the enables are in order of their links' numbers; core connections may have channels, and
-- they alone have calls; at most 64 of them live; the arrivals are exactly the connections that have a call, each once.
pub record IsSound (t : Tables) : Type 0 where
  pub numbered : IsNumbered t.links
  pub apart : IsApart t.locks
  pub held : All (IsHeld t) t.locks
  pub owned : All (IsOwned t) t.srq_state.enables
  pub in_order : LinksRise t.srq_state.enables
  pub added : All (IsAdded t) t.connections
  pub asked : All IsAsked t.connections
  pub few : count_of t role.Core ≤ ROLE_MAX
  pub once : IsOnce t
  pub waiting : AreWaiting t
