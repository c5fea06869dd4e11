-- What the player keeps.
use Rattle.std.specs.Prelude.{ℕ, List, Option}
use Rattle.std.specs.Ordering.{nat_cmp}
use Rattle.std.specs.Map.{lookup}
use Rattle.std.specs.BTreeMap.{is_at}
use Rattle.vx_sim.specs.SimState.{SimState}
use Rattle.vx_core.specs.CoreState.{CoreState}
use Rattle.vx_player.specs.declared.pieces.Incoming.{Incoming}
use Rattle.vx_setup.specs.Rack.{SpareShown}

-- the core; of each connection what has come of a record, and the xid of the last call that it kept; the room for a reply's
-- record; the message of the last whole record; the spare instruments that are left; and the moment of the next steps, in milliseconds
pub record PlayerState : Type 0 where
  pub core : CoreState SimState
  pub incoming : List (ℕ × Incoming)
  pub reply : List ℕ
  pub message : List ℕ
  pub rack : List SpareShown
  pub moment : ℕ

-- what is kept of a connection
abbrev pub incoming_at : List (ℕ × Incoming) → ℕ → Option Incoming
incoming_at incoming conn = lookup (is_at (nat_cmp conn)) incoming
