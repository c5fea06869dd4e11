-- What a desk with a table of names does, by what the desk below does.
use Rattle.std.specs.Prelude.{◌≡◌, ℕ, List, Option, Result}
use Rattle.vx_calls.specs.declared.calls.Role.{Role}
use Rattle.vx_calls.specs.Call.{Call}
use Rattle.vx_state.specs.declared.tables.Connect.{Connect}
use Rattle.vx_session.specs.declared.desks.Desk.{Ghosts}
use Rattle.vx_desks.specs.declared.named.Named.{Named}
use Rattle.vx_desks.specs.Names.{named}

-- a connection came up below, or was refused there, and the names are as they were
pub record NamedJoins {D : Type 0} (ways : Ghosts D) (s : Named D) (r : Role) (answer : Result Unit Connect) (s' : Named D) : Type 0 where
  pub below : ways.joins s.desk r answer s'.desk
  pub names : s'.names.now ≡ s.names.now

-- the call was answered below as it is with the names, and these are as they were
pub record NamedAsks {D : Type 0} (ways : Ghosts D) (s : Named D) (xid : ℕ) (call : Call) (reply : Option (List ℕ)) (s' : Named D) : Type 0 where
  pub below : ways.asks s.desk xid (named s.names.now call) reply s'.desk
  pub names : s'.names.now ≡ s.names.now

-- the device_abort was told below, and the names are as they were
pub record NamedAborts {D : Type 0} (ways : Ghosts D) (s : Named D) (xid lid : ℕ) (reply : List ℕ) (s' : Named D) : Type 0 where
  pub below : ways.aborts s.desk xid lid reply s'.desk
  pub names : s'.names.now ≡ s.names.now

-- the connection went below, and the names are as they were
pub record NamedLeaves {D : Type 0} (ways : Ghosts D) (s : Named D) (s' : Named D) : Type 0 where
  pub below : ways.leaves s.desk s'.desk
  pub names : s'.names.now ≡ s.names.now

-- the ways of a desk with names, by those of the desk below
abbrev pub named_ways : {D : Type 0} → Ghosts D → Ghosts (Named D)
named_ways ways = record {
  number = λ s. ways.number s.desk;
  free = λ s. ways.free s.desk;
  idle = λ s r. ways.idle s.desk r;
  joins = λ s r answer s'. NamedJoins ways s r answer s';
  asks = λ s xid call reply s'. NamedAsks ways s xid call reply s';
  aborts = λ s xid lid reply s'. NamedAborts ways s xid lid reply s';
  leaves = λ s s'. NamedLeaves ways s s';
}

-- the ways of a desk whose calls are read so before they come to it
abbrev pub read_ways : {D : Type 0} → (Call → Call) → Ghosts D → Ghosts D
read_ways reads ways = record ways { asks = λ s xid call reply s'. ways.asks s xid (reads call) reply s' }
