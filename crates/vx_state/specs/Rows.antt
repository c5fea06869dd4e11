-- The connections that the rows of the tables show.
use Rattle.std.specs.Prelude.{ℕ, List, Option}
use Rattle.std.specs.Option.{option_map}
use Rattle.vx_state.specs.declared.tables.rows.Row.{Row}
use Rattle.vx_state.specs.declared.tables.rows.PendingRow.{PendingRow}
use Rattle.vx_rules.specs.State.{Pending, Connection}
use Rattle.vx_state.specs.Held.{kept_call}

-- a pending call with these bytes and this handle
abbrev pub asked_call : PendingRow → List ℕ → List ℕ → Pending
asked_call a text handle = record { call = kept_call a.call text handle; arrival = a.arrival; aborted = a.aborted }

-- the pending call of a row
abbrev pub pending_of : Row → Option Pending
pending_of r = option_map (λ a. asked_call a r.text.bytes.items r.handle.bytes.items) r.asked

abbrev pub connection_of : Row → Connection
connection_of r = record { number = r.number; role = r.role; pending = pending_of r }
