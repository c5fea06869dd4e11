-- What the fields of a `Plain` hold, as the state of a gateway, and what is true of them.
use Rattle.std.specs.Prelude.{◌≤◌}
use Rattle.vx_488.specs.declared.transfers.TheConstants.{ADDRESS_MAX}
use Rattle.vx_model.specs.declared.plain.Plain.TheInside.{Inside}
use Rattle.vx_rules.specs.State.{State}

abbrev pub state_of : Inside → State
state_of p = record { tables = p.tables; wire = p.wire; moment = p.moment }

-- the gateway's own address is at most 30
abbrev pub HasAddress : Inside → Type 0
HasAddress p = p.wire.own ≤ ADDRESS_MAX
