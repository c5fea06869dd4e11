-- What a contract sees of a gate.
use Rattle.vx_gate.specs.PassView.{GateId}
use Rattle.vx_gate.specs.declared.gates.Gate.{Gate}

-- which gate it is
abbrev pub gate_of : {K G : Type 0} → Gate K G → GateId
gate_of gate = gate.table.shared.table_id

-- the value that it was started over, as it was then
abbrev pub first_of : {K G : Type 0} → Gate K G → K
first_of gate = gate.table.shared.key.value
