-- Four gates, as a contract sees them.
use Rattle.std.specs.Prelude.{List, [], ◌∷◌}
use Rattle.vx_gate.specs.Gates.{gate_of, first_of}
use Rattle.vx_gate.specs.PassView.{GateId}
use Rattle.vx_desks.specs.Four.{Four}
use Rattle.vx_desks.specs.declared.fleet.gates.Gates.{Gates}

-- which gates they are, by their numbers
abbrev pub gates_shown : {K G : Type 0} → Gates K G → Four GateId
gates_shown g = record { zero_ = gate_of g.zero; one = gate_of g.one; two = gate_of g.two; three = gate_of g.three }

-- the values that they were started over, by their numbers
abbrev pub firsts_shown : {K G : Type 0} → Gates K G → Four K
firsts_shown g = record { zero_ = first_of g.zero; one = first_of g.one; two = first_of g.two; three = first_of g.three }

-- each value of the first list, in its order, became the one at its place of the second, with no group in between
abbrev pub ComeBack : {K G : Type 0} → (K → K → List G → Type 0) → List K → List K → Type 0
ComeBack stands [] [] = Unit {0}
ComeBack stands (first ∷ firsts) (now ∷ nows) = stands first now [] × ComeBack stands firsts nows
ComeBack stands _ _ = ⊥
