use Rattle.std.proofs.Common.{◌∙◌}
use Rattle.vx_desks.proofs.joining.join_all.Goals as goal

pub join-zero-requires : goal.join-zero-requires
join-zero-requires g c = record { gate = c.requires.gates.zero_ }

pub join-one-requires : goal.join-one-requires
join-one-requires g c = record { gate = c.requires.gates.one }

pub join-two-requires : goal.join-two-requires
join-two-requires g c = record { gate = c.requires.gates.two }

pub join-three-requires : goal.join-three-requires
join-three-requires g c = record { gate = c.requires.gates.three }

pub returns : goal.returns
returns g c = record {
  joins = record { zero_ = c.join-zero.ensures; one = c.join-one.ensures; two = c.join-two.ensures; three = c.join-three.ensures };
  gates = record { zero_ = c.join-zero.ensures.turns.makes.gate ∙ c.requires.gates.zero_; one = c.join-one.ensures.turns.makes.gate ∙ c.requires.gates.one; two = c.join-two.ensures.turns.makes.gate ∙ c.requires.gates.two; three = c.join-three.ensures.turns.makes.gate ∙ c.requires.gates.three };
}
