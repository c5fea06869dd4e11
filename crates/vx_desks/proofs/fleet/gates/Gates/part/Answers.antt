use Rattle.vx_desks.proofs.fleet.gates.Gates.part.Goals as goal

pub part-zero-requires : goal.part-zero-requires
part-zero-requires g c = record { gate = c.requires.gates.zero_; parts = c.requires.parts.zero_ }

pub part-one-requires : goal.part-one-requires
part-one-requires g c = record { gate = c.requires.gates.one; parts = c.requires.parts.one }

pub part-two-requires : goal.part-two-requires
part-two-requires g c = record { gate = c.requires.gates.two; parts = c.requires.parts.two }

pub part-three-requires : goal.part-three-requires
part-three-requires g c = record { gate = c.requires.gates.three; parts = c.requires.parts.three }

pub returns : goal.returns
returns g c = record {
  first = record { zero_ = c.part-zero.ensures.first; one = c.part-one.ensures.first; two = c.part-two.ensures.first; three = c.part-three.ensures.first };
  second = record {
    zero_ = record { gate_is = c.part-zero.ensures.second.0; parts = c.part-zero.ensures.second.1; seen = c.part-zero.ensures.second.2; own = c.part-zero.ensures.second.3 };
    one = record { gate_is = c.part-one.ensures.second.0; parts = c.part-one.ensures.second.1; seen = c.part-one.ensures.second.2; own = c.part-one.ensures.second.3 };
    two = record { gate_is = c.part-two.ensures.second.0; parts = c.part-two.ensures.second.1; seen = c.part-two.ensures.second.2; own = c.part-two.ensures.second.3 };
    three = record { gate_is = c.part-three.ensures.second.0; parts = c.part-three.ensures.second.1; seen = c.part-three.ensures.second.2; own = c.part-three.ensures.second.3 };
  };
  numbers = record { zero_ = c.part-zero.ensures.numbers; one = c.part-one.ensures.numbers; two = c.part-two.ensures.numbers; three = c.part-three.ensures.numbers };
  order = record { zero_ = c.part-zero.ensures.order; one = c.part-one.ensures.order; two = c.part-two.ensures.order; three = c.part-three.ensures.order };
}
