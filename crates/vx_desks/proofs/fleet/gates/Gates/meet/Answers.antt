use Rattle.vx_desks.proofs.fleet.gates.Gates.meet.Goals as goal

pub meet-zero-requires : goal.meet-zero-requires
meet-zero-requires g c = record { into = c.requires.into.zero_; other = c.requires.other.zero_ }

pub meet-one-requires : goal.meet-one-requires
meet-one-requires g c = record { into = c.requires.into.one; other = c.requires.other.one }

pub meet-two-requires : goal.meet-two-requires
meet-two-requires g c = record { into = c.requires.into.two; other = c.requires.other.two }

pub meet-three-requires : goal.meet-three-requires
meet-three-requires g c = record { into = c.requires.into.three; other = c.requires.other.three }

pub returns : goal.returns
returns g c = record {
  zero_ = record { gate_is = c.meet-zero.ensures.same.0; number = c.meet-zero.ensures.same.1; own = c.meet-zero.ensures.same.2; parts = c.meet-zero.ensures.parts; longer = c.meet-zero.ensures.longer; begins = c.meet-zero.ensures.begins; order = c.meet-zero.ensures.order };
  one = record { gate_is = c.meet-one.ensures.same.0; number = c.meet-one.ensures.same.1; own = c.meet-one.ensures.same.2; parts = c.meet-one.ensures.parts; longer = c.meet-one.ensures.longer; begins = c.meet-one.ensures.begins; order = c.meet-one.ensures.order };
  two = record { gate_is = c.meet-two.ensures.same.0; number = c.meet-two.ensures.same.1; own = c.meet-two.ensures.same.2; parts = c.meet-two.ensures.parts; longer = c.meet-two.ensures.longer; begins = c.meet-two.ensures.begins; order = c.meet-two.ensures.order };
  three = record { gate_is = c.meet-three.ensures.same.0; number = c.meet-three.ensures.same.1; own = c.meet-three.ensures.same.2; parts = c.meet-three.ensures.parts; longer = c.meet-three.ensures.longer; begins = c.meet-three.ensures.begins; order = c.meet-three.ensures.order };
}
