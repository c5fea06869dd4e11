use Rattle.vx_desks.proofs.joining.undo_all.Goals as goal

pub undo-requires : goal.undo-requires
undo-requires g c = record { gate = c.requires.gates.zero_; phase = (c.requires.phases.0, c.requires.phases.1.zero_) }

pub undo-requires-2 : goal.undo-requires-2
undo-requires-2 g c = record { gate = c.requires.gates.one; phase = (c.requires.phases.0, c.requires.phases.1.one) }

pub undo-requires-3 : goal.undo-requires-3
undo-requires-3 g c = record { gate = c.requires.gates.two; phase = (c.requires.phases.0, c.requires.phases.1.two) }

pub undo-requires-4 : goal.undo-requires-4
undo-requires-4 g c = record { gate = c.requires.gates.three; phase = (c.requires.phases.0, c.requires.phases.1.three) }

pub returns : goal.returns
returns g c = record { zero_ = c.undo.ensures; one = c.undo-2.ensures; two = c.undo-3.ensures; three = c.undo-4.ensures }
