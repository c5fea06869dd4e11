use Rattle.std.proofs.Common.{ap}
use Rattle.vx_group.specs.Phases.{is_up}
use Rattle.vx_desks.proofs.leaving.leave_all.Goals as goal

pub leave-requires : goal.leave-requires
leave-requires g c = record { gate = c.requires.gates.zero_; phase = ap is_up c.requires.idle.1.zero_ }

pub leave-requires-2 : goal.leave-requires-2
leave-requires-2 g c = record { gate = c.requires.gates.one; phase = ap is_up c.requires.idle.1.one }

pub leave-requires-3 : goal.leave-requires-3
leave-requires-3 g c = record { gate = c.requires.gates.two; phase = ap is_up c.requires.idle.1.two }

pub leave-requires-4 : goal.leave-requires-4
leave-requires-4 g c = record { gate = c.requires.gates.three; phase = ap is_up c.requires.idle.1.three }

pub returns : goal.returns
returns g c = record { zero_ = c.leave.ensures; one = c.leave-2.ensures; two = c.leave-3.ensures; three = c.leave-4.ensures }
