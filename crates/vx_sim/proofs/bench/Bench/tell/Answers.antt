use Rattle.std.proofs.Common.{arith}
use Rattle.vx_sim.specs.Occupants.{Receives}
use Rattle.vx_sim.specs.Shown.{placed_of, is_meant}
use Rattle.vx_sim.proofs.Apart.{held_in_order, held_changed}
use Rattle.vx_sim.proofs.bench.Bench.tell.Goals as goal

pub invariant_of-self : goal.invariant_of-self
invariant_of-self g c =
    (omega arith, omega arith, held_in_order placed_of (is_meant c.args.wire.now c.args.whom) (Receives c.args.signal) c.self.inside.places c.deref_mut.result.now c.tell_all.new.places c.deref_mut.ensures.value (omega arith) c.tell_all.ensures c.self.invariant.2)

pub returns : goal.returns
returns g c =
    held_changed placed_of (is_meant c.args.wire.now c.args.whom) (Receives c.args.signal) c.self.inside.places c.args.self.now c.deref_mut.result.now c.tell_all.new.places
    c.deref_mut.ensures.value (omega arith) c.self.view_is c.tell_all.ensures
