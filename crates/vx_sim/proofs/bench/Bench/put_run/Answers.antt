use Rattle.std.proofs.Common.{take, arith}
use Rattle.vx_488.specs.declared.transfers.Transfer.TheVariants.{Put}
use Rattle.vx_488.specs.Bursts.{ended}
use Rattle.vx_sim.specs.Bench.{everyone, PlaceTakes}
use Rattle.vx_sim.specs.Occupants.{TakesPuts}
use Rattle.vx_sim.specs.Shown.{placed_of}
use Rattle.vx_sim.proofs.Apart.{held_in_order}
use Rattle.vx_sim.proofs.Runs.{stays-at, held-at}
use Rattle.vx_sim.proofs.bench.Bench.put_run.Goals as goal

pub invariant_of-self : goal.invariant_of-self
invariant_of-self g c = (
  omega arith,
  omega arith,
  held_in_order placed_of everyone (λ o n. Unit {0}) c.self.inside.places c.deref_mut.result.now c.take_many_at.new.places c.deref_mut.ensures.value (omega arith)
      (stays-at c.args.index (TakesPuts (take c.take_many_at.result (ended Put c.args.end c.args.bytes.now))) _ _ c.take_many_at.ensures.takes) c.self.invariant.2,
)

pub returns-clause-takes : goal.returns-clause-takes
returns-clause-takes g c =
    held-at placed_of c.args.index (PlaceTakes (take c.take_many_at.result (ended Put c.args.end c.args.bytes.now))) c.self.inside.places c.args.self.now c.deref_mut.result.now c.take_many_at.new.places
    c.deref_mut.ensures.value (omega arith) c.self.view_is c.take_many_at.ensures.takes

pub returns-clause-within : goal.returns-clause-within
returns-clause-within g c = c.take_many_at.ensures.within
