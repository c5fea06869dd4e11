use Rattle.std.proofs.Common.{◌≡◌, Some, refl, ap, sym, ◌∙◌}
use Rattle.std.specs.Prelude.{option_map}
use Rattle.vx_desks.specs.Passing.{passes_shown}
use Rattle.vx_desks.specs.Standing.{gates_shown, firsts_shown}
use Rattle.vx_desks.specs.Origins.{origins}
use Rattle.vx_desks.specs.Holding.{four_of}
use Rattle.vx_desks.proofs.Answered.{held-idle}
use Rattle.vx_desks.proofs.Laws.Joined.{left-gates}
use Rattle.vx_desks.proofs.fleet_desk.FleetDesk.leave.Goals as goal

pub leave_all-requires-clause-gates : goal.leave_all-requires-clause-gates
leave_all-requires-clause-gates g c =
    let taken : c.args.self.held.now ≡ Some c.in-Some.passes = sym c.take.ensures.value ∙ c.in-Some.is in
    (held-idle (gates_shown c.args.self.worker.buses.now) c.requires.idle.0 _ (passes_shown c.in-Some.passes) (ap (option_map passes_shown) taken) c.requires.idle.1).of

pub leave_all-requires-clause-idle : goal.leave_all-requires-clause-idle
leave_all-requires-clause-idle g c =
    let taken : c.args.self.held.now ≡ Some c.in-Some.passes = sym c.take.ensures.value ∙ c.in-Some.is in
    (c.requires.idle.0, (held-idle (gates_shown c.args.self.worker.buses.now) c.requires.idle.0 _ (passes_shown c.in-Some.passes) (ap (option_map passes_shown) taken) c.requires.idle.1).idle)

pub returns-clause-leaves : goal.returns-clause-leaves
returns-clause-leaves g c =
    let taken : c.args.self.held.now ≡ Some c.in-Some.passes = sym c.take.ensures.value ∙ c.in-Some.is in (
      record {
        passes = passes_shown c.in-Some.passes;
        passes' = passes_shown c.leave_all.result;
        had = ap (option_map passes_shown) taken;
        has = refl;
        leaves = c.leave_all.ensures;
        still = record { count = refl; clock = refl; told = refl };
      },
      refl,
      refl,
      refl,
    )

pub returns-clause-free : goal.returns-clause-free
returns-clause-free g c =
    let taken : c.args.self.held.now ≡ Some c.in-Some.passes = sym c.take.ensures.value ∙ c.in-Some.is in
    record {
      passes = passes_shown c.leave_all.result;
      has = refl;
      of = left-gates (origins g.B.Bus (firsts_shown c.args.self.worker.buses.now)) (passes_shown c.in-Some.passes) (passes_shown c.leave_all.result) (four_of c.args.self.worker.conns) (gates_shown c.args.self.worker.buses.now)
          (held-idle (gates_shown c.args.self.worker.buses.now) c.requires.idle.0 _ (passes_shown c.in-Some.passes) (ap (option_map passes_shown) taken) c.requires.idle.1).of c.leave_all.ensures;
    }
