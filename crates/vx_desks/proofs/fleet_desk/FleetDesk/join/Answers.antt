use Rattle.std.proofs.Common.{◌≡◌, Some, refl, ap, sym, ◌∙◌}
use Rattle.std.specs.Prelude.{option_map}
use Rattle.vx_desks.specs.Passing.{passes_shown}
use Rattle.vx_desks.specs.Standing.{gates_shown, firsts_shown}
use Rattle.vx_desks.specs.Origins.{origins}
use Rattle.vx_desks.specs.Holding.{four_of}
use Rattle.vx_desks.specs.Joining.{joined_shown}
use Rattle.vx_desks.proofs.Answered.{held-at}
use Rattle.vx_desks.proofs.Laws.Joined.{all-idle, have-come, undone-gates}
use Rattle.vx_desks.proofs.fleet_desk.FleetDesk.join.Goals as goal

pub join_all-passes-requires : goal.join_all-passes-requires
join_all-passes-requires g c =
    let taken : c.args.self.held.now ≡ Some c.in-Some.passes = sym c.take.ensures.value ∙ c.in-Some.is in
    record { gates = held-at (gates_shown c.args.self.worker.buses.now) _ (passes_shown c.in-Some.passes) (ap (option_map passes_shown) taken) c.requires.free }

pub undo_all-requires-clause-phases : goal.undo_all-requires-clause-phases
undo_all-requires-clause-phases g c =
    (c.args.role, have-come (origins g.B.Bus (firsts_shown c.args.self.worker.buses.now)) c.args.role (passes_shown c.in-Some.passes) (passes_shown c.join_all-passes.result.0) (joined_shown c.join_all-passes.result.1) c.join_all-passes.ensures.joins)

pub returns-in-Ok-clause-joins : goal.returns-in-Ok-clause-joins
returns-in-Ok-clause-joins g c =
    let taken : c.args.self.held.now ≡ Some c.in-Some.passes = sym c.take.ensures.value ∙ c.in-Some.is in (
      record {
        passes = passes_shown c.in-Some.passes;
        passes' = passes_shown c.join_all-passes.result.0;
        had = ap (option_map passes_shown) taken;
        has = refl;
        joined = joined_shown c.join_all-passes.result.1;
        up = passes_shown c.join_all-passes.result.0;
        joins = c.join_all-passes.ensures.joins;
        come = (c.in-Ok.ensures.ok, refl);
        still = record { count = refl; clock = refl; told = refl };
      },
      refl,
      refl,
      refl,
    )

pub returns-in-Ok-clause-idle : goal.returns-in-Ok-clause-idle
returns-in-Ok-clause-idle g c = record {
  passes = passes_shown c.join_all-passes.result.0;
  has = refl;
  holds = record {
    of = c.join_all-passes.ensures.gates;
    idle = all-idle (origins g.B.Bus (firsts_shown c.args.self.worker.buses.now)) c.args.role (passes_shown c.in-Some.passes) (passes_shown c.join_all-passes.result.0) (joined_shown c.join_all-passes.result.1) (four_of c.in-Ok.conns)
        c.join_all-passes.ensures.joins c.in-Ok.ensures.ok;
  };
}

pub returns-in-Err-clause-joins : goal.returns-in-Err-clause-joins
returns-in-Err-clause-joins g c =
    let taken : c.args.self.held.now ≡ Some c.in-Some.passes = sym c.take.ensures.value ∙ c.in-Some.is in (
      record {
        passes = passes_shown c.in-Some.passes;
        passes' = passes_shown c.undo_all.result;
        had = ap (option_map passes_shown) taken;
        has = refl;
        joined = joined_shown c.join_all-passes.result.1;
        up = passes_shown c.join_all-passes.result.0;
        joins = c.join_all-passes.ensures.joins;
        come = (c.in-Err.ensures.err, c.undo_all.ensures);
        still = record { count = refl; clock = refl; told = refl };
      },
      refl,
      refl,
      refl,
    )

pub returns-in-Err-clause-free : goal.returns-in-Err-clause-free
returns-in-Err-clause-free g c = record {
  passes = passes_shown c.undo_all.result;
  has = refl;
  of = undone-gates (origins g.B.Bus (firsts_shown c.args.self.worker.buses.now)) (passes_shown c.join_all-passes.result.0) (passes_shown c.undo_all.result) (joined_shown c.join_all-passes.result.1) (gates_shown c.args.self.worker.buses.now)
      c.join_all-passes.ensures.gates c.undo_all.ensures;
}
