use Rattle.std.proofs.Common.{◌≡◌, Some, refl, ap, take, arith, sym, ◌∙◌}
use Rattle.std.specs.Prelude.{option_map}
use Rattle.vx_calls.specs.declared.calls.Role.TheVariants as role
use Rattle.vx_session.specs.Progress.{unclocked}
use Rattle.vx_desks.specs.Passing.{passes_shown}
use Rattle.vx_desks.specs.Standing.{gates_shown, firsts_shown}
use Rattle.vx_desks.specs.Origins.{origins}
use Rattle.vx_desks.specs.Holding.{four_of}
use Rattle.vx_desks.specs.FleetServing.{fleet_state}
use Rattle.vx_desks.proofs.Answered.{aborts-does, held-idle, holds-on, idle-at}
use Rattle.vx_desks.proofs.Counted.{most-served}
use Rattle.vx_desks.proofs.fleet_desk.FleetDesk.abort.Goals as goal

pub abort_on_bus-passes-requires-clause-gates : goal.abort_on_bus-passes-requires-clause-gates
abort_on_bus-passes-requires-clause-gates g c =
    let taken : c.args.self.held.now ≡ Some c.in-Some.passes = sym c.take.ensures.value ∙ c.in-Some.is in
    (held-idle (gates_shown c.args.self.worker.buses.now) role.Abort _ (passes_shown c.in-Some.passes) (ap (option_map passes_shown) taken) c.requires.idle).of

pub abort_on_bus-passes-requires-clause-phase : goal.abort_on_bus-passes-requires-clause-phase
abort_on_bus-passes-requires-clause-phase g c =
    let taken : c.args.self.held.now ≡ Some c.in-Some.passes = sym c.take.ensures.value ∙ c.in-Some.is in
    idle-at c.place_of-bus.result.0 (passes_shown c.in-Some.passes) (gates_shown c.args.self.worker.buses.now) (four_of c.args.self.worker.conns) role.Abort
    (held-idle (gates_shown c.args.self.worker.buses.now) role.Abort _ (passes_shown c.in-Some.passes) (ap (option_map passes_shown) taken) c.requires.idle)

pub abort_on_bus-passes-requires-clause-bus : goal.abort_on_bus-passes-requires-clause-bus
abort_on_bus-passes-requires-clause-bus g c = most-served c.args.self.worker.count c.place_of-bus.result.0 c.place_of-bus.ensures.bus

pub returns-clause-aborts : goal.returns-clause-aborts
returns-clause-aborts g c =
    let taken : c.args.self.held.now ≡ Some c.in-Some.passes = sym c.take.ensures.value ∙ c.in-Some.is in (
      aborts-does (origins g.B.Bus (firsts_shown c.args.self.worker.buses.now)) g.C.Clock.tells
          (fleet_state g.C.Clock c.args.self.worker.count role.Abort (four_of c.args.self.worker.conns) (option_map passes_shown c.args.self.held.now) c.args.self.clock.now) _
          (passes_shown c.in-Some.passes) (passes_shown c.abort_on_bus-passes.result.0) refl refl refl (omega arith) (ap (option_map passes_shown) taken) refl refl refl
          c.args.xid c.args.lid c.place_of-bus.result.0 c.place_of-bus.result.1 (take c.abort_on_bus-passes.result.1 c.abort_on_bus-passes.new.reply) c.place_of-bus.ensures.place c.place_of-bus.ensures.bus
          c.abort_on_bus-passes.ensures.aborts,
      refl,
      refl,
      refl,
    )

pub returns-clause-idle : goal.returns-clause-idle
returns-clause-idle g c =
    let taken : c.args.self.held.now ≡ Some c.in-Some.passes = sym c.take.ensures.value ∙ c.in-Some.is in
    record {
      passes = passes_shown c.abort_on_bus-passes.result.0;
      has = refl;
      holds = holds-on unclocked 0 c.place_of-bus.result.0 _ (passes_shown c.in-Some.passes) (passes_shown c.abort_on_bus-passes.result.0) (gates_shown c.args.self.worker.buses.now) (four_of c.args.self.worker.conns) role.Abort
          (held-idle (gates_shown c.args.self.worker.buses.now) role.Abort _ (passes_shown c.in-Some.passes) (ap (option_map passes_shown) taken) c.requires.idle) c.abort_on_bus-passes.ensures.aborts
          c.abort_on_bus-passes.ensures.phase;
    }
