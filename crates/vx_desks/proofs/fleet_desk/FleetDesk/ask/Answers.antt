use Rattle.std.proofs.Common.{◌≡◌, Some, refl, ap, take, sym, ◌∙◌}
use Rattle.std.specs.Prelude.{option_map}
use Rattle.vx_calls.specs.Call.{call_shown}
use Rattle.vx_calls.specs.declared.calls.Role.TheVariants as role
use Rattle.vx_desks.specs.Passing.{passes_shown}
use Rattle.vx_desks.specs.Standing.{gates_shown, firsts_shown}
use Rattle.vx_desks.specs.Origins.{origins}
use Rattle.vx_desks.specs.Holding.{four_of}
use Rattle.vx_desks.specs.FleetServing.{fleet_state}
use Rattle.vx_desks.proofs.Answered.{asks-does, held-idle}
use Rattle.vx_desks.proofs.fleet_desk.FleetDesk.ask.Goals as goal

pub serve_call-passes-requires-clause-holds : goal.serve_call-passes-requires-clause-holds
serve_call-passes-requires-clause-holds g c =
    let taken : c.args.self.held.now ≡ Some c.in-Some.passes = sym c.take.ensures.value ∙ c.in-Some.is in
    held-idle (gates_shown c.args.self.worker.buses.now) role.Core _ (passes_shown c.in-Some.passes) (ap (option_map passes_shown) taken) c.requires.idle

pub returns-clause-asks : goal.returns-clause-asks
returns-clause-asks g c =
    let taken : c.args.self.held.now ≡ Some c.in-Some.passes = sym c.take.ensures.value ∙ c.in-Some.is in (
      asks-does (origins g.B.Bus (firsts_shown c.args.self.worker.buses.now)) g.C.Clock.tells
          (fleet_state g.C.Clock c.args.self.worker.count role.Core (four_of c.args.self.worker.conns) (option_map passes_shown c.args.self.held.now) c.args.self.clock.now) _
          (passes_shown c.in-Some.passes) (passes_shown c.serve_call-passes.result.0) refl refl refl c.serve_call-passes.ensures.told (ap (option_map passes_shown) taken) refl refl
          c.args.request.now.xid (call_shown c.args.request.now.call.now) (take c.serve_call-passes.result.1 c.serve_call-passes.new.reply) c.serve_call-passes.ensures.served,
      refl,
      refl,
      refl,
    )

pub returns-clause-idle : goal.returns-clause-idle
returns-clause-idle g c = record { passes = passes_shown c.serve_call-passes.result.0; has = refl; holds = c.serve_call-passes.ensures.holds }
