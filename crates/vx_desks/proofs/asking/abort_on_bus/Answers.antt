use Rattle.vx_calls.specs.declared.calls.Role.TheVariants as role
use Rattle.vx_desks.specs.Passing.{passes_shown}
use Rattle.vx_desks.specs.Standing.{gates_shown}
use Rattle.vx_desks.specs.Holding.{four_of}
use Rattle.vx_desks.proofs.Asked.{aborted-on-bus, conn-at, first-gate, first-idle, last-idle}
use Rattle.vx_desks.proofs.asking.abort_on_bus.Goals as goal

pub abort-own-requires : goal.abort-own-requires
abort-own-requires g c =
    let conn = conn-at c.args.worker.now.conns c.args.bus c.requires.bus in
    record {
      gate = first-gate (passes_shown c.args.passes) c.args.bus (passes_shown c.swapped-own.result) (gates_shown c.args.worker.now.buses.now) _ c.swapped-own.ensures c.gate.ensures.gate c.requires.gates;
      phase = first-idle (passes_shown c.args.passes) c.args.bus (passes_shown c.swapped-own.result) (four_of c.args.worker.now.conns) _ role.Abort c.swapped-own.ensures conn c.requires.phase;
      room = c.requires.room;
    }

pub returns-clause-aborts : goal.returns-clause-aborts
returns-clause-aborts g c =
    aborted-on-bus (passes_shown c.args.passes) c.args.bus (passes_shown c.swapped-own.result) c.swapped-own.ensures c.abort-own.result.0 (passes_shown c.swapped.result) c.swapped.ensures
    _ (four_of c.args.worker.now.conns) _ c.args.xid c.args.lid c.abort-own.new.reply c.abort-own.result.1 (conn-at c.args.worker.now.conns c.args.bus c.requires.bus) c.abort-own.ensures.aborts

pub returns-clause-phase : goal.returns-clause-phase
returns-clause-phase g c =
    last-idle (passes_shown c.args.passes) c.args.bus (passes_shown c.swapped-own.result) c.swapped-own.ensures c.abort-own.result.0 (passes_shown c.swapped.result) c.swapped.ensures
    (four_of c.args.worker.now.conns) _ role.Abort (conn-at c.args.worker.now.conns c.args.bus c.requires.bus) c.abort-own.ensures.aborts.phase
