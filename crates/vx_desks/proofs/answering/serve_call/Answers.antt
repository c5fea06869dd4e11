use Rattle.std.proofs.Common.{take, refl}
use Rattle.vx_calls.specs.Call.{call_shown}
use Rattle.vx_calls.specs.Reply.{reply_shown}
use Rattle.vx_calls.specs.declared.calls.Role.TheVariants as role
use Rattle.vx_desks.specs.Passing.{passes_shown}
use Rattle.vx_desks.specs.Standing.{gates_shown, firsts_shown}
use Rattle.vx_desks.specs.Origins.{origins}
use Rattle.vx_desks.specs.Holding.{four_of}
use Rattle.vx_session.specs.Progress.{Clocked}
use Rattle.vx_session.proofs.Laws.{clockedas-none}
use Rattle.vx_desks.proofs.Answered.{idle-at, holds-on, refused-served, asked-served}
use Rattle.vx_desks.proofs.Counted.{most-served}
use Rattle.vx_desks.proofs.answering.serve_call.Goals as goal

pub returns-in-Refused-clause-served : goal.returns-in-Refused-clause-served
returns-in-Refused-clause-served g c =
    refused-served c.args.worker.now.count (origins g.B.Bus (firsts_shown c.args.worker.now.buses.now)) (g.C.Clock.told c.args.clock.now) (passes_shown c.args.passes) (four_of c.args.worker.now.conns) c.args.request.now.xid (call_shown c.args.request.now.call.now) (reply_shown c.in-Refused.answer) _
    c.in-Refused.ensures.route c.put_success_record-len.ensures.record
    (Clocked g.C.Clock.tells c.args.clock.now c.args.clock.now) (clockedas-none g.C.Clock.tells role.Core c.args.clock.now c.args.clock.now refl)

pub put_success_record-len-requires-clause-puttable : goal.put_success_record-len-requires-clause-puttable
put_success_record-len-requires-clause-puttable g c = (c.in-Refused.ensures.routed c.requires.waits c.requires.short).0

pub put_success_record-len-requires-clause-short : goal.put_success_record-len-requires-clause-short
put_success_record-len-requires-clause-short g c = (c.in-Refused.ensures.routed c.requires.waits c.requires.short).1

pub ask_bus-requires-clause-bus : goal.ask_bus-requires-clause-bus
ask_bus-requires-clause-bus g c = most-served c.args.worker.now.count c.in-Goes.bus (c.in-Goes.ensures.routed c.requires.waits c.requires.short).0

pub ask_bus-requires-clause-phase : goal.ask_bus-requires-clause-phase
ask_bus-requires-clause-phase g c = idle-at c.in-Goes.bus (passes_shown c.args.passes) (gates_shown c.args.worker.now.buses.now) (four_of c.args.worker.now.conns) role.Core c.requires.holds

pub returns-in-Goes-clause-served : goal.returns-in-Goes-clause-served
returns-in-Goes-clause-served g c =
    asked-served c.args.worker.now.count (origins g.B.Bus (firsts_shown c.args.worker.now.buses.now)) (g.C.Clock.told c.ask_bus.new.clock) (passes_shown c.args.passes) (four_of c.args.worker.now.conns)
    (Clocked g.C.Clock.tells c.args.clock.now c.ask_bus.new.clock) c.args.request.now.xid (call_shown c.args.request.now.call.now) (call_shown c.in-Goes.call) c.in-Goes.bus
    (take c.ask_bus.result.1 c.ask_bus.new.reply) (passes_shown c.ask_bus.result.0) c.in-Goes.ensures.route (c.in-Goes.ensures.routed c.requires.waits c.requires.short).0 c.ask_bus.ensures.asks

pub returns-in-Goes-clause-holds : goal.returns-in-Goes-clause-holds
returns-in-Goes-clause-holds g c =
    holds-on _ _ c.in-Goes.bus _ (passes_shown c.args.passes) (passes_shown c.ask_bus.result.0) (gates_shown c.args.worker.now.buses.now) (four_of c.args.worker.now.conns) role.Core c.requires.holds c.ask_bus.ensures.asks
    c.ask_bus.ensures.phase
