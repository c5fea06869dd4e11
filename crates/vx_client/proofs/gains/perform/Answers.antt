use Rattle.std.proofs.Common.{length, sym, ap, subst}
use Rattle.vx_calls.specs.Call as call
use Rattle.vx_client.specs.Calls.{generic}
use Rattle.vx_client.specs.Asked.{ClientCommand, command_shown}
use Rattle.vx_client.specs.Gaining.{plain, Performs, result_shown}
use Rattle.vx_client.proofs.Commands.{query-sent, write-sent, called-done, called-status, done-within, status-within}
use Rattle.vx_client.proofs.gains.perform.Goals as goal

pub returns-in-Query-clause-performed : goal.returns-in-Query-clause-performed
returns-in-Query-clause-performed g c =
    query-sent g.L.Link.stands g.L.Link.left g.L.Link.receive_faults g.L.Link.send_faults c.args.client.now c.query.new.client c.args.made.now (command_shown c.args.command) c.in-Query.field-0.now c.args.line.now
    (result_shown c.query.new.room c.query.result) (ap command_shown c.in-Query.is) c.requires.line c.query.ensures.sent

pub returns-in-Write-clause-performed : goal.returns-in-Write-clause-performed
returns-in-Write-clause-performed g c =
    write-sent g.L.Link.stands g.L.Link.left g.L.Link.receive_faults g.L.Link.send_faults c.args.client.now c.write.new.self c.args.made.now (command_shown c.args.command) c.in-Write.field-0.now c.args.line.now
    c.args.room.now c.write.result c.done.result (ap command_shown c.in-Write.is) c.requires.line c.done.ensures c.write.ensures.written

pub returns-in-Write-clause-within : goal.returns-in-Write-clause-within
returns-in-Write-clause-within g c = done-within (length c.args.room.now) c.write.result c.done.result c.done.ensures

pub returns-in-Stb-clause-performed : goal.returns-in-Stb-clause-performed
returns-in-Stb-clause-performed g c =
    subst (λ (k : ClientCommand). Performs g.L.Link.stands g.L.Link.left g.L.Link.receive_faults g.L.Link.send_faults c.args.client.now c.readstb.new.self c.args.made.now k (result_shown c.args.room.now c.status.result)) (sym (ap command_shown c.in-Stb.is))
    (called-status g.L.Link.stands g.L.Link.left g.L.Link.receive_faults g.L.Link.send_faults c.args.client.now c.readstb.new.self (call.ReadStb (generic c.args.made.now.lid plain)) c.args.room.now c.readstb.result c.status.result
    c.status.ensures c.readstb.ensures.called)

pub returns-in-Stb-clause-within : goal.returns-in-Stb-clause-within
returns-in-Stb-clause-within g c = status-within (length c.args.room.now) c.readstb.result c.status.result c.status.ensures

pub returns-in-Clear-clause-performed : goal.returns-in-Clear-clause-performed
returns-in-Clear-clause-performed g c =
    subst (λ (k : ClientCommand). Performs g.L.Link.stands g.L.Link.left g.L.Link.receive_faults g.L.Link.send_faults c.args.client.now c.clear.new.self c.args.made.now k (result_shown c.args.room.now c.done-in-Clear.result)) (sym (ap command_shown c.in-Clear.is))
    (called-done g.L.Link.stands g.L.Link.left g.L.Link.receive_faults g.L.Link.send_faults c.args.client.now c.clear.new.self (call.Clear (generic c.args.made.now.lid plain)) c.args.room.now c.clear.result c.done-in-Clear.result
    c.done-in-Clear.ensures c.clear.ensures.called)

pub returns-in-Clear-clause-within : goal.returns-in-Clear-clause-within
returns-in-Clear-clause-within g c = done-within (length c.args.room.now) c.clear.result c.done-in-Clear.result c.done-in-Clear.ensures

pub returns-in-Trigger-clause-performed : goal.returns-in-Trigger-clause-performed
returns-in-Trigger-clause-performed g c =
    subst (λ (k : ClientCommand). Performs g.L.Link.stands g.L.Link.left g.L.Link.receive_faults g.L.Link.send_faults c.args.client.now c.trigger.new.self c.args.made.now k (result_shown c.args.room.now c.done-in-Trigger.result)) (sym (ap command_shown c.in-Trigger.is))
    (called-done g.L.Link.stands g.L.Link.left g.L.Link.receive_faults g.L.Link.send_faults c.args.client.now c.trigger.new.self (call.Trigger (generic c.args.made.now.lid plain)) c.args.room.now c.trigger.result c.done-in-Trigger.result
    c.done-in-Trigger.ensures c.trigger.ensures.called)

pub returns-in-Trigger-clause-within : goal.returns-in-Trigger-clause-within
returns-in-Trigger-clause-within g c = done-within (length c.args.room.now) c.trigger.result c.done-in-Trigger.result c.done-in-Trigger.ensures
