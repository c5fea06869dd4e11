use Rattle.std.proofs.Common.{◌≡◌, Err}
use Rattle.std.proofs.lemmas.Result.{err_from_is_err_and}
use Rattle.vx_calls.specs.Call.{call_shown}
use Rattle.vx_client.specs.Message.{call_record}
use Rattle.vx_client.specs.Meaning.{nothing_of}
use Rattle.vx_client.specs.State.{over_link}
use Rattle.vx_client.specs.Settled.{answer_of}
use Rattle.vx_client.specs.declared.settling.Answer.{Answer}
use Rattle.vx_client.proofs.Ending.{calls-error}
use Rattle.vx_client.proofs.Calling.{called-part, called-error}
use Rattle.vx_client.proofs.client.Talk.order.Goals as goal

pub returns-in_err-ask-clause-called : goal.returns-in_err-ask-clause-called
returns-in_err-ask-clause-called g c =
    let p = err_from_is_err_and c.from_residual.result c.from_residual.ensures.1 in
    let same : c.from_residual.result ≡ Err c.in_err-ask.field-0.0 = cc (p.1, p.2) in
    called-error g.L.Link.stands g.L.Link.left g.L.Link.receive_faults g.L.Link.send_faults (over_link c.args.link.now c.args.self.now) (over_link c.ask.new.link c.ask.new.self) (call_shown c.args.call.now) 0
    answer_of nothing_of c.in_err-ask.field-0.0 c.from_residual.result c.in_err-ask.ensures.called same

pub returns-clause-called : goal.returns-clause-called
returns-clause-called g c =
    called-part g.L.Link.stands g.L.Link.left g.L.Link.receive_faults g.L.Link.send_faults (over_link c.args.link.now c.args.self.now) (over_link c.ask.new.link c.ask.new.self) (call_shown c.args.call.now) 0
    answer_of (λ (a : Answer). tt) c.in_ok-ask.field-0 c.in_ok-ask.ensures.called

pub returns-in_err-ask-clause-told : goal.returns-in_err-ask-clause-told
returns-in_err-ask-clause-told g c =
    let p = err_from_is_err_and c.from_residual.result c.from_residual.ensures.1 in
    calls-error g.L.Link.receives g.L.Link.sends c.args.link.now c.ask.new.link (call_record c.args.self.now.next (call_shown c.args.call.now)) c.in_err-ask.field-0.0 c.from_residual.result
    c.in_err-ask.ensures.told (cc (p.1, p.2))
