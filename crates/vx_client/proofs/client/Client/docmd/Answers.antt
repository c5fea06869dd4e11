use Rattle.std.proofs.Common.{◌≡◌, Err, length}
use Rattle.std.proofs.lemmas.Result.{err_from_is_err_and}
use Rattle.vx_client.specs.Calls.{command}
use Rattle.vx_client.specs.Meaning.{len_of}
use Rattle.vx_client.specs.Settled.{answer_of}
use Rattle.vx_client.specs.declared.settling.Answer.{Answer}
use Rattle.vx_client.proofs.Ending.{last-error}
use Rattle.vx_client.proofs.Calling.{called-part, called-error}
use Rattle.vx_client.proofs.client.Client.docmd.Goals as goal

pub returns-in_err-ask-clause-called : goal.returns-in_err-ask-clause-called
returns-in_err-ask-clause-called g c =
    let p = err_from_is_err_and c.from_residual.result c.from_residual.ensures.1 in
    let same : c.from_residual.result ≡ Err c.in_err-ask.field-0.0 = cc (p.1, p.2) in
    called-error g.L.Link.stands g.L.Link.left g.L.Link.receive_faults g.L.Link.send_faults c.args.self.now c.ask.new.self (command c.args.lid c.args.opts.now c.args.cmd c.args.bytes.now) (length c.args.into.now)
    answer_of len_of c.in_err-ask.field-0.0 c.from_residual.result c.in_err-ask.ensures.called same

pub returns-clause-called : goal.returns-clause-called
returns-clause-called g c =
    called-part g.L.Link.stands g.L.Link.left g.L.Link.receive_faults g.L.Link.send_faults c.args.self.now c.ask.new.self (command c.args.lid c.args.opts.now c.args.cmd c.args.bytes.now) (length c.args.into.now)
    answer_of (λ (a : Answer). a.len) c.in_ok-ask.field-0 c.in_ok-ask.ensures.called

pub returns-in_err-ask-clause-last : goal.returns-in_err-ask-clause-last
returns-in_err-ask-clause-last g c =
    let p = err_from_is_err_and c.from_residual.result c.from_residual.ensures.1 in
    last-error g.L.Link.receives g.L.Link.sends c.ask.new.self.link c.in_err-ask.field-0.0 c.from_residual.result c.in_err-ask.ensures.last (cc (p.1, p.2))
