use Rattle.std.proofs.Common.{◌≡◌, false, Err, refl, sym, ap, subst}
use Rattle.std.proofs.lemmas.Result.{err_from_is_err_and}
use Rattle.vx_client.specs.Meaning.{made_of}
use Rattle.vx_client.specs.Calls.{create}
use Rattle.vx_client.specs.Asked.{command_shown}
use Rattle.vx_client.specs.Gaining.{IsAnswer, result_shown}
use Rattle.vx_client.proofs.Fitting.{called-fit, called-answer, performs-answer, shown-answer, made-takes}
use Rattle.vx_client.proofs.gains.make_calls.Goals as goal

pub returns-in_err-made-clause-asked : goal.returns-in_err-made-clause-asked
returns-in_err-made-clause-asked g c =
    let p = err_from_is_err_and c.from_residual.result c.from_residual.ensures.1 in
    let same : c.from_residual.result ≡ Err c.in_err-made.field-0.0 = cc (p.1, p.2) in
    record {
      mid = c.create_link.new.self;
      answer = Err c.in_err-made.field-0.0;
      created = c.in_err-made.ensures.called;
      behind = (refl, ap (result_shown c.args.room.now) same);
    }

pub returns-in_err-made-clause-unspent : goal.returns-in_err-made-clause-unspent
returns-in_err-made-clause-unspent g c =
    let p = err_from_is_err_and c.from_residual.result c.from_residual.ensures.1 in
    let same : c.from_residual.result ≡ Err c.in_err-made.field-0.0 = cc (p.1, p.2) in
    subst IsAnswer (sym same)
    (called-answer g.L.Link.stands g.L.Link.left g.L.Link.receive_faults g.L.Link.send_faults c.args.client.now c.create_link.new.self (create false 0 c.args.ask.now.device.now) 0 made_of
    (Err c.in_err-made.field-0.0) c.requires.fit c.in_err-made.ensures.called)

pub perform-gained-requires-clause-max : goal.perform-gained-requires-clause-max
perform-gained-requires-clause-max g c =
    made-takes g.L.Link.stands g.L.Link.left g.L.Link.receive_faults g.L.Link.send_faults c.args.client.now c.create_link.new.self false 0 c.args.ask.now.device.now c.in_ok-made.made c.in_ok-made.ensures.called

pub returns-clause-unspent : goal.returns-clause-unspent
returns-clause-unspent g c =
    let fit = called-fit g.L.Link.stands g.L.Link.left g.L.Link.receive_faults g.L.Link.send_faults c.args.client.now c.create_link.new.self (create false 0 c.args.ask.now.device.now) 0 made_of
    c.in_ok-made.made c.in_ok-made.ensures.called in
    shown-answer c.perform-gained.new.room c.perform-gained.result
    (performs-answer g.L.Link.stands g.L.Link.left g.L.Link.receive_faults g.L.Link.send_faults c.create_link.new.self c.perform-gained.new.client c.in_ok-made.made (command_shown c.args.ask.now.command)
    (result_shown c.perform-gained.new.room c.perform-gained.result) fit c.perform-gained.ensures.performed)
