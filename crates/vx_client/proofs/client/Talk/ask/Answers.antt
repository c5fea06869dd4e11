use Rattle.std.proofs.Common.{◌≡◌, List, ℕ, Err, Ok, length, refl, subst, ◌∙◌}
use Rattle.std.proofs.lemmas.Result.{err_from_is_err_and}
use Rattle.vx_calls.specs.Call.{call_shown}
use Rattle.vx_client.specs.Inbox.{last_of}
use Rattle.vx_client.specs.Message.{call_record}
use Rattle.vx_client.specs.Settled.{answer_of}
use Rattle.vx_client.specs.Swapped.{IsSwapped}
use Rattle.vx_client.proofs.Ending.{calls-error, settled-calls}
use Rattle.vx_client.proofs.Calling.{called-failed, called-replied, answer-settled, spent-settled, filled-settled}
use Rattle.vx_client.proofs.client.Talk.ask.Goals as goal

pub returns-in_err-exchange-clause-called : goal.returns-in_err-exchange-clause-called
returns-in_err-exchange-clause-called g c =
    let p = err_from_is_err_and c.from_residual.result c.from_residual.ensures.1 in
    let same : c.from_residual.result ≡ Err c.in_err-exchange.field-0.0 = cc (p.1, p.2) in
    rw (← c.self.view_is) (
    called-failed g.L.Link.stands g.L.Link.left g.L.Link.receive_faults g.L.Link.send_faults _ _ (call_shown c.args.call.now) (length c.args.into.now)
    answer_of c.exchange.new.inbox c.in_err-exchange.field-0.0 c.from_residual.result
    (record {
      was = c.if-self.false;
      next = refl;
      last = refl;
      kept = refl;
      receives_counted = c.in_err-exchange.ensures.receives;
      sends_counted = c.in_err-exchange.ensures.sends;
    })
    refl
    (let Swapped : List ℕ → Type 0 =
    λ kept. IsSwapped g.L.Link.stands g.L.Link.left g.L.Link.receive_faults g.L.Link.send_faults c.args.link.now c.exchange.new.link kept c.exchange.new.inbox
    (call_record c.self.inside.next (call_shown c.args.call.now)) (Err c.in_err-exchange.field-0.0) in
    subst Swapped c.begin.ensures.kept c.in_err-exchange.ensures.swapped)
    same)

pub returns-clause-called : goal.returns-clause-called
returns-clause-called g c =
    let call = call_shown c.args.call.now in
    let last = last_of c.exchange.new.inbox.reply in
    rw (← c.self.view_is) (
    called-replied g.L.Link.stands g.L.Link.left g.L.Link.receive_faults g.L.Link.send_faults _ _ call (length c.args.into.now)
    answer_of c.exchange.new.inbox c.in_ok-exchange.field-0 c.returned.result
    (record {
      was = c.if-self.false;
      next = refl;
      last = refl;
      kept = refl;
      receives_counted = c.in_ok-exchange.ensures.receives;
      sends_counted = c.in_ok-exchange.ensures.sends;
    })
    (c.is_bad-self-inside.ensures
    ∙ spent-settled c.self.inside.next (length c.args.into.now) call c.last-reply.result.now last c.settle-settled.result c.last-reply.ensures.bytes c.settle-settled.ensures.settled)
    (let Swapped : List ℕ → Type 0 =
    λ kept. IsSwapped g.L.Link.stands g.L.Link.left g.L.Link.receive_faults g.L.Link.send_faults c.args.link.now c.exchange.new.link kept c.exchange.new.inbox
    (call_record c.self.inside.next call) (Ok c.in_ok-exchange.field-0) in
    subst Swapped c.begin.ensures.kept c.in_ok-exchange.ensures.swapped)
    (answer-settled c.self.inside.next (length c.args.into.now) (length c.last-reply.result.now) call c.last-reply.result.now last c.settle-settled.result c.returned.result
    c.last-reply.ensures.bytes refl c.settle-settled.ensures.settled c.returned.ensures))

pub returns-clause-into : goal.returns-clause-into
returns-clause-into g c =
    let call = call_shown c.args.call.now in
    let last = last_of c.exchange.new.inbox.reply in
    rw (← c.self.view_is) (
    filled-settled c.self.inside.next (length c.args.into.now) (length last) call c.last-reply.result.now last c.args.into.now c.settle-settled.new.into c.returned.result
    c.last-reply.ensures.bytes c.settle-settled.ensures.into
    (answer-settled c.self.inside.next (length c.args.into.now) (length c.last-reply.result.now) call c.last-reply.result.now last c.settle-settled.result c.returned.result
    c.last-reply.ensures.bytes refl c.settle-settled.ensures.settled c.returned.ensures))

pub returns-in_err-exchange-clause-told : goal.returns-in_err-exchange-clause-told
returns-in_err-exchange-clause-told g c =
    let p = err_from_is_err_and c.from_residual.result c.from_residual.ensures.1 in
    rw (← c.self.view_is) (
    calls-error g.L.Link.receives g.L.Link.sends c.args.link.now c.exchange.new.link (call_record c.self.inside.next (call_shown c.args.call.now)) c.in_err-exchange.field-0.0
    c.from_residual.result c.in_err-exchange.ensures.told (cc (p.1, p.2)))

pub returns-clause-told : goal.returns-clause-told
returns-clause-told g c =
    rw (← c.self.view_is) (
    settled-calls g.L.Link.receives g.L.Link.sends c.args.link.now c.exchange.new.link (call_record c.self.inside.next (call_shown c.args.call.now)) (length c.last-reply.result.now)
    c.settle-settled.result c.returned.result c.returned.ensures c.in_ok-exchange.ensures.told)
