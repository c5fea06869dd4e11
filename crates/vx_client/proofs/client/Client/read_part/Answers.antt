use Rattle.std.proofs.Common.{◌≡◌, ℕ, ◌<◌, length, Result, Err, Ok, sym, subst, arith}
use Rattle.std.proofs.lemmas.Result.{err_from_is_err_and}
use Rattle.vx_calls.specs.Call.{Call}
use Rattle.vx_calls.specs.Call as call
use Rattle.vx_client.specs.Calls.{IsFilled}
use Rattle.vx_client.specs.Exchange.{IsCalled}
use Rattle.vx_client.specs.Meaning.{meaning}
use Rattle.vx_client.specs.Parts.{end_of, read_call}
use Rattle.vx_client.specs.Settled.{answer_of}
use Rattle.vx_client.specs.declared.answers.ClientErr.{ClientErr}
use Rattle.vx_client.specs.declared.answers.ReadEnd.{ReadEnd}
use Rattle.vx_client.specs.declared.settling.Answer.{Answer}
use Rattle.vx_client.proofs.Ending.{last-error}
use Rattle.vx_client.proofs.Calling.{called-part, called-error}
use Rattle.vx_client.proofs.Parts.{read-answers}
use Rattle.vx_client.proofs.client.Client.read_part.Goals as goal

pub returns-in_err-answer-clause-read : goal.returns-in_err-answer-clause-read
returns-in_err-answer-clause-read g c =
    let opts = c.args.opts.now in
    let room = length c.args.into.now in
    let p = err_from_is_err_and c.from_residual.result c.from_residual.ensures.1 in
    let same : c.from_residual.result ≡ Err c.in_err-answer.field-0.0 = cc (p.1, p.2) in
    let Called : ℕ → Type 0 =
    λ request. IsCalled g.L.Link.stands g.L.Link.left g.L.Link.receive_faults g.L.Link.send_faults c.args.self.now c.ask.new.self
    (call.Read c.args.lid request opts.io_timeout opts.lock_timeout opts.flags c.args.term) room end_of c.from_residual.result in
    let Filled : Result ReadEnd ClientErr → Type 0 =
    λ result. IsFilled (meaning c.args.self.now.next (read_call c.args.lid opts c.args.term room) room c.ask.new.self.last) c.args.into.now c.ask.new.into result in
    record {
      called = subst Called c.min-request.ensures
          (called-error g.L.Link.stands g.L.Link.left g.L.Link.receive_faults g.L.Link.send_faults c.args.self.now c.ask.new.self
          (call.Read c.args.lid c.min-request.result opts.io_timeout opts.lock_timeout opts.flags c.args.term) room answer_of end_of c.in_err-answer.field-0.0 c.from_residual.result
          c.in_err-answer.ensures.called same);
      bytes = subst Filled (sym same) c.in_err-answer.ensures.into;
    }

pub returns-clause-read : goal.returns-clause-read
returns-clause-read g c =
    let opts = c.args.opts.now in
    let room = length c.args.into.now in
    let end : ReadEnd = record { len = c.in_ok-answer.answer.len; reason = c.in_ok-answer.answer.reason } in
    let Called : ℕ → Type 0 =
    λ request. IsCalled g.L.Link.stands g.L.Link.left g.L.Link.receive_faults g.L.Link.send_faults c.args.self.now c.ask.new.self
    (call.Read c.args.lid request opts.io_timeout opts.lock_timeout opts.flags c.args.term) room end_of (Ok end) in
    let Filled : ℕ → Type 0 =
    λ request. IsFilled {X = ReadEnd}
    (meaning c.args.self.now.next (call.Read c.args.lid request opts.io_timeout opts.lock_timeout opts.flags c.args.term) room c.ask.new.self.last)
    c.args.into.now c.ask.new.into (Ok end) in
    record {
      called = subst Called c.min-request.ensures
          (called-part g.L.Link.stands g.L.Link.left g.L.Link.receive_faults g.L.Link.send_faults c.args.self.now c.ask.new.self
          (call.Read c.args.lid c.min-request.result opts.io_timeout opts.lock_timeout opts.flags c.args.term) room answer_of
          (λ (a : Answer). let e : ReadEnd = record { len = a.len; reason = a.reason } in e) c.in_ok-answer.answer c.in_ok-answer.ensures.called);
      bytes = subst Filled c.min-request.ensures c.in_ok-answer.ensures.into;
    }

pub returns-clause-within : goal.returns-clause-within
returns-clause-within g c =
    let opts = c.args.opts.now in
    let called = c.in_ok-answer.ensures.called in
    (read-answers c.args.self.now.next c.args.lid c.min-request.result opts.io_timeout opts.lock_timeout opts.flags c.args.term (length c.args.into.now) called.how
    c.in_ok-answer.answer (sym called.answer)).0

pub returns-clause-some : goal.returns-clause-some
returns-clause-some g c = λ none room.
    let opts = c.args.opts.now in
    let called = c.in_ok-answer.ensures.called in
    let says = read-answers c.args.self.now.next c.args.lid c.min-request.result opts.io_timeout opts.lock_timeout opts.flags c.args.term (length c.args.into.now) called.how
    c.in_ok-answer.answer (sym called.answer) in
    let asked : 0 < c.min-request.result = (let least = c.min-request.ensures in omega arith) in
    says.1 none asked

pub returns-in_err-answer-clause-last : goal.returns-in_err-answer-clause-last
returns-in_err-answer-clause-last g c =
    let p = err_from_is_err_and c.from_residual.result c.from_residual.ensures.1 in
    last-error g.L.Link.receives g.L.Link.sends c.ask.new.self.link c.in_err-answer.field-0.0 c.from_residual.result c.in_err-answer.ensures.last (cc (p.1, p.2))
