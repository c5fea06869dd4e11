use Rattle.std.proofs.Common.{◌≡◌, ◌≤◌, max, take, sym, subst, ◌∙◌, arith}
use Rattle.vx_exchange.specs.declared.record.TheConstants.{REPLY_ROOM}
use Rattle.vx_loop.specs.Gateway.{gateway_of}
use Rattle.vx_loop.specs.Serving.{reply_len, Continues}
use Rattle.vx_loop.proofs.Continuing.{poll-continues, says-within}
use Rattle.vx_loop.proofs.served.poll.Goals as goal

pub returns-clause-continues : goal.returns-clause-continues
returns-clause-continues g c =
    let h = c.again.ensures.polled in
    let late = c.requires.late in
    let now : max c.args.core.now.interleaved.state.moment c.args.now ≡ c.args.now = omega arith in
    let before = gateway_of c.args.core.now in
    let after = gateway_of c.again.new.core in
    subst (λ n. Continues before c.args.xid c.args.now after (take n c.again.new.reply)) (sym c.reply_len.ensures)
    (subst (λ m. Continues before c.args.xid m after (take (reply_len c.again.result) c.again.new.reply)) now
    (poll-continues before after (max c.args.core.now.interleaved.state.moment c.args.now) c.args.xid c.again.new.reply c.again.result (c.again.ensures.len ∙ c.requires.room) h.ending c.requires.fit
    h.over h.says))

pub returns-clause-within : goal.returns-clause-within
returns-clause-within g c =
    let h = c.again.ensures.polled in
    subst (λ n. n ≤ REPLY_ROOM) (sym c.reply_len.ensures)
    (says-within c.args.xid c.again.new.reply c.again.result h.ending (c.again.ensures.len ∙ c.requires.room) h.says)
