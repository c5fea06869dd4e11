use Rattle.std.proofs.Common.{length, ap, ◌∙◌, sym, Some, None}
use Rattle.vx_calls.specs.Call.{call_shown}
use Rattle.vx_codec.specs.Answered.{results_shown}
use Rattle.vx_rpc.specs.ReplyMeaning.{read_shown}
use Rattle.vx_client.specs.Meaning.{reply_says}
use Rattle.vx_client.specs.Settled.{settled_of, written}
use Rattle.vx_client.proofs.Laws.Meanings.{success-meaning, success-apart, refused-meaning, refused-apart}
use Rattle.vx_client.proofs.settling.settle.Goals as goal

pub returns-in-Some-clause-settled : goal.returns-in-Some-clause-settled
returns-in-Some-clause-settled c =
    let same = success-meaning c.args.xid c.in-Success.number (length c.args.into.now) (call_shown c.args.call.now) c.args.reply.now c.in-Success.results.now
    c.procedure.result (Some (results_shown c.in-Some.results)) c.in-Success.ensures.read c.if-number-xid.true c.procedure.ensures c.in-Some.ensures.exact in
    c.settle_results.ensures.settled ∙ ap settled_of (sym same)

pub returns-in-Some-clause-into : goal.returns-in-Some-clause-into
returns-in-Some-clause-into c =
    let same = success-meaning c.args.xid c.in-Success.number (length c.args.into.now) (call_shown c.args.call.now) c.args.reply.now c.in-Success.results.now
    c.procedure.result (Some (results_shown c.in-Some.results)) c.in-Success.ensures.read c.if-number-xid.true c.procedure.ensures c.in-Some.ensures.exact in
    c.settle_results.ensures.into ∙ ap (written c.args.into.now) (sym same)

pub returns-in-None-clause-settled : goal.returns-in-None-clause-settled
returns-in-None-clause-settled c =
    let same = success-meaning c.args.xid c.in-Success.number (length c.args.into.now) (call_shown c.args.call.now) c.args.reply.now c.in-Success.results.now
    c.procedure.result None c.in-Success.ensures.read c.if-number-xid.true c.procedure.ensures c.in-None.ensures.exact in
    ap settled_of (sym same)

pub returns-in-None-clause-into : goal.returns-in-None-clause-into
returns-in-None-clause-into c =
    let same = success-meaning c.args.xid c.in-Success.number (length c.args.into.now) (call_shown c.args.call.now) c.args.reply.now c.in-Success.results.now
    c.procedure.result None c.in-Success.ensures.read c.if-number-xid.true c.procedure.ensures c.in-None.ensures.exact in
    ap (written c.args.into.now) (sym same)

pub returns-in_default-clause-settled : goal.returns-in_default-clause-settled
returns-in_default-clause-settled c =
    ap settled_of (sym (success-apart c.args.xid c.in-Success.number (length c.args.into.now) (call_shown c.args.call.now) c.args.reply.now c.in-Success.results.now c.in-Success.ensures.read c.if-number-xid.false))

pub returns-in_default-clause-into : goal.returns-in_default-clause-into
returns-in_default-clause-into c =
    ap (written c.args.into.now) (sym (success-apart c.args.xid c.in-Success.number (length c.args.into.now) (call_shown c.args.call.now) c.args.reply.now c.in-Success.results.now c.in-Success.ensures.read c.if-number-xid.false))

pub returns-in-Refused-clause-settled : goal.returns-in-Refused-clause-settled
returns-in-Refused-clause-settled c =
    ap settled_of (sym (refused-meaning c.args.xid c.in-Refused.number (length c.args.into.now) (call_shown c.args.call.now) c.args.reply.now c.in-Refused.refusal c.in-Refused.ensures.read c.if-number-xid-2.true))

pub returns-in-Refused-clause-into : goal.returns-in-Refused-clause-into
returns-in-Refused-clause-into c =
    ap (written c.args.into.now) (sym (refused-meaning c.args.xid c.in-Refused.number (length c.args.into.now) (call_shown c.args.call.now) c.args.reply.now c.in-Refused.refusal c.in-Refused.ensures.read c.if-number-xid-2.true))

pub returns-in_default-2-clause-settled : goal.returns-in_default-2-clause-settled
returns-in_default-2-clause-settled c =
    ap settled_of (sym (refused-apart c.args.xid c.in-Refused.number (length c.args.into.now) (call_shown c.args.call.now) c.args.reply.now c.in-Refused.refusal c.in-Refused.ensures.read c.if-number-xid-2.false))

pub returns-in_default-2-clause-into : goal.returns-in_default-2-clause-into
returns-in_default-2-clause-into c =
    ap (written c.args.into.now) (sym (refused-apart c.args.xid c.in-Refused.number (length c.args.into.now) (call_shown c.args.call.now) c.args.reply.now c.in-Refused.refusal c.in-Refused.ensures.read c.if-number-xid-2.false))

pub returns-in_default-3-clause-settled : goal.returns-in_default-3-clause-settled
returns-in_default-3-clause-settled c = ap (λ r. settled_of (reply_says c.args.xid (call_shown c.args.call.now) (length c.args.into.now) r)) (sym (ap read_shown c.in_default.is) ∙ c.read_reply.ensures.read)

pub returns-in_default-3-clause-into : goal.returns-in_default-3-clause-into
returns-in_default-3-clause-into c = ap (λ r. written c.args.into.now (reply_says c.args.xid (call_shown c.args.call.now) (length c.args.into.now) r)) (sym (ap read_shown c.in_default.is) ∙ c.read_reply.ensures.read)
