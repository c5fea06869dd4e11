use Rattle.std.proofs.Common.{sym, ap, ◌∙◌, subst}
use Rattle.vx_calls.specs.Call.{call_shown}
use Rattle.vx_rpc.specs.declared.refusal.RpcRefusal.TheVariants as refusal
use Rattle.vx_rpc.specs.Wording.{refusal_message}
use Rattle.vx_codec.proofs.Laws.{read-short}
use Rattle.vx_exchange.specs.Meaning.{by_arguments, by_sorting}
use Rattle.vx_exchange.specs.Opening.{Opens}
use Rattle.vx_exchange.proofs.ByProcedure.{fits}
use Rattle.vx_exchange.proofs.opened.open.Goals as goal

pub returns-in-Junk-clause-opens : goal.returns-in-Junk-clause-opens
returns-in-Junk-clause-opens c = ap by_sorting (sym c.in-Junk.ensures.sorted)

pub returns-in-Refuse-clause-opens : goal.returns-in-Refuse-clause-opens
returns-in-Refuse-clause-opens c =
    let put = c.put_refusal_record.ensures in (
      refusal_message c.in-Refuse.xid c.in-Refuse.refusal,
      ap by_sorting (sym c.in-Refuse.ensures.sorted),
      record { record_is = put.record; some = put.some; within = put.within },
    )

pub returns-in-None-clause-opens : goal.returns-in-None-clause-opens
returns-in-None-clause-opens c =
    let put = c.put_refusal_record-in-None.ensures in (
      refusal_message c.in-Call.xid refusal.GarbageArgs,
      ap by_sorting (sym c.in-Call.ensures.sorted) ∙ ap (by_arguments c.in-Call.xid) (sym c.in-None.ensures.exact),
      record { record_is = put.record; some = put.some; within = put.within },
    )

pub returns-in-Some-clause-opens : goal.returns-in-Some-clause-opens
returns-in-Some-clause-opens c =
    subst (λ m. Opens m c.open_call.new.reply c.open_call.result)
    (ap (by_arguments c.in-Call.xid) c.in-Some.ensures.exact ∙ ap by_sorting c.in-Call.ensures.sorted) c.open_call.ensures.opens

pub returns-in-Some-clause-role : goal.returns-in-Some-clause-role
returns-in-Some-clause-role c =
    let behind = c.in-Call.ensures.args in
    c.open_call.ensures.role c.args.role
    (fits c.args.role c.in-Call.proc (call_shown c.in-Some.call) c.in-Call.args.now c.in-Call.ensures.served c.in-Some.ensures.found)
    (read-short c.args.message.now c.in-Call.args.now (call_shown c.in-Some.call) behind.0 c.in-Some.ensures.puttable c.in-Some.ensures.len behind.3 c.requires.short)
