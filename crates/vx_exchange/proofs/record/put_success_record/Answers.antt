use Rattle.vx_record.specs.Fragments.{record_of}
use Rattle.std.proofs.Common.{◌-◌, ◌≤◌, ap, ◌∙◌, arith}
use Rattle.vx_lemmas.proofs.Laws.Slices.{behind-mark}
use Rattle.vx_exchange.specs.declared.record.TheConstants.{REPLY_ROOM}
use Rattle.vx_exchange.proofs.record.put_success_record.Goals as goal

pub returns-clause-record : goal.returns-clause-record
returns-clause-record c =
    let within : c.put_success-len.result ≤ REPLY_ROOM - 4 = (let len = c.put_success-len.ensures.len in omega arith) in
    c.close_record.ensures.record
    ∙ ap record_of (
    behind-mark c.args.reply.now c.put_success-len.new.out c.put_success-len.result (REPLY_ROOM - 4) (omega (arith, c.requires.room)) c.put_success-len.auto.out within
    ∙ c.put_success-len.ensures.message)
