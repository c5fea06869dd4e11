use Rattle.std.proofs.Common.{◌<◌, length, sym, ap, ◌∙◌, arith}
use Rattle.std.specs.Str.{bytes_eq}
use Rattle.vx_calls.specs.Reply.{reply_shown}
use Rattle.vx_record.specs.Fragments.{record_of}
use Rattle.vx_exchange.specs.Meaning.{reply_record}
use Rattle.vx_history.proofs.Told.{longer-differs}
use Rattle.vx_history.proofs.replies.is_record_in.Goals as goal

pub returns-in-Some : goal.returns-in-Some
returns-in-Some c = c.is_record_of.ensures ∙ ap (λ m. bytes_eq (record_of m) c.args.bytes.now) c.in-Some.ensures.message.0

pub returns-in-None : goal.returns-in-None
returns-in-None c =
    let short = c.in-None.ensures.message in
    let room = c.requires.room in
    let less : length c.args.bytes.now < length (reply_record c.args.xid (reply_shown c.args.reply.now)) = omega arith in
    sym (longer-differs (reply_record c.args.xid (reply_shown c.args.reply.now)) c.args.bytes.now less)
