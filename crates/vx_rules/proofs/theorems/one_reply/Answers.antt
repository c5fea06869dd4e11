use Rattle.vx_rules.proofs.EntryLaws.{one_reply-law, one_abort-law, one_take-law}
use Rattle.vx_rules.proofs.theorems.one_reply.Goals as goal

pub returns : goal.returns
returns c = record { reply = one_reply-law; abort = one_abort-law; take = one_take-law }
