use Rattle.vx_calls.proofs.Laws.{same_reply-is}
use Rattle.vx_calls.proofs.reply_laws.same_reply_is.Goals as goal

pub returns : goal.returns
returns c = same_reply-is
