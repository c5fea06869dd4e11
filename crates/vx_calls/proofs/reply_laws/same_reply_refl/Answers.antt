use Rattle.vx_calls.proofs.Laws.{same_reply-refl}
use Rattle.vx_calls.proofs.reply_laws.same_reply_refl.Goals as goal

pub returns : goal.returns
returns c = same_reply-refl
