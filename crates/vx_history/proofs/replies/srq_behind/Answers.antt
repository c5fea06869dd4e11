use Rattle.std.proofs.Common.{ap, ◌∙◌}
use Rattle.vx_rpc.specs.CallMeaning.{call_meaning}
use Rattle.vx_history.specs.Replies.{srq_told}
use Rattle.vx_history.proofs.replies.srq_behind.Goals as goal

pub returns : goal.returns
returns c = c.srq_told.ensures ∙ ap (λ xs. srq_told (call_meaning xs)) c.behind.ensures
