use Rattle.std.proofs.Common.{◌≡◌, ◌+◌, ◌++◌, drop, length, ◌-◌, take, arith}
use Rattle.vx_lemmas.proofs.Laws.Slices.{two-parts}
use Rattle.vx_rpc.specs.Wording.{success_message}
use Rattle.vx_codec.specs.Answered.{results}
use Rattle.vx_calls.specs.Reply.{reply_shown}
use Rattle.vx_history.proofs.Told.{taken-within}
use Rattle.vx_history.proofs.replies.put_message.Goals as goal

pub returns-in-Ok-put_results-clause-message : goal.returns-in-Ok-put_results-clause-message
returns-in-Ok-put_results-clause-message c =
    let told = results (reply_shown c.args.reply.now) in
    let front = c.in-Ok.ensures.ok.len in
    let behind = c.in-Ok-put_results.ensures.ok.len in
    let is = two-parts (success_message c.args.xid) told (drop c.in-Ok.head c.args.out.now) c.put_reply.new.out
    c.put_results.new.out (drop c.in-Ok-put_results.body (take (length c.put_reply.new.out - c.in-Ok.head) (drop c.in-Ok.head c.put_reply.new.out)))
    c.in-Ok.head c.in-Ok-put_results.body
    c.in-Ok.ensures.ok.bytes c.in-Ok.ensures.ok.len c.in-Ok-put_results.ensures.ok.bytes c.in-Ok-put_results.ensures.ok.len in
    let long : c.in-Ok.head + c.in-Ok-put_results.body ≡ length (success_message c.args.xid ++ told) = omega arith in
    (is, long, taken-within _ _ _ is long)
