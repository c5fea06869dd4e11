use Rattle.std.proofs.Common.{drop, length, ◌-◌, take}
use Rattle.vx_lemmas.proofs.Laws.Slices.{two-parts}
use Rattle.vx_rpc.specs.Wording.{success_message}
use Rattle.vx_codec.specs.Answered.{results}
use Rattle.vx_calls.specs.Reply.{reply_shown}
use Rattle.vx_exchange.proofs.record.put_success.Goals as goal

pub returns-clause-message : goal.returns-clause-message
returns-clause-message c =
    two-parts (success_message c.args.xid) (results (reply_shown c.args.answer.now)) (drop c.in-Ok.head c.args.out.now) c.put_reply.new.out
    c.put_results.new.out (drop c.in-Ok-put_results.body (take (length c.put_reply.new.out - c.in-Ok.head) (drop c.in-Ok.head c.put_reply.new.out)))
    c.in-Ok.head c.in-Ok-put_results.body
    c.in-Ok.ensures.ok.bytes c.in-Ok.ensures.ok.len c.in-Ok-put_results.ensures.ok.bytes c.in-Ok-put_results.ensures.ok.len
