use Rattle.std.proofs.Common.{drop, length, ◌-◌, take}
use Rattle.vx_lemmas.proofs.Laws.Slices.{two-parts}
use Rattle.vx_rpc.specs.Wording.{call_message}
use Rattle.vx_codec.specs.Asked.{arguments}
use Rattle.vx_calls.specs.Call.{call_shown}
use Rattle.vx_gen.proofs.records.put_message.Goals as goal

pub returns-clause-text : goal.returns-clause-text
returns-clause-text c =
    two-parts (call_message c.args.xid c.args.program 1 c.args.number) (arguments (call_shown c.args.call.now)) (drop c.in-Ok.head c.args.out.now) c.put_call.new.out
    c.put_args.new.out (drop c.in-Ok-put_args.body (take (length c.put_call.new.out - c.in-Ok.head) (drop c.in-Ok.head c.put_call.new.out)))
    c.in-Ok.head c.in-Ok-put_args.body
    c.in-Ok.ensures.ok.bytes c.in-Ok.ensures.ok.len c.in-Ok-put_args.ensures.ok.bytes c.in-Ok-put_args.ensures.ok.len
