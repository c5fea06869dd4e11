use Rattle.std.proofs.Common.{◌≡◌, drop, length, ◌-◌, ◌++◌, ◌<◌, take, refl, ap, subst, ◌∙◌, arith, length-drop}
use Rattle.std.proofs.lemmas.List.{take_all}
use Rattle.vx_lemmas.proofs.Laws.Slices.{two-parts}
use Rattle.vx_rpc.specs.Procedure.{proc_number}
use Rattle.vx_rpc.specs.Wording.{call_message}
use Rattle.vx_codec.specs.Asked.{arguments, proc_of}
use Rattle.vx_calls.specs.Call.{call_shown}
use Rattle.vx_client.proofs.Laws.Lengths.{arguments-short, sendable-puttable}
use Rattle.vx_client.proofs.outbox.put_message.Goals as goal

pub unreachable-requires : goal.unreachable-requires
unreachable-requires c = omega (arith, c.in_default.ensures.full.0 refl, c.requires.room)

pub put_args-requires : goal.put_args-requires
put_args-requires c = sendable-puttable (call_shown c.args.call.now) c.requires.sendable

pub unreachable-requires-in_default-put_args : goal.unreachable-requires-in_default-put_args
unreachable-requires-in_default-put_args c =
    let args = arguments (call_shown c.args.call.now) in
    let behind = drop c.in-Ok.head c.put_call.new.out in
    let kept : length c.put_call.new.out ≡ length c.args.out.now = c.put_call.auto.out in
    let dropped = length-drop c.in-Ok.head c.put_call.new.out in
    let all : take (length c.put_call.new.out - c.in-Ok.head) behind ≡ behind = take_all (length c.put_call.new.out - c.in-Ok.head) behind (omega (arith, dropped)) in
    let full : length behind < length args = subst (λ xs. length xs < length args) all (c.in_default-put_args.ensures.full.0 refl) in
    omega (arith, full, dropped, kept, c.in-Ok.ensures.len, c.requires.room, arguments-short (call_shown c.args.call.now) c.requires.sendable)

pub returns-clause-len : goal.returns-clause-len
returns-clause-len c =
    omega (arith, c.in-Ok.ensures.len, c.in-Ok-put_args.ensures.ok.len, arguments-short (call_shown c.args.call.now) c.requires.sendable)

pub returns-clause-text : goal.returns-clause-text
returns-clause-text c =
    let args = arguments (call_shown c.args.call.now) in
    let number : c.number-proc.result ≡ proc_number (proc_of (call_shown c.args.call.now)) = c.number-proc.ensures ∙ ap proc_number c.procedure.ensures in
    two-parts (call_message c.args.xid 395183 1 c.number-proc.result) args (drop c.in-Ok.head c.args.out.now) c.put_call.new.out
    c.put_args.new.out (drop c.in-Ok-put_args.body (take (length c.put_call.new.out - c.in-Ok.head) (drop c.in-Ok.head c.put_call.new.out)))
    c.in-Ok.head c.in-Ok-put_args.body
    c.in-Ok.ensures.ok.bytes c.in-Ok.ensures.ok.len c.in-Ok-put_args.ensures.ok.bytes c.in-Ok-put_args.ensures.ok.len
    ∙ ap (λ n. call_message c.args.xid 395183 1 n ++ args) number
