use Rattle.std.proofs.Common.{◌≡◌, ◌<◌, ◌≤◌, ◌-◌, length, drop, take, refl, subst, arith, length-drop}
use Rattle.std.proofs.lemmas.List.{take_all}
use Rattle.vx_lemmas.proofs.Laws.Slices.{two-parts}
use Rattle.vx_rpc.specs.Wording.{call_message}
use Rattle.vx_codec.specs.Spelling.{opaque}
use Rattle.vx_srq.specs.Shown.{handle_shown}
use Rattle.vx_exchange.specs.Meaning.{intr_srq}
use Rattle.vx_exchange.proofs.Recorded.{opaque-short}
use Rattle.vx_exchange.proofs.record.put_srq_message.Goals as goal

pub unreachable-requires-in_default-put_srq : goal.unreachable-requires-in_default-put_srq
unreachable-requires-in_default-put_srq c =
    let room = c.requires in
    let head = c.in-Ok.ensures.len in
    let kept : length c.put_call.new.out ≡ length c.args.out.now = c.put_call.auto.out in
    let few : length (handle_shown c.args.interrupt.now.handle) ≤ 40 = omega arith in
    let short = opaque-short (handle_shown c.args.interrupt.now.handle) few in
    let dropped = length-drop c.in-Ok.head c.put_call.new.out in
    let all : take (length c.put_call.new.out - c.in-Ok.head) (drop c.in-Ok.head c.put_call.new.out) ≡ drop c.in-Ok.head c.put_call.new.out =
    take_all (length c.put_call.new.out - c.in-Ok.head) (drop c.in-Ok.head c.put_call.new.out) (omega arith) in
    let full : length (drop c.in-Ok.head c.put_call.new.out) < length (opaque (handle_shown c.args.interrupt.now.handle)) =
    subst (λ xs. length xs < length (opaque (handle_shown c.args.interrupt.now.handle))) all (c.in_default-put_srq.ensures.full.0 refl) in
    omega arith

pub returns-clause-message : goal.returns-clause-message
returns-clause-message c =
    two-parts (call_message c.args.interrupt.now.xid c.args.interrupt.now.prog c.args.interrupt.now.vers intr_srq) (opaque (handle_shown c.args.interrupt.now.handle))
    (drop c.in-Ok.head c.args.out.now) c.put_call.new.out
    c.put_srq.new.out (drop c.in-Ok-put_srq.body (take (length c.put_call.new.out - c.in-Ok.head) (drop c.in-Ok.head c.put_call.new.out)))
    c.in-Ok.head c.in-Ok-put_srq.body
    c.in-Ok.ensures.ok.bytes c.in-Ok.ensures.ok.len c.in-Ok-put_srq.ensures.ok.bytes c.in-Ok-put_srq.ensures.ok.len

pub returns-clause-within : goal.returns-clause-within
returns-clause-within c =
    let head = c.in-Ok.ensures.len in
    let body = c.in-Ok-put_srq.ensures.ok.len in
    let few : length (handle_shown c.args.interrupt.now.handle) ≤ 40 = omega arith in
    let short = opaque-short (handle_shown c.args.interrupt.now.handle) few in
    omega arith
