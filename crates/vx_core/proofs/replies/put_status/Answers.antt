use Rattle.std.proofs.Common.{◌<◌, ℕ, take, slice_set, ap, ◌∙◌, arith}
use mir.Val.{bool_byte}
use Rattle.vx_core.proofs.Replying.{status-bytes}
use Rattle.vx_core.proofs.replies.put_status.Goals as goal

pub returns-clause-bytes : goal.returns-clause-bytes
returns-clause-bytes c =
    let small : c.args.number < 256 = omega arith in
    ap (λ (n : ℕ). take 2 (slice_set (slice_set c.args.room.now n c.args.number) c.from-2.result 0)) c.from.ensures
    ∙ ap (λ (n : ℕ). take 2 (slice_set (slice_set c.args.room.now (bool_byte c.args.is_big) c.args.number) n 0)) c.from-2.ensures
    ∙ status-bytes c.args.room.now c.args.number c.args.is_big c.requires small
