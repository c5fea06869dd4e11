use Rattle.std.proofs.Common.{refl, arith, ◌∙◌}
use Rattle.vx_488.specs.declared.transfers.Transfer.TheVariants.{Cmd}
use Rattle.vx_model.proofs.Folding.{bytes_got-more}
use Rattle.vx_model.proofs.plain.replies.bytes_got.Goals as goal

pub loop-t-preserved : goal.loop-t-preserved
loop-t-preserved c =
    c.in-Ok.ensures ∙ bytes_got-more c.args.moves.now c.loop-t.t-index (Cmd 0) c.loop-t.got.items _ (omega arith) c.loop-t.invariant refl
