use Rattle.std.proofs.Common.{arith, ◌∙◌}
use Rattle.vx_488.specs.declared.transfers.Transfer.TheVariants.{Cmd}
use Rattle.vx_model.proofs.Folding.{last_got-more}
use Rattle.vx_model.proofs.plain.replies.last_got.Goals as goal

pub loop-t-preserved : goal.loop-t-preserved
loop-t-preserved c =
    c.last_after-last.ensures ∙ last_got-more c.args.moves.now c.loop-t.t-index (Cmd 0) c.loop-t.last (omega arith) c.loop-t.invariant
