use Rattle.std.proofs.Common.{arith, ◌∙◌}
use Rattle.vx_488.specs.declared.transfers.Transfer.TheVariants.{Cmd}
use Rattle.vx_model.proofs.Folding.{wire_after-more}
use Rattle.vx_model.proofs.plain.wire_after.Goals as goal

pub loop-t-preserved : goal.loop-t-preserved
loop-t-preserved c =
    c.apply.ensures ∙ wire_after-more c.args.before c.args.moves.now c.loop-t.t-index (Cmd 0) c.loop-t.wire (omega arith) c.loop-t.invariant
