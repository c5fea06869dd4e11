use Rattle.vx_text.proofs.Laws.Moved.{took-more}
use Rattle.vx_text.proofs.output.put_all.Goals as goal

pub loop-done-preserved : goal.loop-done-preserved
loop-done-preserved g c =
    took-more _ _ _ c.args.text.now c.loop-done.done c.in-Took.count c.loop-done.invariant c.in-Took.ensures.took.1 c.in-Took.ensures.took.2 c.in-Took.ensures.counted
