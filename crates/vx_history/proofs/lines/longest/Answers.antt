use Rattle.vx_history.proofs.Longest.{longest-begins, longest-ends}
use Rattle.vx_history.proofs.lines.longest.Goals as goal

pub loop-line-init : goal.loop-line-init
loop-line-init c = longest-begins c.args.text.now

pub returns : goal.returns
returns c = longest-ends _ _ _ c.loop-line.invariant c.in_default.ensures
