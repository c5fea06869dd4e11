use Rattle.vx_history.proofs.lines.walk_with.Goals as goal

pub returns : goal.returns
returns c = c.walk_in.ensures
