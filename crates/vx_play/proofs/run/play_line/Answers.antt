use Rattle.vx_play.proofs.run.play_line.Goals as goal

pub returns-in-One-clause-ended : goal.returns-in-One-clause-ended
returns-in-One-clause-ended g c = rw c.in-One.is c.play_plain.ensures.ended

pub returns-in-Two-clause-ended : goal.returns-in-Two-clause-ended
returns-in-Two-clause-ended g c = rw c.in-Two.is c.play_timed.ensures.ended
