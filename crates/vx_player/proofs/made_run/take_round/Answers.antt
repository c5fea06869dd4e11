use Rattle.vx_player.proofs.Driving.{fault-says}
use Rattle.vx_player.proofs.made_run.take_round.Goals as goal

pub take_drawn-requires-clause-running : goal.take_drawn-requires-clause-running
take_drawn-requires-clause-running g c =
    (c.requires.running.0, c.requires.running.1, c.in-Ok.ensures.taken c.requires.running.0 c.requires.running.1 c.requires.running.2)

pub returns-in-Ok-clause-halted : goal.returns-in-Ok-clause-halted
returns-in-Ok-clause-halted g c =
    fault-says c.take_drawn.result _ _ (λ halt halted seed rack draw_is r. halted seed rack draw_is (c.in-Ok.ensures.taken seed rack r)) c.take_drawn.ensures.halted
