use Rattle.vx_player.proofs.Laws.Ready.{begins-own}
use Rattle.vx_play.proofs.run.make_steps.Goals as goal

pub make_with-requires-clause-begins : goal.make_with-requires-clause-begins
make_with-requires-clause-begins g c = begins-own _ _ c.in-Ok.ensures

pub returns-in-Ok : goal.returns-in-Ok
returns-in-Ok g c = record { ended = c.make_with.ensures.ended _ c.in-Ok.ensures.rack }
