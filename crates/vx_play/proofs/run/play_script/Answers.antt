use Rattle.vx_player.proofs.Laws.Ready.{begins-own}
use Rattle.vx_play.proofs.run.play_script.Goals as goal

pub play_in_room-requires : goal.play_in_room-requires
play_in_room-requires g c = record { begins = begins-own _ _ c.in-Ok.ensures }

pub returns-in-Ok : goal.returns-in-Ok
returns-in-Ok g c = record { ended = c.play_in_room.ensures.ended _ c.in-Ok.ensures.rack }
