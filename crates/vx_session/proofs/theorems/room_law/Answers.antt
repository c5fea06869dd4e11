use Rattle.vx_session.proofs.Laws.{counts-hold, few-holds, room-holds}
use Rattle.vx_session.proofs.theorems.room_law.Goals as goal

pub returns : goal.returns
returns c = record { counts = counts-hold; few = few-holds; room = room-holds }
