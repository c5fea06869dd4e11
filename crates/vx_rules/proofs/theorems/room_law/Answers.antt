use Rattle.vx_rules.proofs.Laws.Room.{has_room}
use Rattle.vx_rules.proofs.theorems.room_law.Goals as goal

pub returns : goal.returns
returns c = has_room
