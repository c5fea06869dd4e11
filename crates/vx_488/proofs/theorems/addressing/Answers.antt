use Rattle.vx_488.proofs.Laws.AddressCommands.{one_listener, talker-law}
use Rattle.vx_488.proofs.theorems.addressing.Goals as goal

pub returns : goal.returns
returns c = record { one_listener = one_listener; talker = talker-law }
