use Rattle.vx_488.proofs.Laws.AddressCommands.{listen_byte, talk_byte, secondary_byte}
use Rattle.vx_488.proofs.theorems.address_bytes.Goals as goal

pub returns : goal.returns
returns c = record { listen = listen_byte; talk = talk_byte; secondary = secondary_byte }
