use Rattle.vx_flow.proofs.Laws.Hearing.{device-holds, interface-holds}
use Rattle.vx_flow.proofs.theorems.heard_law.Goals as goal

pub returns : goal.returns
returns c = record { device = device-holds; interface = interface-holds }
