use Rattle.vx_flow.proofs.Laws.Linearizing.{stays_sound-law, call_stays-law}
use Rattle.vx_flow.proofs.theorems.sound_law.Goals as goal

pub returns-clause-stays : goal.returns-clause-stays
returns-clause-stays c = stays_sound-law

pub returns-clause-call : goal.returns-clause-call
returns-clause-call c = call_stays-law
