use Rattle.vx_group.proofs.Standing.{claims-holds, sound-holds}
use Rattle.vx_group.proofs.theorems.claims_law.Goals as goal

pub returns-clause-claims : goal.returns-clause-claims
returns-clause-claims c = claims-holds

pub returns-clause-sound : goal.returns-clause-sound
returns-clause-sound c = sound-holds
