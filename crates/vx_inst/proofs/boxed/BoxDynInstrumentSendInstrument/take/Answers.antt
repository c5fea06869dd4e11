use Rattle.std.proofs.Common.{rules}
use Rattle.vx_inst.proofs.boxed.BoxDynInstrumentSendInstrument.take.Goals as goal

pub returns-clause-sound : goal.returns-clause-sound
returns-clause-sound c = search rules
