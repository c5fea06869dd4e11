use Rattle.vx_record.proofs.Streams.{pieces-records}
use Rattle.vx_record.proofs.theorems.pieces_law.Goals as goal

pub returns : goal.returns
returns c = pieces-records
