use Rattle.vx_record.proofs.Streams.{run-fed}
use Rattle.vx_record.proofs.theorems.feed_law.Goals as goal

pub returns : goal.returns
returns c = λ t piece more. run-fed t.records t.buffer piece more
