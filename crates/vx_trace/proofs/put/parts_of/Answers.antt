use Rattle.std.proofs.Common.{arith}
use Rattle.std.specs.Prelude.{IsTrue}
use Rattle.vx_trace.specs.Text.{is_cause}
use Rattle.vx_trace.proofs.Causes.{short-cause}
use Rattle.vx_trace.proofs.put.parts_of.Goals as goal

pub returns-in-FaultLine-clause-room : goal.returns-in-FaultLine-clause-room
returns-in-FaultLine-clause-room c =
    let word = c.in-FaultLine.word.now in
    rw c.in-FaultLine.is (λ (whole : IsTrue (is_cause word)). let short = short-cause word whole in omega arith)
