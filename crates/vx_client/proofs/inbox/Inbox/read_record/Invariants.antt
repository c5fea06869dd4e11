use Rattle.vx_client.specs.Ending.{Received}
use Rattle.vx_client.proofs.Reading.{ReadSoFar}
use Rattle.vx_client.proofs.inbox.Inbox.read_record.Given as goal

abbrev pub invariant-loop-self : goal.invariant-loop-self
invariant-loop-self g l =
    ReadSoFar g.L.Link.stands g.L.Link.left g.L.Link.receive_faults g.L.Link.send_faults l.initial.link l.link l.initial.self.kept l.self l.left
    × Received g.L.Link.receives l.initial.link l.link

abbrev pub decreases-loop-self : goal.decreases-loop-self
decreases-loop-self g l = l.left
