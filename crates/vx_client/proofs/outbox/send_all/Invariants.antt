use Rattle.std.proofs.Common.{length, ◌-◌}
use Rattle.vx_client.specs.Ending.{SentFront}
use Rattle.vx_client.proofs.Sending.{SentSoFar}
use Rattle.vx_client.proofs.outbox.send_all.Given as goal

abbrev pub invariant-loop-done : goal.invariant-loop-done
invariant-loop-done g l =
    SentSoFar g.L.Link.stands g.L.Link.left g.L.Link.receive_faults g.L.Link.send_faults l.initial.link l.link l.text l.done
    × SentFront g.L.Link.sends l.initial.link l.text l.link l.done

abbrev pub decreases-loop-done : goal.decreases-loop-done
decreases-loop-done g l = length l.text - l.done
