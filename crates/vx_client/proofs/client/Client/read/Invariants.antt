use Rattle.std.proofs.Common.{◌-◌, length}
use Rattle.vx_client.specs.Parts.{ReadsPart}
use Rattle.vx_client.proofs.Parts.{ReadsOn}
use Rattle.vx_client.proofs.client.Client.read.Given as goal

abbrev pub invariant-loop-end : goal.invariant-loop-end
invariant-loop-end g l =
    ReadsOn (ReadsPart g.L.Link.stands g.L.Link.left g.L.Link.receive_faults g.L.Link.send_faults l.lid l.opts l.term) l.initial.self l.self l.initial.into l.into l.len

abbrev pub decreases-loop-end : goal.decreases-loop-end
decreases-loop-end g l = length l.initial.into - l.len
