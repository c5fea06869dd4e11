use Rattle.std.proofs.Common.{◌≡◌, ◌≤◌, length, min}
use Rattle.vx_calls.specs.declared.limits.TheConstants.{PIECE_MAX}
use Rattle.vx_client.specs.Chunks.{chunks, without_end, WritesPiece}
use Rattle.vx_client.proofs.Laws.Chunks.{Leads}
use Rattle.vx_client.proofs.client.Client.write.Given as goal

abbrev pub invariant-loop-rest : goal.invariant-loop-rest
invariant-loop-rest g l =
    (l.most ≡ min l.made.max PIECE_MAX) × (1 ≤ l.most)
    × Leads (WritesPiece g.L.Link.stands g.L.Link.left g.L.Link.receive_faults g.L.Link.send_faults l.made.lid l.opts (without_end l.opts.flags))
    (WritesPiece g.L.Link.stands g.L.Link.left g.L.Link.receive_faults g.L.Link.send_faults l.made.lid l.opts l.opts.flags)
    l.initial.self l.self (chunks l.most l.initial.rest) (chunks l.most l.rest)

abbrev pub decreases-loop-rest : goal.decreases-loop-rest
decreases-loop-rest g l = length l.rest
