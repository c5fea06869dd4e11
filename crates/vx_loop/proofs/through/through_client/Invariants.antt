use Rattle.std.proofs.Common.{◌≡◌, ◌≤◌, None, length, min}
use Rattle.vx_calls.specs.declared.limits.TheConstants.{PIECE_MAX}
use Rattle.vx_client.specs.Chunks.{chunks, without_end, WritesPiece}
use Rattle.vx_client.proofs.Laws.Chunks.{Leads}
use Rattle.vx_loop.specs.LoopState.{LoopState}
use Rattle.vx_loop.specs.Standing.{LoopStandsFor}
use Rattle.vx_loop.proofs.Several.{HeardSoFar}
use Rattle.vx_loop.proofs.through.through_client.Given as goal

abbrev pub invariant-loop-rest : goal.invariant-loop-rest
invariant-loop-rest g l =
    (l.most ≡ min l.made.max PIECE_MAX) × (1 ≤ l.most)
    × Leads (WritesPiece {L = LoopState} LoopStandsFor (λ s. None) (λ s. s.receive_faults) (λ s. s.send_faults) l.made.lid l.opts (without_end l.opts.flags))
    (WritesPiece {L = LoopState} LoopStandsFor (λ s. None) (λ s. s.receive_faults) (λ s. s.send_faults) l.made.lid l.opts l.opts.flags)
    l.initial.client l.client (chunks l.most l.initial.rest) (chunks l.most l.rest)
    × HeardSoFar l.initial.client l.client l.made.lid l.initial.rest l.rest

abbrev pub decreases-loop-rest : goal.decreases-loop-rest
decreases-loop-rest g l = length l.rest
