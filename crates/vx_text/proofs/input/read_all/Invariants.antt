use Rattle.std.proofs.Common.{◌<◌, ◌-◌, ◌+◌, length}
use Rattle.vx_text.specs.Ends.{source_shown}
use Rattle.vx_text.specs.Reading.{GaveSoFar}
use Rattle.vx_text.proofs.input.read_all.Given as goal

abbrev pub invariant-loop-piece : goal.invariant-loop-piece
invariant-loop-piece g l =
    (0 < length l.piece.items) × GaveSoFar l.most
    (source_shown g.S.Source l.initial.source)
    (source_shown g.S.Source l.source) l.bytes.items

abbrev pub decreases-loop-piece : goal.decreases-loop-piece
decreases-loop-piece g l = l.most + 1 - length l.bytes.items
