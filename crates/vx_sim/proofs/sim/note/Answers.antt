use Rattle.std.proofs.Common.{◌≡◌, ◌+◌, ◌∷◌, ◌++◌, ◌&&◌, ◌==◌, [], Bool, length, ap, ◌∙◌, arith}
use Rattle.vx_488.specs.declared.transfers.Transfer.{Transfer}
use Rattle.vx_488.proofs.Laws.Puts.{last-then, last-else}
use Rattle.vx_sim.specs.Shown.{moved}
use Rattle.vx_sim.proofs.Runs.{noted-next}
use Rattle.vx_sim.proofs.sim.note.Goals.{then-end, else-end}
use Rattle.vx_sim.proofs.sim.note.Goals as goal

pub loop-noted-preserved : goal.loop-noted-preserved
loop-noted-preserved c =
    let more : Bool = c.loop-noted.noted + 1 == length c.args.bytes.now in
    let is : c.if-end.transfer ≡ (c.args.end && more) =
    elim c.if-end.branch [ then-end w ↦ last-then c.args.end _ more w.if-end.true w.transfer-is | else-end w ↦ last-else c.args.end _ more w.if-end.false w.transfer-is ] in (
      noted-next (moved c.args.way) c.args.end c.args.bytes.now c.loop-noted.noted 0 _ c.args.moves.now.items c.loop-noted.moves.items c.push_reserved.new.self.items
          (omega arith) is c.loop-noted.invariant.0
          (c.push_reserved.ensures.items ∙ ap (λ (t : Transfer). c.loop-noted.moves.items ++ t ∷ []) c.transfer.ensures),
      omega arith,
      omega arith,
      omega arith,
    )
