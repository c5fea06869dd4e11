use Rattle.std.proofs.Common.{◌≡◌, ◌+◌, ◌&&◌, ◌==◌, ◌++◌, Bool, length, take, get_or, sym, ap, ◌∙◌, arith}
use Rattle.vx_488.specs.declared.transfers.Transfer.TheVariants.{Put}
use Rattle.vx_488.specs.Bursts.{ended}
use Rattle.vx_488.proofs.Laws.Puts.{last-then, last-else}
use Rattle.vx_inst.specs.declared.done.Done.TheVariants.{Took}
use Rattle.vx_inst.specs.Runs.{takings}
use Rattle.vx_sim.specs.Histories.{calls_of}
use Rattle.vx_sim.proofs.Seats.{noted-next, takings-next}
use Rattle.vx_sim.proofs.seat.note_takings.Goals.{then-end, else-end}
use Rattle.vx_sim.proofs.seat.note_takings.Goals as goal

pub loop-noted-preserved : goal.loop-noted-preserved
loop-noted-preserved c =
    let bytes = c.args.bytes.now in
    let n = c.loop-noted.noted in
    let more : Bool = n + 1 == length bytes in
    let last : Bool = c.if-end.last in
    let is : last ≡ (c.args.end && more) =
    elim c.if-end.branch [ then-end w ↦ last-then c.args.end _ more w.if-end.true w.last-is | else-end w ↦ last-else c.args.end _ more w.if-end.false w.last-is ] in (
      noted-next c.args.calls.now.items c.loop-noted.calls.items c.and.result.items (takings (take n (ended Put c.args.end bytes))) (Took (get_or bytes n 0) last)
          c.loop-noted.invariant.0 c.and.ensures
          ∙ ap (λ ds. calls_of c.args.calls.now.items ++ ds) (sym (takings-next c.args.end bytes n 0 last (omega arith) is)),
      omega arith,
    )
