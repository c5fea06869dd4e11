use Rattle.std.proofs.Common.{◌++◌, sym, ap, ◌∙◌}
use Rattle.vx_inst.specs.declared.done.Done.TheVariants.{Gave}
use Rattle.vx_inst.specs.Runs.{gave}
use Rattle.vx_sim.specs.Histories.{calls_of}
use Rattle.vx_sim.proofs.Seats.{noted-next, gave-more}
use Rattle.vx_sim.proofs.seat.note_givings.Goals as goal

pub loop-preserved : goal.loop-preserved
loop-preserved c =
    noted-next c.args.calls.now.items c.loop.calls.items c.and.result.items (gave c.loop.counter) Gave c.loop.invariant c.and.ensures
    ∙ ap (λ ds. calls_of c.args.calls.now.items ++ ds) (sym (gave-more c.loop.counter))
