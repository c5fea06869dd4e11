use Rattle.std.proofs.Common.{length, ◌-◌}
use Rattle.vx_text.specs.Ends.{sink_shown}
use Rattle.vx_text.specs.Writing.{TookSoFar}
use Rattle.vx_text.proofs.output.put_all.Given as goal

abbrev pub invariant-loop-done : goal.invariant-loop-done
invariant-loop-done g l = TookSoFar
    (sink_shown g.K.Sink l.initial.sink)
    (sink_shown g.K.Sink l.sink) l.text l.done

abbrev pub decreases-loop-done : goal.decreases-loop-done
decreases-loop-done g l = length l.text - l.done
