use Rattle.std.proofs.Common.{◌≡◌, ◌+◌, ◌&&◌, ◌==◌, Bool, length, sym, arith}
use Rattle.vx_488.proofs.Laws.Puts.{last-then, last-else}
use Rattle.vx_inst.proofs.Laws.Runs.{takes-next}
use Rattle.vx_inst.proofs.Instrument.take_many.Goals.{then-end, else-end}
use Rattle.vx_inst.proofs.Instrument.take_many.Goals as goal

pub loop-taken-preserved : goal.loop-taken-preserved
loop-taken-preserved g c =
    let more : Bool = c.loop-taken.taken + 1 == length c.args.bytes.now in
    let is : c.if-end.take ≡ (c.args.end && more) =
    elim c.if-end.branch [ then-end w ↦ last-then c.args.end _ more w.if-end.true w.take-is | else-end w ↦ last-else c.args.end _ more w.if-end.false w.take-is ] in (
      takes-next c.args.end c.args.bytes.now c.loop-taken.taken 0 _ (g.Self.Instrument.behaves c.args.self.now) (g.Self.Instrument.behaves c.loop-taken.self)
          (g.Self.Instrument.behaves c.take.new.self) (omega arith) is c.loop-taken.invariant.0
          (sym c.if-not-can_take.ensures.can, c.take.ensures.takes, c.take.ensures.does, c.take.ensures.sound),
      omega arith,
    )
