use Rattle.std.proofs.Common.{◌+◌, ◌≡◌, ◌&&◌, ◌==◌, Bool, length, get_or, arith}
use Rattle.vx_488.specs.declared.transfers.Transfer.TheVariants.{Put}
use Rattle.vx_488.specs.declared.asks.Move.TheVariants as answer
use Rattle.vx_488.specs.Steps.{move_step}
use Rattle.vx_488.proofs.Laws.Puts.{puts-held, puts-failed, puts-next, last-then, last-else}
use Rattle.vx_sim.specs.SimState.{Through}
use Rattle.vx_sim.proofs.Stepping.{steps-to}
use Rattle.vx_sim.proofs.sim.SimBus.put_all_to.Goals.{then-end, else-end}
use Rattle.vx_sim.proofs.sim.SimBus.put_all_to.Goals as goal

pub returns-in-Held-clause-walk : goal.returns-in-Held-clause-walk
returns-in-Held-clause-walk g c =
    let more : Bool = c.loop-moved.moved + 1 == length c.args.bytes.now in
    let is : c.if-end.put_to ≡ (c.args.end && more) =
    elim c.if-end.branch [ then-end w ↦ last-then c.args.end _ more w.if-end.true w.put_to-is | else-end w ↦ last-else c.args.end _ more w.if-end.false w.put_to-is ] in
    puts-held (λ s. s.means) Through c.args.bytes.now c.args.end c.loop-moved.moved 0 _ c.loop-moved.self c.put_to.new.self
    c.loop-moved.invariant.0 (omega arith) _ is (steps-to c.loop-moved.self c.put_to.new.self (move_step (Put (get_or c.args.bytes.now c.loop-moved.moved 0) c.if-end.put_to) answer.Held) c.in-Held.ensures.through)

pub returns-in-Failed-clause-walk : goal.returns-in-Failed-clause-walk
returns-in-Failed-clause-walk g c =
    let more : Bool = c.loop-moved.moved + 1 == length c.args.bytes.now in
    let is : c.if-end.put_to ≡ (c.args.end && more) =
    elim c.if-end.branch [ then-end w ↦ last-then c.args.end _ more w.if-end.true w.put_to-is | else-end w ↦ last-else c.args.end _ more w.if-end.false w.put_to-is ] in
    puts-failed (λ s. s.means) Through c.args.bytes.now c.args.end c.loop-moved.moved 0 _ c.loop-moved.self c.put_to.new.self
    c.loop-moved.invariant.0 (omega arith) _ is (steps-to c.loop-moved.self c.put_to.new.self (move_step (Put (get_or c.args.bytes.now c.loop-moved.moved 0) c.if-end.put_to) answer.Failed) c.in-Failed.ensures.through)

pub loop-moved-preserved : goal.loop-moved-preserved
loop-moved-preserved g c =
    let more : Bool = c.loop-moved.moved + 1 == length c.args.bytes.now in
    let is : c.if-end.put_to ≡ (c.args.end && more) =
    elim c.if-end.branch [ then-end w ↦ last-then c.args.end _ more w.if-end.true w.put_to-is | else-end w ↦ last-else c.args.end _ more w.if-end.false w.put_to-is ] in (
      puts-next (λ s. s.means) Through c.args.bytes.now c.args.end c.loop-moved.moved 0 _ c.loop-moved.self c.put_to.new.self
          c.loop-moved.invariant.0 (omega arith) _ is (steps-to c.loop-moved.self c.put_to.new.self (move_step (Put (get_or c.args.bytes.now c.loop-moved.moved 0) c.if-end.put_to) answer.Went) c.in-Went.ensures.through),
      c.in-Went.ensures.hearers,
    )
