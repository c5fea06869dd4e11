use Rattle.std.proofs.Common.{◌+◌, ◌≡◌, ◌&&◌, ◌==◌, Bool, length, arith}
use Rattle.vx_488.proofs.Laws.Puts.{puts-held, puts-failed, puts-next, last-then, last-else}
use Rattle.vx_488.proofs.bus.Bus.put_many.Goals.{then-end, else-end}
use Rattle.vx_488.proofs.bus.Bus.put_many.Goals as goal

pub returns-in-Held-clause-walk : goal.returns-in-Held-clause-walk
returns-in-Held-clause-walk g c =
    let more : Bool = c.loop-moved.moved + 1 == length c.args.bytes.now in
    let is : c.if-end.put ≡ (c.args.end && more) =
    elim c.if-end.branch [ then-end w ↦ last-then c.args.end _ more w.if-end.true w.put-is | else-end w ↦ last-else c.args.end _ more w.if-end.false w.put-is ] in
    puts-held g.Self.Bus.means g.Self.Bus.through c.args.bytes.now c.args.end c.loop-moved.moved 0 _ c.loop-moved.self c.put.new.self
    c.loop-moved.invariant (omega arith) _ is (c.in-Held.ensures.stepped, c.in-Held.ensures.through)

pub returns-in-Failed-clause-walk : goal.returns-in-Failed-clause-walk
returns-in-Failed-clause-walk g c =
    let more : Bool = c.loop-moved.moved + 1 == length c.args.bytes.now in
    let is : c.if-end.put ≡ (c.args.end && more) =
    elim c.if-end.branch [ then-end w ↦ last-then c.args.end _ more w.if-end.true w.put-is | else-end w ↦ last-else c.args.end _ more w.if-end.false w.put-is ] in
    puts-failed g.Self.Bus.means g.Self.Bus.through c.args.bytes.now c.args.end c.loop-moved.moved 0 _ c.loop-moved.self c.put.new.self
    c.loop-moved.invariant (omega arith) _ is (c.in-Failed.ensures.stepped, c.in-Failed.ensures.through)

pub loop-moved-preserved : goal.loop-moved-preserved
loop-moved-preserved g c =
    let more : Bool = c.loop-moved.moved + 1 == length c.args.bytes.now in
    let is : c.if-end.put ≡ (c.args.end && more) =
    elim c.if-end.branch [ then-end w ↦ last-then c.args.end _ more w.if-end.true w.put-is | else-end w ↦ last-else c.args.end _ more w.if-end.false w.put-is ] in
    puts-next g.Self.Bus.means g.Self.Bus.through c.args.bytes.now c.args.end c.loop-moved.moved 0 _ c.loop-moved.self c.put.new.self
    c.loop-moved.invariant (omega arith) _ is (c.in-Went.ensures.stepped, c.in-Went.ensures.through)
