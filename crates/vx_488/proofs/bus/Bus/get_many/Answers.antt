use Rattle.std.proofs.Common.{Bool, subst, sym, ◌∙◌, arith}
use Rattle.std.proofs.lemmas.List.{length-set}
use Rattle.vx_488.specs.declared.transfers.Transfer.TheVariants.{Got}
use Rattle.vx_488.specs.Steps.{Went}
use Rattle.vx_488.specs.Walks.{StepsTo}
use Rattle.vx_488.proofs.Laws.Gets.{gets-held, gets-failed, gets-end, gets-char, gets-next, char-is}
use Rattle.vx_488.proofs.bus.Bus.get_many.Goals as goal

pub returns-in-Held-clause-walk : goal.returns-in-Held-clause-walk
returns-in-Held-clause-walk g c =
    (gets-held g.Self.Bus.means g.Self.Bus.through c.args.stop c.loop-got.got c.args.room.now c.loop-got.room _ c.loop-got.self
    c.loop-got.invariant (omega arith) c.get.new.self (c.in-Held.ensures.stepped, c.in-Held.ensures.through)).walk

pub returns-in-Held-clause-stops : goal.returns-in-Held-clause-stops
returns-in-Held-clause-stops g c =
    (gets-held g.Self.Bus.means g.Self.Bus.through c.args.stop c.loop-got.got c.args.room.now c.loop-got.room _ c.loop-got.self
    c.loop-got.invariant (omega arith) c.get.new.self (c.in-Held.ensures.stepped, c.in-Held.ensures.through)).stops

pub returns-in-Failed-clause-walk : goal.returns-in-Failed-clause-walk
returns-in-Failed-clause-walk g c =
    (gets-failed g.Self.Bus.means g.Self.Bus.through c.args.stop c.loop-got.got c.args.room.now c.loop-got.room _ c.loop-got.self
    c.loop-got.invariant (omega arith) c.get.new.self (c.in-Failed.ensures.stepped, c.in-Failed.ensures.through)).walk

pub returns-in-Failed-clause-stops : goal.returns-in-Failed-clause-stops
returns-in-Failed-clause-stops g c =
    (gets-failed g.Self.Bus.means g.Self.Bus.through c.args.stop c.loop-got.got c.args.room.now c.loop-got.room _ c.loop-got.self
    c.loop-got.invariant (omega arith) c.get.new.self (c.in-Failed.ensures.stepped, c.in-Failed.ensures.through)).stops

pub returns-then-end-clause-walk : goal.returns-then-end-clause-walk
returns-then-end-clause-walk g c =
    let S : Bool → Type 0 = λ e. StepsTo g.Self.Bus.means g.Self.Bus.through c.loop-got.self (Went (Got c.in-Byte.b e)) c.get.new.self in
    (gets-end g.Self.Bus.means g.Self.Bus.through c.args.stop c.loop-got.got c.args.room.now c.loop-got.room _ c.loop-got.self
    c.loop-got.invariant (omega arith) c.get.new.self c.in-Byte.b (subst S c.if-end.true (c.in-Byte.ensures.stepped, c.in-Byte.ensures.through))).walk

pub returns-then-end-clause-stops : goal.returns-then-end-clause-stops
returns-then-end-clause-stops g c =
    let S : Bool → Type 0 = λ e. StepsTo g.Self.Bus.means g.Self.Bus.through c.loop-got.self (Went (Got c.in-Byte.b e)) c.get.new.self in
    (gets-end g.Self.Bus.means g.Self.Bus.through c.args.stop c.loop-got.got c.args.room.now c.loop-got.room _ c.loop-got.self
    c.loop-got.invariant (omega arith) c.get.new.self c.in-Byte.b (subst S c.if-end.true (c.in-Byte.ensures.stepped, c.in-Byte.ensures.through))).stops

pub returns-then-eq-clause-walk : goal.returns-then-eq-clause-walk
returns-then-eq-clause-walk g c =
    let S : Bool → Type 0 = λ e. StepsTo g.Self.Bus.means g.Self.Bus.through c.loop-got.self (Went (Got c.in-Byte.b e)) c.get.new.self in
    (gets-char g.Self.Bus.means g.Self.Bus.through c.args.stop c.loop-got.got c.args.room.now c.loop-got.room _ c.loop-got.self
    c.loop-got.invariant (omega arith) c.get.new.self c.in-Byte.b (char-is c.args.stop c.in-Byte.b ∙ sym c.if-eq.ensures)
    (subst S c.if-end.false (c.in-Byte.ensures.stepped, c.in-Byte.ensures.through))).walk

pub returns-then-eq-clause-stops : goal.returns-then-eq-clause-stops
returns-then-eq-clause-stops g c =
    let S : Bool → Type 0 = λ e. StepsTo g.Self.Bus.means g.Self.Bus.through c.loop-got.self (Went (Got c.in-Byte.b e)) c.get.new.self in
    (gets-char g.Self.Bus.means g.Self.Bus.through c.args.stop c.loop-got.got c.args.room.now c.loop-got.room _ c.loop-got.self
    c.loop-got.invariant (omega arith) c.get.new.self c.in-Byte.b (char-is c.args.stop c.in-Byte.b ∙ sym c.if-eq.ensures)
    (subst S c.if-end.false (c.in-Byte.ensures.stepped, c.in-Byte.ensures.through))).stops

pub loop-got-preserved : goal.loop-got-preserved
loop-got-preserved g c =
    let S : Bool → Type 0 = λ e. StepsTo g.Self.Bus.means g.Self.Bus.through c.loop-got.self (Went (Got c.in-Byte.b e)) c.get.new.self in
    gets-next g.Self.Bus.means g.Self.Bus.through c.args.stop c.loop-got.got c.args.room.now c.loop-got.room _ c.loop-got.self
    c.loop-got.invariant (omega arith) c.get.new.self c.in-Byte.b (length-set c.loop-got.room c.loop-got.got c.in-Byte.b) (char-is c.args.stop c.in-Byte.b ∙ sym c.if-eq.ensures)
    (subst S c.if-end.false (c.in-Byte.ensures.stepped, c.in-Byte.ensures.through))
