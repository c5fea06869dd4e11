use Rattle.std.proofs.Common.{Bool, subst, sym, ◌∙◌, arith}
use Rattle.std.proofs.lemmas.List.{length-set}
use Rattle.vx_488.specs.declared.transfers.Transfer.TheVariants.{Got}
use Rattle.vx_488.specs.declared.asks.GetOut.TheVariants as get
use Rattle.vx_488.specs.Steps.{Went, get_step}
use Rattle.vx_488.specs.Walks.{StepsTo}
use Rattle.vx_488.proofs.Laws.Gets.{gets-held, gets-failed, gets-end, gets-char, gets-next, gets-full, char-is}
use Rattle.vx_sim.specs.SimState.{SimState, Through}
use Rattle.vx_sim.proofs.Stepping.{steps-to}
use Rattle.vx_sim.proofs.sim.SimBus.get_each.Goals as goal

pub returns-in-Held-clause-walk : goal.returns-in-Held-clause-walk
returns-in-Held-clause-walk g c =
    (gets-held (λ s. s.means) Through c.args.stop c.loop-got.got c.args.room.now c.loop-got.room _ c.loop-got.self
    c.loop-got.invariant.0 (omega arith) c.get_from.new.self (steps-to c.loop-got.self c.get_from.new.self (get_step get.Held) c.in-Held.ensures.through)).walk

pub returns-in-Failed-clause-walk : goal.returns-in-Failed-clause-walk
returns-in-Failed-clause-walk g c =
    (gets-failed (λ s. s.means) Through c.args.stop c.loop-got.got c.args.room.now c.loop-got.room _ c.loop-got.self
    c.loop-got.invariant.0 (omega arith) c.get_from.new.self (steps-to c.loop-got.self c.get_from.new.self (get_step get.Failed) c.in-Failed.ensures.through)).walk

pub returns-then-end-clause-walk : goal.returns-then-end-clause-walk
returns-then-end-clause-walk g c =
    let S : Bool → Type 0 = λ e. StepsTo (λ (s : SimState). s.means) Through c.loop-got.self (Went (Got c.in-Byte.b e)) c.get_from.new.self in
    (gets-end (λ s. s.means) Through c.args.stop c.loop-got.got c.args.room.now c.loop-got.room _ c.loop-got.self
    c.loop-got.invariant.0 (omega arith) c.get_from.new.self c.in-Byte.b (subst S c.if-end.true (steps-to c.loop-got.self c.get_from.new.self (get_step (get.Byte c.in-Byte.b c.in-Byte.end)) c.in-Byte.ensures.through))).walk

pub returns-then-eq-clause-walk : goal.returns-then-eq-clause-walk
returns-then-eq-clause-walk g c =
    let S : Bool → Type 0 = λ e. StepsTo (λ (s : SimState). s.means) Through c.loop-got.self (Went (Got c.in-Byte.b e)) c.get_from.new.self in
    (gets-char (λ s. s.means) Through c.args.stop c.loop-got.got c.args.room.now c.loop-got.room _ c.loop-got.self
    c.loop-got.invariant.0 (omega arith) c.get_from.new.self c.in-Byte.b (char-is c.args.stop c.in-Byte.b ∙ sym c.if-eq.ensures)
    (subst S c.if-end.false (steps-to c.loop-got.self c.get_from.new.self (get_step (get.Byte c.in-Byte.b c.in-Byte.end)) c.in-Byte.ensures.through))).walk

pub loop-got-preserved : goal.loop-got-preserved
loop-got-preserved g c =
    let S : Bool → Type 0 = λ e. StepsTo (λ (s : SimState). s.means) Through c.loop-got.self (Went (Got c.in-Byte.b e)) c.get_from.new.self in (
      gets-next (λ s. s.means) Through c.args.stop c.loop-got.got c.args.room.now c.loop-got.room _ c.loop-got.self
          c.loop-got.invariant.0 (omega arith) c.get_from.new.self c.in-Byte.b (length-set c.loop-got.room c.loop-got.got c.in-Byte.b) (char-is c.args.stop c.in-Byte.b ∙ sym c.if-eq.ensures)
          (subst S c.if-end.false (steps-to c.loop-got.self c.get_from.new.self (get_step (get.Byte c.in-Byte.b c.in-Byte.end)) c.in-Byte.ensures.through)),
      c.in-Byte.ensures.speaker,
    )

pub returns-clause-walk : goal.returns-clause-walk
returns-clause-walk g c =
    (gets-full (λ s. s.means) Through c.args.stop c.loop-got.got c.args.room.now c.loop-got.room _ _ c.loop-got.invariant.0 (omega (arith, c.loop-got.invariant.0.within, c.loop-got.invariant.0.long))).walk

pub returns-clause-stops : goal.returns-clause-stops
returns-clause-stops g c =
    (gets-full (λ s. s.means) Through c.args.stop c.loop-got.got c.args.room.now c.loop-got.room _ _ c.loop-got.invariant.0 (omega (arith, c.loop-got.invariant.0.within, c.loop-got.invariant.0.long))).stops

pub returns-clause-within : goal.returns-clause-within
returns-clause-within g c =
    (gets-full (λ s. s.means) Through c.args.stop c.loop-got.got c.args.room.now c.loop-got.room _ _ c.loop-got.invariant.0 (omega (arith, c.loop-got.invariant.0.within, c.loop-got.invariant.0.long))).within

pub returns-clause-rest : goal.returns-clause-rest
returns-clause-rest g c =
    (gets-full (λ s. s.means) Through c.args.stop c.loop-got.got c.args.room.now c.loop-got.room _ _ c.loop-got.invariant.0 (omega (arith, c.loop-got.invariant.0.within, c.loop-got.invariant.0.long))).rest
