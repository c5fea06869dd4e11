use Rattle.std.proofs.Common.{not, ◌&&◌, refl, sym, ap, subst, ◌∙◌}
use Rattle.std.specs.Prelude.{nat_le}
use Rattle.vx_calls.specs.Reply.{reply_shown}
use Rattle.vx_model.specs.StepShown.{outside_shown, stand_shown}
use Rattle.vx_plan.specs.Plan as plans
use Rattle.vx_plan.specs.Plan.{stand}
use Rattle.vx_plan.specs.Tasks.{plan}
use Rattle.vx_rules.specs.State.{State, pending_at}
use Rattle.vx_rules.specs.Calls.{bytes_of}
use Rattle.vx_rules.specs.Serving.{IsDoable}
use Rattle.vx_model.specs.Stepping.{IsOrderly, turn_at, stood_at}
use Rattle.vx_model.proofs.Orderly.{orderly, whole_on, part_on}
use Rattle.vx_model.proofs.Answering.{some_pending, turn-dialed, turn-unbegun, turn-stood, goes_as, goes_any}
use Rattle.vx_model.proofs.plain.Plain.turn.Goals as goal

pub returns-then-is_some-clause-ok : goal.returns-then-is_some-clause-ok
returns-then-is_some-clause-ok c = λ p here.
    let s = c.args.self.now in
    let o = outside_shown c.args.o.now in
    let told = reply_shown c.args.reply.now in
    let job = c.args.job.now in
    (turn-dialed s c.args.conn c.args.now o told p job (ap not (sym c.is_some.ensures ∙ c.if-is_some.true)), refl)

pub returns-then-not-begun_between-clause-ok : goal.returns-then-not-begun_between-clause-ok
returns-then-not-begun_between-clause-ok c = λ p here.
    let s = c.args.self.now in
    let o = outside_shown c.args.o.now in
    let told = reply_shown c.args.reply.now in
    let job = c.args.job.now in (
      turn-unbegun s c.args.conn c.args.now o told p job
          (ap (λ a. nat_le a o.begun && nat_le o.begun c.args.now) (sym (c.arrival.ensures p (ap (λ (x : State). pending_at x.tables c.args.conn) c.self.view_is ∙ here)))
          ∙ sym c.begun_between.ensures ∙ c.if-not-begun_between.true),
      refl,
    )

pub stand_on-requires-clause-doable : goal.stand_on-requires-clause-doable
stand_on-requires-clause-doable c =
    let p = some_pending (pending_at c.args.self.now.tables c.args.conn) c.requires.pending in
    let d = subst (IsDoable c.args.job.now) (sym (c.bytes.ensures p.0 (ap (λ (s : State). pending_at s.tables c.args.conn) c.self.view_is ∙ p.1))) (c.requires.doable p.0 p.1) in
    d

pub whole-requires-clause-orderly : goal.whole-requires-clause-orderly
whole-requires-clause-orderly c =
    let p = some_pending (pending_at c.args.self.now.tables c.args.conn) c.requires.pending in
    let d = subst (IsDoable c.args.job.now) (sym (c.bytes.ensures p.0 (ap (λ (s : State). pending_at s.tables c.args.conn) c.self.view_is ∙ p.1))) (c.requires.doable p.0 p.1) in
    subst (λ (s : State). IsOrderly s.wire c.args.o.now.moves.now) c.self.view_is
    (orderly c.args.job.now c.bytes.result.now c.self.inside.wire c.args.o.now.moves.now c.self.invariant d (whole_on _ (ap stand_shown (sym c.in-Whole.is) ∙ c.stand_on.ensures)))

pub part-requires-clause-orderly : goal.part-requires-clause-orderly
part-requires-clause-orderly c =
    let p = some_pending (pending_at c.args.self.now.tables c.args.conn) c.requires.pending in
    let d = subst (IsDoable c.args.job.now) (sym (c.bytes.ensures p.0 (ap (λ (s : State). pending_at s.tables c.args.conn) c.self.view_is ∙ p.1))) (c.requires.doable p.0 p.1) in
    subst (λ (s : State). IsOrderly s.wire c.args.o.now.moves.now) c.self.view_is
    (orderly c.args.job.now c.bytes.result.now c.self.inside.wire c.args.o.now.moves.now c.self.invariant d (part_on _ (ap stand_shown (sym c.in-Part.is) ∙ c.stand_on.ensures)))

pub returns-in-Whole-clause-ok : goal.returns-in-Whole-clause-ok
returns-in-Whole-clause-ok c =
    let s = c.args.self.now in
    let o = outside_shown c.args.o.now in
    let told = reply_shown c.args.reply.now in
    let job = c.args.job.now in
    goes_as c.whole.result (pending_at s.tables c.args.conn) (λ p. stood_at s c.args.conn c.args.now o told p job plans.Whole) (λ p. turn_at s c.args.conn c.args.now o told p job) s c.whole.new.self
    (λ p here.
    turn-stood s c.args.conn c.args.now o told p job plans.Whole (ap not (sym c.is_some.ensures ∙ c.if-is_some.false))
    (ap (λ a. nat_le a o.begun && nat_le o.begun c.args.now) (sym (c.arrival.ensures p (ap (λ (x : State). pending_at x.tables c.args.conn) c.self.view_is ∙ here)))
    ∙ sym c.begun_between.ensures ∙ c.if-not-begun_between.false)
    (ap stand_shown (sym c.in-Whole.is) ∙ c.stand_on.ensures ∙ ap (λ bs. stand (plan job bs c.self.inside.wire.polling c.self.inside.wire.own) o.moves)
    (c.bytes.ensures p (ap (λ (x : State). pending_at x.tables c.args.conn) c.self.view_is ∙ here))
    ∙ ap (λ (x : State). stand (plan job (bytes_of p.call) x.wire.polling x.wire.own) o.moves) c.self.view_is)) c.whole.ensures.ok

pub returns-in-Part-clause-ok : goal.returns-in-Part-clause-ok
returns-in-Part-clause-ok c =
    let s = c.args.self.now in
    let o = outside_shown c.args.o.now in
    let told = reply_shown c.args.reply.now in
    let job = c.args.job.now in
    goes_as c.part.result (pending_at s.tables c.args.conn) (λ p. stood_at s c.args.conn c.args.now o told p job plans.Part) (λ p. turn_at s c.args.conn c.args.now o told p job) s c.part.new.self
    (λ p here.
    turn-stood s c.args.conn c.args.now o told p job plans.Part (ap not (sym c.is_some.ensures ∙ c.if-is_some.false))
    (ap (λ a. nat_le a o.begun && nat_le o.begun c.args.now) (sym (c.arrival.ensures p (ap (λ (x : State). pending_at x.tables c.args.conn) c.self.view_is ∙ here)))
    ∙ sym c.begun_between.ensures ∙ c.if-not-begun_between.false)
    (ap stand_shown (sym c.in-Part.is) ∙ c.stand_on.ensures ∙ ap (λ bs. stand (plan job bs c.self.inside.wire.polling c.self.inside.wire.own) o.moves)
    (c.bytes.ensures p (ap (λ (x : State). pending_at x.tables c.args.conn) c.self.view_is ∙ here))
    ∙ ap (λ (x : State). stand (plan job (bytes_of p.call) x.wire.polling x.wire.own) o.moves) c.self.view_is)) (goes_any c.part.result (pending_at s.tables c.args.conn) (λ p k. stood_at s c.args.conn c.args.now o told p k plans.Part) s c.part.new.self job c.part.ensures.ok)

pub returns-in-Off-clause-ok : goal.returns-in-Off-clause-ok
returns-in-Off-clause-ok c = λ p here.
    let s = c.args.self.now in
    let o = outside_shown c.args.o.now in
    let told = reply_shown c.args.reply.now in
    let job = c.args.job.now in (
      turn-stood s c.args.conn c.args.now o told p job plans.Off (ap not (sym c.is_some.ensures ∙ c.if-is_some.false))
          (ap (λ a. nat_le a o.begun && nat_le o.begun c.args.now) (sym (c.arrival.ensures p (ap (λ (x : State). pending_at x.tables c.args.conn) c.self.view_is ∙ here)))
          ∙ sym c.begun_between.ensures ∙ c.if-not-begun_between.false)
          (ap stand_shown (sym c.in-Off.is) ∙ c.stand_on.ensures ∙ ap (λ bs. stand (plan job bs c.self.inside.wire.polling c.self.inside.wire.own) o.moves)
          (c.bytes.ensures p (ap (λ (x : State). pending_at x.tables c.args.conn) c.self.view_is ∙ here))
          ∙ ap (λ (x : State). stand (plan job (bytes_of p.call) x.wire.polling x.wire.own) o.moves) c.self.view_is),
      refl,
    )
