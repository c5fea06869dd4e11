use Rattle.std.proofs.Common.{sym, ap, subst, ◌∙◌}
use Rattle.vx_rules.specs.State.{State, pending_at}
use Rattle.vx_rules.specs.Serving.{IsDoable}
use Rattle.vx_model.specs.Stepping.{IsOrderly}
use Rattle.vx_model.specs.StepShown.{stand_shown}
use Rattle.vx_model.proofs.Orderly.{orderly, part_on}
use Rattle.vx_model.proofs.Answering.{some_pending}
use Rattle.vx_model.proofs.plain.Plain.is_part_of.Goals as goal

pub stand_on-requires-clause-doable : goal.stand_on-requires-clause-doable
stand_on-requires-clause-doable c =
    let p = some_pending (pending_at c.args.self.now.tables c.args.conn) c.requires.pending in
    subst (IsDoable c.args.job.now) (sym (c.bytes.ensures p.0 (ap (λ (s : State). pending_at s.tables c.args.conn) c.self.view_is ∙ p.1))) (c.requires.doable p.0 p.1)

pub returns-in-Part-clause-orderly : goal.returns-in-Part-clause-orderly
returns-in-Part-clause-orderly c = λ yes.
    let p = some_pending (pending_at c.args.self.now.tables c.args.conn) c.requires.pending in
    let d = subst (IsDoable c.args.job.now) (sym (c.bytes.ensures p.0 (ap (λ (s : State). pending_at s.tables c.args.conn) c.self.view_is ∙ p.1))) (c.requires.doable p.0 p.1) in
    subst (λ (s : State). IsOrderly s.wire c.args.moves.now) c.self.view_is
    (orderly c.args.job.now c.bytes.result.now c.self.inside.wire c.args.moves.now c.self.invariant d (part_on _ (ap stand_shown (sym c.in-Part.is) ∙ c.stand_on.ensures)))
