use Rattle.std.proofs.Common.{◌≡◌, true, false, refl, sym, ap, subst, ◌∙◌}
use Rattle.std.specs.Prelude.{IfSome}
use Rattle.vx_calls.specs.declared.codes.ErrorCode.TheVariants as code
use Rattle.vx_calls.specs.Reply.{reply_shown}
use Rattle.vx_model.specs.StepShown.{outside_shown}
use Rattle.vx_plan.specs.Roles.{has_role}
use Rattle.vx_rules.specs.State.{State, pending_at}
use Rattle.vx_rules.specs.Calls.{bytes_of}
use Rattle.vx_rules.specs.Serving.{IsDoable}
use Rattle.vx_model.specs.Stepping.{answer_at, stopped_at, turn_at}
use Rattle.vx_model.proofs.Answering.{jobless-is, turn-is, roleless-is, roleless-loud, roleless-unfit, goes_as}
use Rattle.vx_model.proofs.plain.Plain.bus.Goals as goal

pub returns-in_default-clause-ok : goal.returns-in_default-clause-ok
returns-in_default-clause-ok c = λ p here.
    let s = c.args.self.now in
    let o = outside_shown c.args.o.now in
    let told = reply_shown c.args.reply.now in
    (jobless-is s c.args.conn c.args.now o told p (c.requires.passed p here) (c.requires.dials p here) (c.requires.bus p here) (sym c.in_default.is ∙ c.job.ensures.job p here), refl)

pub turn-requires-clause-doable : goal.turn-requires-clause-doable
turn-requires-clause-doable c = λ p here. subst (λ o. IfSome o (λ job. IsDoable job (bytes_of p.call))) c.in-Some.is (c.job.ensures.doable p here)

pub returns-then-needs-clause-ok : goal.returns-then-needs-clause-ok
returns-then-needs-clause-ok c =
    let s = c.args.self.now in
    let o = outside_shown c.args.o.now in
    let told = reply_shown c.args.reply.now in
    let job = c.in-Some.job in
    let has : has_role job s.wire ≡ true = ap (λ (x : State). has_role job x.wire) (sym c.self.view_is) ∙ sym c.needs.ensures ∙ c.if-needs.true in
    goes_as c.turn.result (pending_at s.tables c.args.conn) (λ p. turn_at s c.args.conn c.args.now o told p job) (answer_at s c.args.conn c.args.now o told) s c.turn.new.self
    (λ p here. turn-is s c.args.conn c.args.now o told p job (c.requires.passed p here) (c.requires.dials p here) (c.requires.bus p here)
    (sym c.in-Some.is ∙ c.job.ensures.job p here) has) c.turn.ensures.ok

pub returns-then-not-is_quiet-clause-ok : goal.returns-then-not-is_quiet-clause-ok
returns-then-not-is_quiet-clause-ok c = λ p here.
    let s = c.args.self.now in
    let o = outside_shown c.args.o.now in
    let told = reply_shown c.args.reply.now in
    let job = c.in-Some.job in
    let has : has_role job s.wire ≡ false = ap (λ (x : State). has_role job x.wire) (sym c.self.view_is) ∙ sym c.needs.ensures ∙ c.if-needs.false in (
      roleless-loud s c.args.conn c.args.now o told p job (c.requires.passed p here) (c.requires.dials p here) (c.requires.bus p here) (sym c.in-Some.is ∙ c.job.ensures.job p here) has
          (sym c.is_quiet.ensures ∙ c.if-not-is_quiet.true),
      refl,
    )

pub returns-then-not-is_bare-clause-ok : goal.returns-then-not-is_bare-clause-ok
returns-then-not-is_bare-clause-ok c = λ p here.
    let s = c.args.self.now in
    let o = outside_shown c.args.o.now in
    let told = reply_shown c.args.reply.now in
    let job = c.in-Some.job in
    let has : has_role job s.wire ≡ false = ap (λ (x : State). has_role job x.wire) (sym c.self.view_is) ∙ sym c.needs.ensures ∙ c.if-needs.false in (
      roleless-unfit s c.args.conn c.args.now o told p job (c.requires.passed p here) (c.requires.dials p here) (c.requires.bus p here) (sym c.in-Some.is ∙ c.job.ensures.job p here) has
          (sym (c.is_bare.ensures.fits p here) ∙ c.if-not-is_bare.true),
      refl,
    )

pub stop-requires-clause-orderly : goal.stop-requires-clause-orderly
stop-requires-clause-orderly c = c.is_bare.ensures.orderly c.if-not-is_bare.false

pub returns-clause-ok : goal.returns-clause-ok
returns-clause-ok c =
    let s = c.args.self.now in
    let o = outside_shown c.args.o.now in
    let told = reply_shown c.args.reply.now in
    let job = c.in-Some.job in
    let has : has_role job s.wire ≡ false = ap (λ (x : State). has_role job x.wire) (sym c.self.view_is) ∙ sym c.needs.ensures ∙ c.if-needs.false in
    goes_as c.stop.result (pending_at s.tables c.args.conn) (stopped_at s c.args.conn c.args.now code.BusFault o.moves told) (answer_at s c.args.conn c.args.now o told) s c.stop.new.self
    (λ p here. roleless-is s c.args.conn c.args.now o told p job (c.requires.passed p here) (c.requires.dials p here) (c.requires.bus p here)
    (sym c.in-Some.is ∙ c.job.ensures.job p here) has (sym c.is_quiet.ensures ∙ c.if-not-is_quiet.false) (sym (c.is_bare.ensures.fits p here) ∙ c.if-not-is_bare.false)) c.stop.ensures.ok
