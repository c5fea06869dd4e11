use Rattle.std.proofs.Common.{Some, refl, sym, ap, ◌∙◌}
use Rattle.vx_calls.specs.Reply.{reply_shown, same_reply}
use Rattle.vx_model.specs.StepShown.{outside_shown}
use Rattle.vx_rules.specs.State.{State, pending_at}
use Rattle.vx_rules.specs.Checks.{named_link}
use Rattle.vx_rules.specs.Effects.{effect}
use Rattle.vx_rules.specs.Serving.{served_reply}
use Rattle.vx_model.specs.Stepping.{closed}
use Rattle.vx_model.proofs.Answering.{effect-taken, effect-other, effect-loud, effect-unfit}
use Rattle.vx_model.proofs.plain.Plain.effect.Goals as goal

pub returns-then-not-is_quiet : goal.returns-then-not-is_quiet
returns-then-not-is_quiet c = λ p here.
    let s = c.args.self.now in
    let o = outside_shown c.args.o.now in
    let told = reply_shown c.args.reply.now in
    (effect-loud s c.args.conn c.args.now o told p (c.requires.passed p here) (c.requires.dials p here) (c.requires.bus p here) (sym c.is_quiet.ensures ∙ c.if-not-is_quiet.true), refl)

pub returns-then-not-is_bare : goal.returns-then-not-is_bare
returns-then-not-is_bare c = λ p here.
    let s = c.args.self.now in
    let o = outside_shown c.args.o.now in
    let told = reply_shown c.args.reply.now in (
      effect-unfit s c.args.conn c.args.now o told p (c.requires.passed p here) (c.requires.dials p here) (c.requires.bus p here)
          (sym (c.is_bare.ensures.fits p here) ∙ c.if-not-is_bare.true),
      refl,
    )

pub returns-then-not-same_reply : goal.returns-then-not-same_reply
returns-then-not-same_reply c = λ p here.
    let s = c.args.self.now in
    let o = outside_shown c.args.o.now in
    let told = reply_shown c.args.reply.now in
    let replied = c.effect_reply.ensures p (ap (λ (x : State). pending_at x.tables c.args.conn) c.self.view_is ∙ here) ∙ ap (λ (x : State). served_reply x.tables p.call) c.self.view_is in (
      effect-other s c.args.conn c.args.now o told p (c.requires.passed p here) (c.requires.dials p here) (c.requires.bus p here) (sym c.is_quiet.ensures ∙ c.if-not-is_quiet.false)
          (sym (c.is_bare.ensures.fits p here) ∙ c.if-not-is_bare.false) (ap (λ r. same_reply r told) (sym replied) ∙ sym c.same_reply.ensures ∙ c.if-not-same_reply.true),
      refl,
    )

pub returns : goal.returns
returns c = λ p here.
    let s = c.args.self.now in
    let o = outside_shown c.args.o.now in
    let told = reply_shown c.args.reply.now in
    let inside = ap (λ (x : State). pending_at x.tables c.args.conn) c.self.view_is ∙ here in
    let replied = c.effect_reply.ensures p inside ∙ ap (λ (x : State). served_reply x.tables p.call) c.self.view_is in
    let found = ap (λ (x : State). effect x.tables x.wire.own c.args.conn (named_link x.tables c.args.conn p.call) p.call) (sym c.self.view_is) ∙ c.effect.ensures p inside in
    effect-taken s c.args.conn c.args.now o told p (reply_shown c.effect.result) c.effect.new.self (c.requires.passed p here) (c.requires.dials p here) (c.requires.bus p here)
    (sym c.is_quiet.ensures ∙ c.if-not-is_quiet.false) (sym (c.is_bare.ensures.fits p here) ∙ c.if-not-is_bare.false) found
    (ap (λ r. same_reply r told) (sym replied) ∙ sym c.same_reply.ensures ∙ c.if-not-same_reply.false)
    ∙ ap Some (ap (λ (x : State). closed x c.args.conn c.args.now o.moves c.effect.new.self) (sym c.self.view_is) ∙ sym c.close.ensures)
