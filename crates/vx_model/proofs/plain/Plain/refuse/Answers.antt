use Rattle.std.proofs.Common.{refl, sym, ◌∙◌}
use Rattle.vx_calls.specs.Reply.{reply_shown}
use Rattle.vx_model.specs.StepShown.{outside_shown}
use Rattle.vx_rules.specs.State.{pending_at}
use Rattle.vx_model.specs.Stepping.{answer_at, stopped_at}
use Rattle.vx_model.proofs.Answering.{refused-is, refused-loud, refused-unfit, goes_as}
use Rattle.vx_model.proofs.plain.Plain.refuse.Goals as goal

pub returns-then-not-is_quiet-clause-ok : goal.returns-then-not-is_quiet-clause-ok
returns-then-not-is_quiet-clause-ok c = λ p here.
    let s = c.args.self.now in
    let o = outside_shown c.args.o.now in
    let told = reply_shown c.args.reply.now in
    (refused-loud s c.args.conn c.args.now o told p c.args.error (c.requires.refused p here) (sym c.is_quiet.ensures ∙ c.if-not-is_quiet.true), refl)

pub returns-then-not-may_refuse-clause-ok : goal.returns-then-not-may_refuse-clause-ok
returns-then-not-may_refuse-clause-ok c = λ p here.
    let s = c.args.self.now in
    let o = outside_shown c.args.o.now in
    let told = reply_shown c.args.reply.now in
    (refused-unfit s c.args.conn c.args.now o told p c.args.error (c.requires.refused p here) (sym (c.may_refuse.ensures.fits p here) ∙ c.if-not-may_refuse.true), refl)

pub stop-requires-clause-orderly : goal.stop-requires-clause-orderly
stop-requires-clause-orderly c = c.may_refuse.ensures.orderly c.if-not-may_refuse.false

pub returns-clause-ok : goal.returns-clause-ok
returns-clause-ok c =
    let s = c.args.self.now in
    let o = outside_shown c.args.o.now in
    let told = reply_shown c.args.reply.now in
    goes_as c.stop.result (pending_at s.tables c.args.conn) (stopped_at s c.args.conn c.args.now c.args.error o.moves told) (answer_at s c.args.conn c.args.now o told) s c.stop.new.self
    (λ p here. refused-is s c.args.conn c.args.now o told p c.args.error (c.requires.refused p here) (sym c.is_quiet.ensures ∙ c.if-not-is_quiet.false)
    (sym (c.may_refuse.ensures.fits p here) ∙ c.if-not-may_refuse.false)) c.stop.ensures.ok
