use Rattle.std.proofs.Common.{◌≡◌, true, Some, sym, ap, subst, ◌∙◌}
use Rattle.std.specs.Prelude.{is_some}
use Rattle.vx_calls.specs.Reply.{reply_shown, same_reply}
use Rattle.vx_model.specs.StepShown.{outside_shown}
use Rattle.vx_rules.specs.State.{State, Pending, pending_at}
use Rattle.vx_rules.specs.Lines.{first_lines}
use Rattle.vx_rules.specs.Effects.{settle}
use Rattle.vx_rules.specs.Serving.{can_settle}
use Rattle.vx_model.specs.Stepping.{closed}
use Rattle.vx_model.proofs.Answering.{dial-taken}
use Rattle.vx_model.proofs.plain.Plain.dial.Goals as goal

pub settle-requires-clause-passes : goal.settle-requires-clause-passes
settle-requires-clause-passes c =
    let s = c.args.self.now in
    let passes : (p : Pending) → pending_at s.tables c.args.conn ≡ Some p → can_settle s.tables c.args.conn p.call ≡ true = λ p here.
    c.passed_calls.ensures.settles s.tables s.wire.own c.args.conn c.args.now p
    (ap (λ d. first_lines s.tables s.wire.own c.args.conn (is_some d) p c.args.now) (sym c.in-Some.is) ∙ c.requires.passed p here) (c.requires.dials p here) in
    subst (λ (x : State). (p : Pending) → pending_at x.tables c.args.conn ≡ Some p → can_settle x.tables c.args.conn p.call ≡ true) (sym c.self.view_is) passes

pub returns : goal.returns
returns c = λ p here.
    let s = c.args.self.now in
    let o = outside_shown c.args.o.now in
    let told = reply_shown c.args.reply.now in
    let inside = ap (λ (x : State). pending_at x.tables c.args.conn) c.self.view_is ∙ here in
    let found = ap (λ (x : State). settle x.tables c.args.conn p.call c.in-Some.up) (sym c.self.view_is) ∙ c.settle.ensures p inside in
    dial-taken s c.args.conn c.args.now o told p c.in-Some.up (reply_shown c.settle.result) c.settle.new.self (c.requires.passed p here) (c.requires.dials p here)
    (sym (c.is_bare.ensures.fits p here) ∙ c.if-not-is_bare.false) c.in-Some.is c.if-o.false c.if-o-2.false found
    (ap (λ r. same_reply r told) (sym c.dial_reply.ensures) ∙ sym c.same_reply.ensures ∙ c.if-not-same_reply.false)
    ∙ ap Some (ap (λ (x : State). closed x c.args.conn c.args.now o.moves c.settle.new.self) (sym c.self.view_is) ∙ sym c.close.ensures)
