use Rattle.std.proofs.Common.{◌≡◌, true, false, refl, sym, ap, subst, ◌∙◌}
use Rattle.std.specs.Prelude.{nat_le, is_some}
use Rattle.vx_lemmas.proofs.Laws.Options.{nothing}
use Rattle.vx_calls.specs.Reply.{reply_shown}
use Rattle.vx_model.specs.StepShown.{outside_shown}
use Rattle.vx_rules.specs.State.{State, pending_at}
use Rattle.vx_rules.specs.Lines.{first_lines}
use Rattle.vx_state.specs.Shown.{bar_shown, lines_shown}
use Rattle.vx_model.specs.Stepping.{answer_at}
use Rattle.vx_model.proofs.Answering.{leb-from, leb-not, some_pending, answer_is, answer_early, answer_idle, waiting-is, goes_at}
use Rattle.vx_model.proofs.plain.Plain.answer.Goals as goal

pub returns-then-now-self-clause-ok : goal.returns-then-now-self-clause-ok
returns-then-now-self-clause-ok c =
    let s = c.args.self.now in
    let o = outside_shown c.args.o.now in
    let told = reply_shown c.args.reply.now in
    (answer_early s c.args.conn c.args.now o told (subst (λ (x : State). nat_le x.moment c.args.now ≡ false) c.self.view_is (leb-not c.self.inside.moment c.args.now c.if-now-self.true)), refl)

pub returns-then-not-pending-clause-ok : goal.returns-then-not-pending-clause-ok
returns-then-not-pending-clause-ok c =
    let s = c.args.self.now in
    let o = outside_shown c.args.o.now in
    let told = reply_shown c.args.reply.now in (
      answer_idle s c.args.conn c.args.now o told (subst (λ (x : State). nat_le x.moment c.args.now ≡ true) c.self.view_is (leb-from c.self.inside.moment c.args.now c.if-now-self.false))
          (nothing (pending_at s.tables c.args.conn)
          (ap (λ (x : State). is_some (pending_at x.tables c.args.conn)) (sym c.self.view_is) ∙ sym c.pending.ensures ∙ c.if-not-pending.true)),
      refl,
    )

pub refuse-requires-clause-refused : goal.refuse-requires-clause-refused
refuse-requires-clause-refused c = λ p here.
    ap (λ (x : State). first_lines x.tables x.wire.own c.args.conn (is_some c.args.o.now.dialed) p c.args.now) (sym c.self.view_is)
    ∙ ap (λ b. first_lines c.self.inside.tables c.self.inside.wire.own c.args.conn b p c.args.now) (sym c.is_some-settling.ensures)
    ∙ sym (c.lines.ensures p (ap (λ (x : State). pending_at x.tables c.args.conn) c.self.view_is ∙ here)) ∙ ap lines_shown c.in-Refused.is

pub passed-requires-clause-passed : goal.passed-requires-clause-passed
passed-requires-clause-passed c = λ p here.
    ap (λ (x : State). first_lines x.tables x.wire.own c.args.conn (is_some c.args.o.now.dialed) p c.args.now) (sym c.self.view_is)
    ∙ ap (λ b. first_lines c.self.inside.tables c.self.inside.wire.own c.args.conn b p c.args.now) (sym c.is_some-settling.ensures)
    ∙ sym (c.lines.ensures p (ap (λ (x : State). pending_at x.tables c.args.conn) c.self.view_is ∙ here)) ∙ ap lines_shown c.in-Passed.is

pub returns-in-Refused-clause-ok : goal.returns-in-Refused-clause-ok
returns-in-Refused-clause-ok c =
    let s = c.args.self.now in
    let o = outside_shown c.args.o.now in
    let told = reply_shown c.args.reply.now in
    let p = some_pending (pending_at s.tables c.args.conn) (ap (λ (x : State). is_some (pending_at x.tables c.args.conn)) (sym c.self.view_is) ∙ sym c.pending.ensures ∙ c.if-not-pending.false) in
    goes_at c.refuse.result (pending_at s.tables c.args.conn) (answer_at s c.args.conn c.args.now o told) _ s c.refuse.new.self p.0 p.1
    (answer_is s c.args.conn c.args.now o told p.0 p.1 (subst (λ (x : State). nat_le x.moment c.args.now ≡ true) c.self.view_is (leb-from c.self.inside.moment c.args.now c.if-now-self.false))) c.refuse.ensures.ok

pub returns-in-Waiting-clause-ok : goal.returns-in-Waiting-clause-ok
returns-in-Waiting-clause-ok c =
    let s = c.args.self.now in
    let o = outside_shown c.args.o.now in
    let told = reply_shown c.args.reply.now in
    let q = some_pending (pending_at s.tables c.args.conn) (ap (λ (x : State). is_some (pending_at x.tables c.args.conn)) (sym c.self.view_is) ∙ sym c.pending.ensures ∙ c.if-not-pending.false) in
    let p = q.0 in
    let here = q.1 in (
      answer_is s c.args.conn c.args.now o told p here (subst (λ (x : State). nat_le x.moment c.args.now ≡ true) c.self.view_is (leb-from c.self.inside.moment c.args.now c.if-now-self.false))
          ∙ waiting-is s c.args.conn c.args.now o told p (bar_shown c.in-Waiting.field-0) (ap (λ (x : State). first_lines x.tables x.wire.own c.args.conn (is_some c.args.o.now.dialed) p c.args.now) (sym c.self.view_is)
          ∙ ap (λ b. first_lines c.self.inside.tables c.self.inside.wire.own c.args.conn b p c.args.now) (sym c.is_some-settling.ensures)
          ∙ sym (c.lines.ensures p (ap (λ (x : State). pending_at x.tables c.args.conn) c.self.view_is ∙ here)) ∙ ap lines_shown c.in-Waiting.is),
      refl,
    )

pub returns-in-Passed-clause-ok : goal.returns-in-Passed-clause-ok
returns-in-Passed-clause-ok c =
    let s = c.args.self.now in
    let o = outside_shown c.args.o.now in
    let told = reply_shown c.args.reply.now in
    let p = some_pending (pending_at s.tables c.args.conn) (ap (λ (x : State). is_some (pending_at x.tables c.args.conn)) (sym c.self.view_is) ∙ sym c.pending.ensures ∙ c.if-not-pending.false) in
    goes_at c.passed.result (pending_at s.tables c.args.conn) (answer_at s c.args.conn c.args.now o told) _ s c.passed.new.self p.0 p.1
    (answer_is s c.args.conn c.args.now o told p.0 p.1 (subst (λ (x : State). nat_le x.moment c.args.now ≡ true) c.self.view_is (leb-from c.self.inside.moment c.args.now c.if-now-self.false))) c.passed.ensures.ok
