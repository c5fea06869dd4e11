use Rattle.std.proofs.Common.{◌≡◌, true, false, Some, length, ap, sym, subst, ◌∙◌, arith}
use Rattle.std.specs.Prelude.{IsSome}
use Rattle.vx_calls.specs.Reply.{reply_shown}
use Rattle.vx_rules.specs.State.{pending_at}
use Rattle.vx_rules.specs.Lines.{lets_pass}
use Rattle.vx_rules.specs.Checks.{named_link}
use Rattle.vx_rules.specs.Effects as effects
use Rattle.vx_flow.specs.Poll as poll
use Rattle.vx_flow.specs.declared.progress.Ran.TheVariants as ran
use Rattle.vx_core.specs.KernelState.{KernelState}
use Rattle.vx_core.specs.Shown.{own_of, closed}
use Rattle.vx_core.specs.Given.{given_len, reply_bytes}
use Rattle.vx_core.proofs.Dialing.{passed-lets, no_bytes, no_front}
use Rattle.vx_core.proofs.kernel.Kernel.effect.Goals as goal

pub effect-requires-clause-passes : goal.effect-requires-clause-passes
effect-requires-clause-passes g c p at =
    let view = c.self.view_is in
    let now = ap (λ (k : KernelState g.row.B.Denot). pending_at k.tables c.args.conn) (sym view) ∙ at in
    let lets = passed-lets g.B.Bus.means c.args.self.now c.args.conn c.passed_calls.ensures.passed c.requires.passed p now in
    let here = subst (λ (k : KernelState g.row.B.Denot). lets_pass k.tables (own_of g.B.Bus.means c.args.self.now c.args.conn) c.args.conn p ≡ true) (sym view) lets in
    subst (λ own. lets_pass c.self.inside.tables own c.args.conn p ≡ true) (sym c.own_for-own.ensures) here

pub returns-clause-effect : goal.returns-clause-effect
returns-clause-effect g c p at =
    let view = c.self.view_is in
    let now = ap (λ (k : KernelState g.row.B.Denot). pending_at k.tables c.args.conn) view ∙ at in
    let pending = subst (λ (k : KernelState g.row.B.Denot). IsSome (pending_at k.tables c.args.conn)) (sym view) c.requires.pending in
    let none = no_bytes c.self.inside.tables c.own_for-own.result c.args.conn (reply_shown c.effect.result) c.effect.new.self pending c.effect.ensures in
    let here =
    subst (λ own. effects.effect c.self.inside.tables own c.args.conn (named_link c.self.inside.tables c.args.conn p.call) p.call ≡ Some (reply_shown c.effect.result, c.effect.new.self))
    c.own_for-own.ensures (c.effect.ensures p now) in
    let done =
    subst (λ (k : KernelState g.row.B.Denot). effects.effect k.tables (own_of g.B.Bus.means c.args.self.now c.args.conn) c.args.conn (named_link k.tables c.args.conn p.call) p.call
    ≡ Some (reply_shown c.effect.result, c.effect.new.self)) view here in
    let told = ap (poll.Answered ran.Still false) (c.of-given.ensures.reply c.close.new.self.room (no_front (reply_bytes (reply_shown c.effect.result)) c.close.new.self.room none)) in
    let after = c.close.ensures ∙ ap (λ (k : KernelState g.row.B.Denot). let u : KernelState g.row.B.Denot = record k { tables = c.effect.new.self } in closed u c.args.conn) view in
    (reply_shown c.effect.result, c.effect.new.self, done, told, after)

pub returns-clause-within : goal.returns-clause-within
returns-clause-within g c =
    let pending = subst (λ (k : KernelState g.row.B.Denot). IsSome (pending_at k.tables c.args.conn)) (sym c.self.view_is) c.requires.pending in
    let none = no_bytes c.self.inside.tables c.own_for-own.result c.args.conn (reply_shown c.effect.result) c.effect.new.self pending c.effect.ensures in
    let len : given_len c.of-given.result ≡ 0 = c.of-given.ensures.len ∙ ap length none in
    omega arith
