use Rattle.std.proofs.Common.{sym, ◌∙◌}
use Rattle.vx_core.proofs.Ordering.{in-turn-ends, dialed-ends, effect-ends}
use Rattle.vx_core.proofs.order.pass.Goals as goal

pub returns-in-Some : goal.returns-in-Some
returns-in-Some g c =
    in-turn-ends g.B.Bus.means g.B.Bus.through g.B.Bus.srq_level g.B.Bus.ndac_level c.args.kernel.now c.args.conn c.in-Some.by c.requires.heard c.requires.passed
    (λ p at. sym (c.turn_against.ensures p at) ∙ c.in-Some.is)

pub returns-then-asks_dial : goal.returns-then-asks_dial
returns-then-asks_dial g c =
    dialed-ends g.B.Bus.means g.B.Bus.through g.B.Bus.srq_level g.B.Bus.ndac_level c.args.kernel.now c.dial.new.self c.args.conn c.dial.result
    c.requires.heard c.requires.passed (λ p at. sym (c.asks_dial.ensures p at) ∙ c.if-asks_dial.true)
    c.dial.ensures.kept c.dial.ensures.shown c.dial.ensures.within c.dial.ensures.dials

pub returns-else-asks_dial : goal.returns-else-asks_dial
returns-else-asks_dial g c =
    effect-ends g.B.Bus.means g.B.Bus.through g.B.Bus.srq_level g.B.Bus.ndac_level c.args.kernel.now c.effect.new.self c.args.conn c.effect.result
    c.requires.heard c.requires.passed (λ p at. sym (c.turn_against.ensures p at) ∙ c.in_default.is)
    (λ p at. (sym (c.is_bus_call.ensures p at) ∙ c.if-is_bus_call.false, sym (c.asks_dial.ensures p at) ∙ c.if-asks_dial.false))
    c.effect.ensures.effect c.effect.ensures.within
