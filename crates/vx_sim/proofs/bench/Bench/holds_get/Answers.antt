use Rattle.std.proofs.Common.{not, sym, ap, ◌∙◌}
use Rattle.std.specs.Prelude.{position}
use Rattle.std.specs.List.{list_any}
use Rattle.vx_sim.specs.Bench.{talks, answers_get, can_answer}
use Rattle.vx_sim.specs.Shown.{placed_of}
use Rattle.vx_sim.proofs.Finding.{talker-answers, nobody-answers}
use Rattle.vx_sim.proofs.bench.Bench.holds_get.Goals as goal

pub returns-in-Some : goal.returns-in-Some
returns-in-Some g c =
    let wire = c.args.wire.now in
    let first = ap (position (talks wire)) c.self.view_is ∙ sym c.requires ∙ c.in-Some.is in
    ap not
    (c.can_answer.ensures ∙ ap (λ p. can_answer wire (placed_of p)) c.index.ensures
    ∙ sym (talker-answers placed_of wire c.self.inside.places.items c.in-Some.index c.index.result.now c.self.invariant.2.0 first)
    ∙ ap (list_any (answers_get wire)) c.self.view_is)

pub returns-in-None : goal.returns-in-None
returns-in-None g c = sym (ap not (nobody-answers c.args.wire.now c.args.self.now (sym c.requires ∙ c.in-None.is)))
