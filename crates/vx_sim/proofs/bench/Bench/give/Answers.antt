use Rattle.std.proofs.Common.{◌≡◌, true, sym, ap, ◌∙◌, subst, arith}
use Rattle.std.specs.Prelude.{map, not, position}
use Rattle.vx_sim.specs.Bench.{talks, holds_get, TalkerGives}
use Rattle.vx_sim.specs.Attaching.{AreApart}
use Rattle.vx_sim.specs.Shown.{placed_of}
use Rattle.vx_sim.proofs.Apart.{held_in_order, held_changed, talker_gave}
use Rattle.vx_sim.proofs.Finding.{position-shown, position-is, nobody-answers}
use Rattle.vx_sim.proofs.bench.Bench.give.Goals as goal

pub give_at-requires-clause-talks : goal.give_at-requires-clause-talks
give_at-requires-clause-talks g c =
    ap (position (λ p. talks c.args.wire.now (placed_of p))) c.deref_mut.ensures.value
    ∙ sym (position-shown placed_of (talks c.args.wire.now) c.self.inside.places.items)
    ∙ ap (position (talks c.args.wire.now)) c.self.view_is ∙ sym c.requires.speaker ∙ c.in-Some.is

pub invariant_of-self : goal.invariant_of-self
invariant_of-self g c =
    let Give = TalkerGives c.args.wire.now.polling (record { value = c.give_at.result.0; end = c.give_at.result.1 }) in
    let apart = subst (λ ps. AreApart (map placed_of ps)) (sym c.deref_mut.ensures.value) c.self.invariant.2.0 in
    let gave = talker_gave c.args.wire.now Give c.in-Some.index _ _ apart c.give_at.ensures in
    (omega arith, omega arith, held_in_order placed_of (talks c.args.wire.now) Give c.self.inside.places c.deref_mut.result.now c.give_at.new.places c.deref_mut.ensures.value (omega arith) gave c.self.invariant.2)

pub returns-in-Some : goal.returns-in-Some
returns-in-Some g c =
    let Give = TalkerGives c.args.wire.now.polling (record { value = c.give_at.result.0; end = c.give_at.result.1 }) in
    let apart = subst (λ ps. AreApart (map placed_of ps)) (sym c.deref_mut.ensures.value) c.self.invariant.2.0 in
    let gave = talker_gave c.args.wire.now Give c.in-Some.index _ _ apart c.give_at.ensures in
    held_changed placed_of (talks c.args.wire.now) Give c.self.inside.places c.args.self.now c.deref_mut.result.now c.give_at.new.places c.deref_mut.ensures.value (omega arith) c.self.view_is gave

pub returns-in-None : goal.returns-in-None
returns-in-None g c =
    let nobody = nobody-answers c.args.wire.now c.args.self.now (sym c.requires.speaker ∙ c.in-None.is) in
    let held : holds_get c.args.wire.now c.args.self.now ≡ true = ap not nobody in
    absurd (cc)

pub give_at-requires-clause-apart : goal.give_at-requires-clause-apart
give_at-requires-clause-apart g c = subst (λ ps. AreApart (map placed_of ps)) (sym c.deref_mut.ensures.value) c.self.invariant.2.0

pub give_at-requires-clause-gives : goal.give_at-requires-clause-gives
give_at-requires-clause-gives g c = ap (holds_get c.args.wire.now) (ap (map placed_of) c.deref_mut.ensures.value ∙ c.self.view_is) ∙ c.requires.gives

pub give_at-requires-clause-within : goal.give_at-requires-clause-within
give_at-requires-clause-within g c =
    let talks_first =
    ap (position (λ p. talks c.args.wire.now (placed_of p))) c.deref_mut.ensures.value
    ∙ sym (position-shown placed_of (talks c.args.wire.now) c.self.inside.places.items)
    ∙ ap (position (talks c.args.wire.now)) c.self.view_is ∙ sym c.requires.speaker ∙ c.in-Some.is in
    (position-is (λ p. talks c.args.wire.now (placed_of p)) c.deref_mut.result.now c.in-Some.index talks_first).1
