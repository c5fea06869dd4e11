use Rattle.std.proofs.Common.{◌≡◌, true, false, List, inl, inr, refl, sym, ap, ◌∙◌, arith}
use Rattle.vx_488.specs.declared.transfers.Transfer.TheVariants.{Got}
use Rattle.vx_488.specs.Bursts.{gets_steps}
use Rattle.vx_488.specs.declared.bursts.Stop.{Stop}
use Rattle.vx_488.specs.declared.bursts.Stop.TheVariants as stop
use Rattle.vx_488.specs.Steps.{Step}
use Rattle.vx_488.proofs.Laws.Puts.{length-ended}
use Rattle.vx_sim.specs.SimState.{SimState, means_past}
use Rattle.vx_sim.proofs.Giving.{all-came, gots-noted, gots-held}
use Rattle.vx_sim.proofs.sim.SimBus.carried_gets.Goals as goal

pub held-requires : goal.held-requires
held-requires g c =
    omega (arith, ap (λ (s : SimState). s.means.asks) (all-came false c.args.bytes.now c.args.self.now c.carried_all-in-Held.new.self c.carried_all-in-Held.ensures), length-ended Got false c.args.bytes.now, c.requires.held c.in-Held.is)

pub returns-in-End : goal.returns-in-End
returns-in-End g c =
    let old = c.args.self.now in
    gots-noted c.args.bytes.now stop.End old c.carried_all.new.self (all-came true c.args.bytes.now old c.carried_all.new.self c.carried_all.ensures) refl
    ∙ ap (λ (why : Stop). record old { means = means_past old.means (gets_steps c.args.bytes.now why) }) (sym c.in-End.is)

pub returns-in-Held : goal.returns-in-Held
returns-in-Held g c =
    let old = c.args.self.now in
    gots-held c.args.bytes.now old c.carried_all-in-Held.new.self c.held.new.self (all-came false c.args.bytes.now old c.carried_all-in-Held.new.self c.carried_all-in-Held.ensures) c.requires.ordered c.held.ensures.after
    ∙ ap (λ (why : Stop). record old { means = means_past old.means (gets_steps c.args.bytes.now why) }) (sym c.in-Held.is)

pub returns-in-Full : goal.returns-in-Full
returns-in-Full g c =
    let old = c.args.self.now in
    let whole : (why : Stop) → c.carried_all-in-Full.new.self ≡ record old { means = means_past old.means (gets_steps c.args.bytes.now stop.Full) } → gets_steps c.args.bytes.now stop.Full ≡ gets_steps c.args.bytes.now why
    → c.args.stop ≡ why → c.carried_all-in-Full.new.self ≡ record old { means = means_past old.means (gets_steps c.args.bytes.now c.args.stop) } =
    λ why noted same is. noted ∙ ap (λ (steps : List Step). record old { means = means_past old.means steps }) (same ∙ ap (gets_steps c.args.bytes.now) (sym is)) in
    let noted = gots-noted c.args.bytes.now stop.Full old c.carried_all-in-Full.new.self (all-came false c.args.bytes.now old c.carried_all-in-Full.new.self c.carried_all-in-Full.ensures) refl in
    elim c.in-Full.is [
      | inl full ↦ whole stop.Full noted refl full
      | inr other ↦ elim other [ inl char ↦ whole stop.Char noted refl char | inr failed ↦ absurd (c.requires.went failed) ]
    ]
