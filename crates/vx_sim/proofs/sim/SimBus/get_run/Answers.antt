use Rattle.std.proofs.Common.{◌≡◌, false, Some, take, sym, ap, ◌∙◌, subst}
use Rattle.std.specs.Prelude.{position}
use Rattle.vx_488.specs.Bursts.{gets_steps}
use Rattle.vx_488.specs.Walks.{Walk}
use Rattle.vx_sim.specs.Bench.{talks}
use Rattle.vx_sim.specs.SimState.{SimState, Through}
use Rattle.vx_sim.proofs.Giving.{bench-gives, gets-walk}
use Rattle.vx_sim.proofs.sim.SimBus.get_run.Goals as goal

pub returns-clause-walk : goal.returns-clause-walk
returns-clause-walk g c =
    let wire = c.self.inside.wire in
    let steps = gets_steps (take c.give_run-many.result.got c.give_run-many.new.room) c.give_run-many.result.stop in
    let plain : wire.polling ≡ false = ap (λ (s : SimState). s.means.wire.polling) c.self.view_is ∙ c.requires.plain in
    let first : position (talks wire) c.self.inside.bench ≡ Some c.args.speaker =
    ap (λ (s : SimState). position (talks s.means.wire) s.bench) c.self.view_is ∙ c.requires.speaker in
    let goes = bench-gives wire c.args.speaker steps c.self.inside.bench c.give_run-many.new.self plain first c.give_run-many.ensures.apart c.give_run-many.ensures.gives in
    let From : SimState → Type 0 = λ old. Walk (λ s. s.means) Through old steps c.carried_gets.new.self in
    let To : SimState → SimState → Type 0 = λ old new. Walk (λ s. s.means) Through old steps new in
    subst From c.self.view_is
    (subst (To _) (sym c.carried_gets.ensures)
    (gets-walk steps _ c.give_run-many.new.self (ap (λ (s : SimState). s.failing) c.self.view_is ∙ c.requires.ordered) goes))

pub returns-clause-stops : goal.returns-clause-stops
returns-clause-stops g c = c.give_run-many.ensures.stops

pub returns-clause-within : goal.returns-clause-within
returns-clause-within g c = c.give_run-many.ensures.within

pub returns-clause-rest : goal.returns-clause-rest
returns-clause-rest g c = c.give_run-many.ensures.rest
