use Rattle.std.proofs.Common.{sym, ap, ◌∙◌}
use Rattle.std.specs.Prelude.{position}
use Rattle.vx_488.specs.Wire.{is_talking}
use Rattle.vx_sim.specs.Bench.{talks, TalkerGives}
use Rattle.vx_sim.specs.SimState.{SimState}
use Rattle.vx_sim.proofs.Finding.{position-kept}
use Rattle.vx_sim.proofs.sim.SimBus.get_from.Goals as goal

pub returns-clause-speaker : goal.returns-clause-speaker
returns-clause-speaker g c =
    let wire = c.self.inside.wire in
    let Give = TalkerGives wire.polling (record { value = c.give-b.result.0; end = c.give-b.result.1 }) in
    c.requires.speaker ∙ ap (λ (s : SimState). position (talks s.means.wire) s.bench) (sym c.self.view_is)
    ∙ sym (position-kept (is_talking wire.talker) (talks wire) Give c.self.inside.bench c.give-b.new.self c.give-b.ensures)
    ∙ ap (λ (s : SimState). position (talks s.means.wire) s.bench) (sym c.carried.ensures.after)
