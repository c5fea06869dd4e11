use Rattle.std.proofs.Common.{Bool, None, ap, sym, subst, ◌∙◌}
use denote.Param.{param}
use Rattle.vx_script.specs.Command.{Sample}
use Rattle.vx_player.specs.declared.note.Intake.TheVariants as intake
use Rattle.vx_player.specs.declared.note.Note.TheVariants as note
use Rattle.vx_player.specs.declared.note.StepMade.{StepMade}
use Rattle.vx_player.specs.contracts.player.Player.{the_view}
use Rattle.vx_player.specs.PlayerState.{PlayerState}
use Rattle.vx_player.specs.Standing.{PlayerStands, TakesTo}
use Rattle.vx_player.proofs.Calling.{sample-takes}
use Rattle.vx_player.proofs.player.Player.sample.Goals as goal

pub returns-clause-taken : goal.returns-clause-taken
returns-clause-taken g c = λ stage stands.
    let p : PlayerState = the_view (param 0 g.row.I) g.I.Instrument c.self.inside in
    let told : Bool → StepMade = λ level. record { intake = intake.Sampled level; polled = None; note = note.Nothing; answered = None } in
    subst (λ m. TakesTo stage Sample m (record p { core = c.sample.new.self })) (sym (c.of_intake.ensures ∙ ap told c.level.ensures))
    (sample-takes p stage c.sample.new.self
    (subst (λ q. PlayerStands q stage) (sym c.self.view_is) stands) c.sample.ensures.interleaved c.sample.ensures.walk)
