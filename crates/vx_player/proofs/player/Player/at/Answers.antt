use Rattle.std.proofs.Common.{arith, sym, subst}
use denote.Param.{param}
use Rattle.vx_script.specs.Command.{At}
use Rattle.vx_player.specs.contracts.player.Player.{the_view}
use Rattle.vx_player.specs.PlayerState.{PlayerState}
use Rattle.vx_player.specs.Standing.{IsPlayerReady, PlayerStands, TakesTo}
use Rattle.vx_player.proofs.Calling.{at-takes}
use Rattle.vx_player.proofs.Tweaked.{quiet}
use Rattle.vx_player.proofs.player.Player.at.Goals as goal

pub returns-clause-taken : goal.returns-clause-taken
returns-clause-taken g c = λ stage stands.
    let p : PlayerState = the_view (param 0 g.row.I) g.I.Instrument c.self.inside in
    subst (λ m. TakesTo stage (At c.args.moment) quiet (record p { moment = m })) (sym c.max-self-inside.ensures)
    (at-takes p stage c.args.moment (subst (λ q. PlayerStands q stage) (sym c.self.view_is) stands))

pub returns-clause-ready : goal.returns-clause-ready
returns-clause-ready g c =
    let p : PlayerState = the_view (param 0 g.row.I) g.I.Instrument c.self.inside in
    let ready : IsPlayerReady p = subst IsPlayerReady (sym c.self.view_is) c.requires.ready in
    subst (λ m. IsPlayerReady (record p { moment = m })) (sym c.max-self-inside.ensures)
    (record { waits = ready.waits; limits = ready.limits; late = (let late = ready.late in omega arith) })
