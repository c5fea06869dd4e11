use Rattle.vx_player.proofs.Tweaked.{fail-takes}
use Rattle.vx_player.proofs.player.Player.fail.Goals as goal

pub returns-clause-taken : goal.returns-clause-taken
returns-clause-taken g c = λ stage stands.
    fail-takes stage c.args.n _ _ c.args.self.now c.tweak.new.self c.new.ensures c.self.view_is stands c.tweak.ensures.interleaved c.tweak.ensures.changes
