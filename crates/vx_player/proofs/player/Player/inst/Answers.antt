use Rattle.vx_player.proofs.Tweaked.{inst-takes}
use Rattle.vx_player.proofs.player.Player.inst.Goals as goal

pub returns-in-None-clause-taken : goal.returns-in-None-clause-taken
returns-in-None-clause-taken g c = λ stage stands.
    inst-takes stage c.args.p c.args.s c.args.text.now _ c.new-act.result.at c.new-act.result.inst _ c.args.self.now c.tweak.new.self c.in_ok-inst.ensures.ok
    c.new-act.ensures.at c.new-act.ensures.inst c.self.view_is stands c.tweak.ensures.interleaved c.in-None.ensures.changes
