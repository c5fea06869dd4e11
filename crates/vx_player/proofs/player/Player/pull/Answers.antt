use Rattle.vx_player.proofs.Tweaked.{pull-takes}
use Rattle.vx_player.proofs.player.Player.pull.Goals as goal
use Rattle.vx_player.proofs.player.Player.pull.Goals.{then-tweak, else-tweak}

pub returns-clause-taken : goal.returns-clause-taken
returns-clause-taken g c =
    elim c.if-tweak.branch [
      | then-tweak w ↦ rw w.result-is (λ stage stands.
          pull-takes stage c.args.p c.args.s c.new.result.at c.tweak.result _ c.args.self.now c.tweak.new.self c.new.ensures c.self.view_is stands c.tweak.ensures.interleaved
          c.tweak.ensures.changes w.if-tweak.true)
      | else-tweak w ↦ rw w.result-is tt
    ]
