use Rattle.vx_player.proofs.Tweaked.{set-takes}
use Rattle.vx_player.proofs.player.Player.set.Goals as goal
use Rattle.vx_player.proofs.player.Player.set.Goals.{then-tweak, else-tweak}

pub returns-clause-taken : goal.returns-clause-taken
returns-clause-taken g c =
    elim c.if-tweak.branch [
      | then-tweak w ↦ rw w.result-is (λ stage stands.
          set-takes stage c.args.p c.args.s c.args.b c.tweak.result _ c.args.self.now c.tweak.new.self c.self.view_is stands c.tweak.ensures.interleaved c.tweak.ensures.changes
          w.if-tweak.true)
      | else-tweak w ↦ rw w.result-is tt
    ]
