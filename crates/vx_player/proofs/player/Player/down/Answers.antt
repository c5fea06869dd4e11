use Rattle.std.proofs.Common.{sym, subst, refl}
use Rattle.vx_player.specs.Standing.{PlayerStands}
use Rattle.vx_rules.proofs.Laws.{role-connection}
use Rattle.vx_player.proofs.Laws.Connections.{down-refused, down-takes}
use Rattle.vx_player.proofs.player.Player.down.Goals as goal

pub end-requires : goal.end-requires
end-requires g c = role-connection c.self.inside.core.interleaved.state.tables c.args.conn c.in-Some.field-0 (sym c.in-Some.ensures)

pub returns-in-None-clause-stopped : goal.returns-in-None-clause-stopped
returns-in-None-clause-stopped g c = λ stage stands.
    let there = subst (λ p. PlayerStands p stage) (sym c.self.view_is) stands in
    down-refused stage _ c.args.conn there (sym c.in-None.ensures)

pub returns-in-Some-clause-taken : goal.returns-in-Some-clause-taken
returns-in-Some-clause-taken g c = λ stage stands.
    let there = subst (λ p. PlayerStands p stage) (sym c.self.view_is) stands in
    rw c.of.ensures (down-takes stage _ _ c.args.conn c.in-Some.field-0 there (sym c.in-Some.ensures) c.end.ensures.happens c.end.ensures.gone c.end.ensures.others refl refl)
