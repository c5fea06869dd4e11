use Rattle.std.proofs.Common.{sym, ap, Err, ◌∙◌, subst, refl}
use Rattle.vx_player.specs.Standing.{PlayerStands}
use Rattle.vx_player.proofs.Laws.Connections.{up-number, up-full, up-wants, up-takes}
use Rattle.vx_player.proofs.player.Player.up.Goals as goal

pub returns-then-conn-next_number-clause-stopped : goal.returns-then-conn-next_number-clause-stopped
returns-then-conn-next_number-clause-stopped g c = λ stage stands.
    let there = subst (λ p. PlayerStands p stage) (sym c.self.view_is) stands in
    up-number stage _ c.args.conn c.args.role there (λ e. c.if-conn-next_number.true (e ∙ sym c.next_number.ensures))

pub returns-in-Err-Full-clause-stopped : goal.returns-in-Err-Full-clause-stopped
returns-in-Err-Full-clause-stopped g c = λ stage stands.
    let there = subst (λ p. PlayerStands p stage) (sym c.self.view_is) stands in
    up-full stage _ c.args.conn c.args.role there (c.if-conn-next_number.false ∙ c.next_number.ensures) (c.in-Err-Full.ensures.full.0 (ap Err c.in-Err-Full.field-0-is))

pub returns-in-Err-NoMemory-clause-stopped : goal.returns-in-Err-NoMemory-clause-stopped
returns-in-Err-NoMemory-clause-stopped g c = λ stage stands.
    let there = subst (λ p. PlayerStands p stage) (sym c.self.view_is) stands in
    up-wants stage _ c.args.conn c.args.role there (c.if-conn-next_number.false ∙ c.next_number.ensures)
    (λ none. let full = c.in-Err-NoMemory.ensures.full.1 none in absurd (cc (full, c.in-Err-NoMemory.field-0-is)))

pub returns-clause-taken : goal.returns-clause-taken
returns-clause-taken g c = λ stage stands.
    let there = subst (λ p. PlayerStands p stage) (sym c.self.view_is) stands in
    rw c.of_intake.ensures (up-takes stage _ _ c.args.conn c.in-Ok.field-0 c.args.role there (c.if-conn-next_number.false ∙ c.next_number.ensures) c.in-Ok.ensures.ok c.in-Ok.ensures.walk
    c.in_ok-begin.ensures.here c.in_ok-begin.ensures.others refl refl)
