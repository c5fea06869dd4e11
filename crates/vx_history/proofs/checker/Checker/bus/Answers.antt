use Rattle.std.proofs.Common.{refl, sym, ◌∙◌, ◌++◌}
use Rattle.vx_flow.specs.Event as event
use Rattle.vx_history.specs.Saying.{has_turn}
use Rattle.vx_history.specs.Stepping.{checker_shown, turn_shown}
use Rattle.vx_history.proofs.Stepped.{taken, here, turn-move}
use Rattle.vx_history.proofs.checker.Checker.bus.Goals as goal

pub returns-in-Ok : goal.returns-in-Ok
returns-in-Ok c =
    let s = checker_shown c.args.self.now in
    let old = c.args.self.now.moves.items in
    let e = event.Move c.args.conn c.args.moves.now in
    let has = sym c.has_turn.ensures ∙ c.if-not-has_turn.false in
    let found = taken s s.kept e s.gateway (turn_shown c.args.self.now.turn (old ++ c.args.moves.now)) refl (turn-move c.args.self.now.turn old c.args.moves.now c.args.conn has) in
    rw c.in-Ok.ensures.items (found.0, here s (has_turn s c.args.conn) e has ∙ found.1)
