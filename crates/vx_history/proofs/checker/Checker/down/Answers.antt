use Rattle.std.proofs.Common.{sym, ◌∙◌}
use Rattle.vx_flow.specs.Event as event
use Rattle.vx_history.specs.Stepping.{checker_shown, turn_shown}
use Rattle.vx_history.specs.CheckState.{kept_without}
use Rattle.vx_history.proofs.Stepped.{taken, turn-down, down-same}
use Rattle.vx_history.proofs.checker.Checker.down.Goals as goal

pub returns : goal.returns
returns c =
    let s = checker_shown c.args.self.now in
    rw c.drop_kept.ensures
    (taken s (kept_without s.kept c.args.conn) (event.Down c.args.conn) c.step.new.plain (turn_shown c.turn_without-self.result c.args.self.now.moves.items)
    (down-same c.args.self.now.plain c.args.conn _ _ (rw c.deref.ensures.value at c.moves_of-moves.ensures) ∙ c.in_ok-step.ensures)
    (turn-down s.turn c.args.conn ∙ sym (c.turn_without-self.ensures c.args.self.now.moves.items)))
