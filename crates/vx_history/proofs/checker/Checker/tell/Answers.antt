use Rattle.std.proofs.Common.{sym, ◌∙◌}
use Rattle.vx_codec.specs.Answered.{results_shown}
use Rattle.vx_history.specs.Stepping.{checker_shown}
use Rattle.vx_history.proofs.Stepped.{lacks-by}
use Rattle.vx_history.proofs.checker.Checker.tell.Goals as goal

pub returns-then-lacks_turn : goal.returns-then-lacks_turn
returns-then-lacks_turn c = λ p is.
    let s = checker_shown c.args.self.now in
    let outcome = results_shown c.args.told in
    let lacks = lacks-by s c.args.conn p outcome c.args.proc is ∙ sym (rw c.error_told.ensures at c.lacks_turn.ensures) ∙ c.if-lacks_turn.true in
    rw lacks

pub returns-else-lacks_turn : goal.returns-else-lacks_turn
returns-else-lacks_turn c = λ p is.
    let s = checker_shown c.args.self.now in
    let outcome = results_shown c.args.told in
    let lacks = lacks-by s c.args.conn p outcome c.args.proc is ∙ sym (rw c.error_told.ensures at c.lacks_turn.ensures) ∙ c.if-lacks_turn.false in
    rw lacks c.spell.ensures
