use Rattle.std.proofs.Common.{sym, ◌∙◌}
use Rattle.vx_calls.specs.Reply.{reply_shown}
use Rattle.vx_history.specs.Stepping.{checker_shown, turn_shown}
use Rattle.vx_history.specs.Saying.{answer_of}
use Rattle.vx_history.proofs.Stepped.{taken, stopped, turn-answer, answer-same}
use Rattle.vx_history.proofs.checker.Checker.answer.Goals as goal

pub returns-in-Ok : goal.returns-in-Ok
returns-in-Ok c =
    let s = checker_shown c.args.self.now in
    let moves = c.args.self.now.moves.items in
    taken s s.kept (answer_of s c.args.conn c.args.dialed (reply_shown c.args.reply)) c.step.new.plain (turn_shown c.turn_without-self.result moves)
    (answer-same c.args.self.now.plain c.args.conn c.args.self.now.moment _ _ _ _ _ _ c.args.dialed _ _ (reply_shown c.args.reply)
    (c.begun_of.ensures moves) (rw c.deref-2.ensures.value at c.moves_of.ensures) (c.has_failed-failed.ensures moves) (rw c.deref.ensures.value at c.level_told-level.ensures) ∙ c.in-Ok.ensures)
    (turn-answer s.turn c.args.conn c.args.self.now.moment _ c.args.dialed _ (reply_shown c.args.reply) ∙ sym (c.turn_without-self.ensures moves))

pub returns-in-Err : goal.returns-in-Err
returns-in-Err c =
    let s = checker_shown c.args.self.now in
    let moves = c.args.self.now.moves.items in
    stopped s s.kept (answer_of s c.args.conn c.args.dialed (reply_shown c.args.reply)) _ c.in-Err.stop c.step.new.plain _
    (answer-same c.args.self.now.plain c.args.conn c.args.self.now.moment _ _ _ _ _ _ c.args.dialed _ _ (reply_shown c.args.reply)
    (c.begun_of.ensures moves) (rw c.deref-2.ensures.value at c.moves_of.ensures) (c.has_failed-failed.ensures moves) (rw c.deref.ensures.value at c.level_told-level.ensures)) c.in-Err.ensures
