use Rattle.std.proofs.Common.{sym, ap, ◌∙◌, subst}
use Rattle.vx_codec.specs.Answered.{results_shown}
use Rattle.vx_history.specs.Replies.{reply_of}
use Rattle.vx_history.specs.Saying as saying
use Rattle.vx_history.specs.Stepping.{EndsSaid, checker_shown}
use Rattle.vx_history.specs.Taking.{taken_so}
use Rattle.vx_history.proofs.checker.Checker.spell.Goals as goal

pub returns-in-Ok-Some : goal.returns-in-Ok-Some
returns-in-Ok-Some c =
    let s = checker_shown c.args.self.now in
    let found = (rw c.in-Ok-Some.field-0-is at c.in-Ok-Some.ensures) ∙ ap (λ x. reply_of x c.args.bytes.now (results_shown c.args.told)) (rw c.deref.ensures.value at c.xid_at.ensures) in
    subst (λ o. EndsSaid c.args.self.now (saying.answers_by s c.args.conn c.args.dialed o) c.answer.result c.answer.new.self) found c.answer.ensures

pub returns-in-Ok-None : goal.returns-in-Ok-None
returns-in-Ok-None c =
    let s = checker_shown c.args.self.now in
    let found = (rw c.in-Ok-None.field-0-is at c.in-Ok-None.ensures) ∙ ap (λ x. reply_of x c.args.bytes.now (results_shown c.args.told)) (rw c.deref.ensures.value at c.xid_at.ensures) in
    ap (λ o. taken_so s (saying.answers_by s c.args.conn c.args.dialed o)) (sym found)
