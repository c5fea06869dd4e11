use Rattle.std.proofs.Common.{sym, ap, ◌∙◌}
use Rattle.vx_codec.specs.Answered.{results_shown}
use Rattle.vx_history.specs.Replies.{error_of}
use Rattle.vx_history.proofs.Told.{told-none}
use Rattle.vx_history.proofs.replies.reply_told.Goals as goal

pub reply_with-requires-clause-error : goal.reply_with-requires-clause-error
reply_with-requires-clause-error c = ap error_of (sym c.error_told.ensures) ∙ sym c.in-Some.ensures

pub returns-in-None-clause-told : goal.returns-in-None-clause-told
returns-in-None-clause-told c = told-none (results_shown c.args.told) (ap error_of (sym c.error_told.ensures) ∙ sym c.in-None.ensures)
