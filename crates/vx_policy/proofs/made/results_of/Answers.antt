use Rattle.std.proofs.Common.{length, drop, sym, ◌∙◌, arith}
use Rattle.std.proofs.lemmas.List.{length-drop}
use Rattle.vx_policy.specs.declared.made.TheConstants.{HEAD}
use Rattle.vx_policy.proofs.Behind.{whole, nothing_behind}
use Rattle.vx_policy.proofs.made.results_of.Goals as goal

pub returns-then-reply-lt-HEAD : goal.returns-then-reply-lt-HEAD
returns-then-reply-lt-HEAD c =
    let reply = c.args.reply.now in
    whole (drop (length reply) reply) _ (sym (length-drop (length reply) reply)) ∙ nothing_behind (length reply) reply (omega arith)
    ∙ sym (nothing_behind HEAD reply (omega arith))

pub returns : goal.returns
returns c = whole (drop HEAD c.args.reply.now) _ (sym (length-drop HEAD c.args.reply.now))
