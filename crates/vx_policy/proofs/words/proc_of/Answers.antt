use Rattle.std.proofs.Common.{sym, ◌∙◌}
use Rattle.vx_policy.proofs.Spelled.{named-word, unnamed}
use Rattle.vx_policy.proofs.words.proc_of.Goals as goal

pub returns-in_err-named_of-clause-none : goal.returns-in_err-named_of-clause-none
returns-in_err-named_of-clause-none c = λ none p h.
    unnamed p c.args.word.now (c.is_star.ensures.other c.if-is_star.false) (sym c.named_of.ensures ∙ c.in_err-named_of.was) h

pub returns-clause-some : goal.returns-clause-some
returns-clause-some c = named-word _ c.args.word.now (sym c.named_of.ensures ∙ c.in_ok-named_of.was)
