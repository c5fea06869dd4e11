use Rattle.vx_policy.proofs.Spelled.{none-shown, some-shown, unsaid, words-say, rule-read}
use Rattle.vx_policy.proofs.lines.said_by.Goals as goal

pub returns-in_err-allow-clause-none : goal.returns-in_err-allow-clause-none
returns-in_err-allow-clause-none c = λ none r says. unsaid r c.args.line.now says (none-shown _ _ _ c.words_of.ensures c.in_err-allow.was)

pub returns-clause-some : goal.returns-clause-some
returns-clause-some c = rule-read c.rule_of.result c.args.line.now _ _ _ _ c.rule_of.ensures.some (some-shown _ _ _ _ c.words_of.ensures c.in_ok-allow.was)

pub returns-clause-none : goal.returns-clause-none
returns-clause-none c = λ none r says.
    c.rule_of.ensures.none none r (words-say r c.args.line.now _ _ _ _ says (some-shown _ _ _ _ c.words_of.ensures c.in_ok-allow.was))
