use Rattle.vx_policy.proofs.Spelled.{none-shown, some-shown, unparted, not-any, under-parts, peers-read}
use Rattle.vx_policy.proofs.words.peers_of.Goals as goal

pub returns-in_err-a-clause-none : goal.returns-in_err-a-clause-none
returns-in_err-a-clause-none c = λ none p h e.
    unparted p c.args.word.now h (c.is_star.ensures.other c.if-is_star.false) e (none-shown _ _ _ c.parts_of.ensures c.in_err-a.was)

pub returns-clause-some : goal.returns-clause-some
returns-clause-some c = peers-read c.under_of.result c.args.word.now _ _ _ _ _ c.under_of.ensures.some (some-shown _ _ _ _ c.parts_of.ensures c.in_ok-a.was)

pub returns-clause-none : goal.returns-clause-none
returns-clause-none c = λ none p h e.
    c.under_of.ensures.none none p
    (under-parts p c.args.word.now _ _ _ _ _ h (not-any p c.args.word.now (c.is_star.ensures.other c.if-is_star.false) e) e (some-shown _ _ _ _ c.parts_of.ensures c.in_ok-a.was))
