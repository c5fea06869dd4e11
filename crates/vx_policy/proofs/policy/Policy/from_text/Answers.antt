use Rattle.std.proofs.Common.{Err, Ok, arith}
use Rattle.vx_policy.specs.declared.policy.PolicyErr.TheVariants as err
use Rattle.vx_policy.proofs.Readings.{answers-rules, answers-bad, few-read, many-read, not-read}
use Rattle.vx_policy.proofs.policy.Policy.from_text.Goals as goal

pub returns-in-Err-clause-rules : goal.returns-in-Err-clause-rules
returns-in-Err-clause-rules c = λ rules reads. answers-rules c.args.text.now rules (Err c.in-Err.why) (not-read c.args.text.now c.in-Err.why c.in-Err.ensures) reads

pub returns-in-Err-clause-bad : goal.returns-in-Err-clause-bad
returns-in-Err-clause-bad c = λ line b. answers-bad c.args.text.now line (Err c.in-Err.why) (not-read c.args.text.now c.in-Err.why c.in-Err.ensures) b

pub returns-then-count-gt-RULES_MAX-clause-rules : goal.returns-then-count-gt-RULES_MAX-clause-rules
returns-then-count-gt-RULES_MAX-clause-rules c = λ rules reads.
    answers-rules c.args.text.now rules (Err err.TooMany) (many-read c.args.text.now c.in-Ok.rules.items c.in-Ok.count c.in-Ok.ensures (omega arith)) reads

pub returns-then-count-gt-RULES_MAX-clause-bad : goal.returns-then-count-gt-RULES_MAX-clause-bad
returns-then-count-gt-RULES_MAX-clause-bad c = λ line b.
    answers-bad c.args.text.now line (Err err.TooMany) (many-read c.args.text.now c.in-Ok.rules.items c.in-Ok.count c.in-Ok.ensures (omega arith)) b

pub returns-else-count-gt-RULES_MAX-clause-rules : goal.returns-else-count-gt-RULES_MAX-clause-rules
returns-else-count-gt-RULES_MAX-clause-rules c = λ rules reads.
    answers-rules c.args.text.now rules (Ok c.in-Ok.rules.items) (few-read c.args.text.now c.in-Ok.rules.items c.in-Ok.count c.in-Ok.ensures (omega arith)) reads

pub returns-else-count-gt-RULES_MAX-clause-bad : goal.returns-else-count-gt-RULES_MAX-clause-bad
returns-else-count-gt-RULES_MAX-clause-bad c = λ line b.
    answers-bad c.args.text.now line (Ok c.in-Ok.rules.items) (few-read c.args.text.now c.in-Ok.rules.items c.in-Ok.count c.in-Ok.ensures (omega arith)) b
