use Rattle.std.proofs.Common.{◌≡◌, ◌≤◌, ◌+◌, length}
use Rattle.vx_policy.specs.declared.policy.TheConstants.{RULES_MAX}
use Rattle.vx_policy.specs.Judging.{judged, judged_from}
use Rattle.vx_policy.proofs.policy.judge_rules.Given as goal

abbrev pub invariant-loop-rest : goal.invariant-loop-rest
invariant-loop-rest l =
    (l.rule + length l.rest ≤ RULES_MAX + 1)
    × (judged_from l.rule l.rest l.peer l.proc l.target ≡ judged l.rules l.peer l.proc l.target)

abbrev pub decreases-loop-rest : goal.decreases-loop-rest
decreases-loop-rest l = length l.rest
