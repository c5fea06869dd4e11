use Rattle.std.proofs.Common.{◌+◌, ◌≤◌, length}
use Rattle.vx_policy.specs.Reading.{PolicyUnderWay}
use Rattle.vx_policy.proofs.policy.read_rules.Given as goal

abbrev pub invariant-loop-rest : goal.invariant-loop-rest
invariant-loop-rest l = (l.line + length l.rest ≤ length l.text) × (l.count ≤ l.line) × PolicyUnderWay l.text l.rules.items l.count l.line l.rest

abbrev pub decreases-loop-rest : goal.decreases-loop-rest
decreases-loop-rest l = length l.rest
