use Rattle.std.proofs.Common.{arith}
use Rattle.vx_policy.proofs.Readings.{skipped, said}
use Rattle.vx_policy.proofs.policy.read_rules.Goals as goal

pub loop-rest-preserved-in-Skipped : goal.loop-rest-preserved-in-Skipped
loop-rest-preserved-in-Skipped c = (
  omega arith,
  omega arith,
  skipped c.args.text.now c.loop-rest.rest.now c.first_line.result.1.now c.first_line.result.0.now c.loop-rest.rules.items c.loop-rest.count c.loop-rest.line
      c.loop-rest.invariant.2 c.first_line.ensures.first c.in-Skipped.ensures,
)

pub loop-rest-preserved : goal.loop-rest-preserved
loop-rest-preserved c = (
  omega arith,
  omega arith,
  said c.args.text.now c.loop-rest.rest.now c.first_line.result.1.now c.first_line.result.0.now c.loop-rest.rules.items c.keep.new.rules.items c.loop-rest.count c.loop-rest.line
      c.in-Says.rule c.loop-rest.invariant.2 c.first_line.ensures.first c.in-Says.ensures c.in_ok-keep-in-Says.ensures,
)
