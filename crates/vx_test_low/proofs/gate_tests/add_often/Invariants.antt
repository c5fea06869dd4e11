use Rattle.std.proofs.Common.{◌≡◌, ◌++◌, replicate}
use Rattle.vx_test_low.proofs.gate_tests.add_often.Given as goal

abbrev pub invariant-loop : goal.invariant-loop
invariant-loop g l = record {
  gate : l.pass.gate ≡ l.fn.pass.gate;
  number : l.pass.number ≡ l.fn.pass.number;
  parts : l.pass.parts ≡ l.fn.pass.parts;
  own : l.pass.own ≡ l.fn.pass.own ++ replicate l.counter l.by;
  act : l.act.by ≡ l.by;
}
