use Rattle.vx_rules.proofs.Passing.{passed_lets, lets_pass-law, passed_settles}
use Rattle.vx_rules.proofs.theorems.passed_calls.Goals as goal

pub returns : goal.returns
returns c = record { passed = passed_lets; lets = lets_pass-law; settles = passed_settles }
