use Rattle.vx_policy.proofs.Judged.{first-decides, none-denies}
use Rattle.vx_policy.proofs.theorems.one_verdict.Goals as goal

pub returns-clause-first : goal.returns-clause-first
returns-clause-first c = first-decides 1

pub returns-clause-none : goal.returns-clause-none
returns-clause-none c = none-denies 1
