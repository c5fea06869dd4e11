use Rattle.std.proofs.Common.{◌==◌, not}
use Rattle.vx_rules.specs.Locks.{keeps_off}
use Rattle.vx_lemmas.proofs.Laws.Filters.{list_any-filter}
use Rattle.vx_rules.proofs.theorems.granted_law.Goals as goal

pub returns-clause-freed : goal.returns-clause-freed
returns-clause-freed c = λ locks lid other wanted. list_any-filter (λ k. not (k.link == lid)) (keeps_off other wanted) locks
