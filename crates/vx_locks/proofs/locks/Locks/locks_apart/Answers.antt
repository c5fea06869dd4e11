use Rattle.std.proofs.Common.{subst}
use Rattle.vx_rules.specs.Locks.{IsApart}
use Rattle.vx_locks.proofs.locks.Locks.locks_apart.Goals as goal

pub returns-clause-links : goal.returns-clause-links
returns-clause-links c = λ i j d before h. (subst IsApart c.self.view_is c.self.invariant.apart i j d before h).0
