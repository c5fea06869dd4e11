use Rattle.std.proofs.lemmas.Option.{IfSome_then}
use Rattle.vx_desks.specs.Four.{listed}
use Rattle.vx_desks.specs.Standing.{firsts_shown}
use Rattle.vx_buses.proofs.Furnished.{all-furnished}
use Rattle.vx_buses.proofs.starting.start_buses.Goals as goal

pub returns-clause-furnished : goal.returns-clause-furnished
returns-clause-furnished g c = IfSome_then c.start_over.result c.start_over.ensures.begin (λ r all. all-furnished _ _ (listed (firsts_shown r.0)) all)
