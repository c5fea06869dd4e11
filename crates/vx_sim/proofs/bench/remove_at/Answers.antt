use Rattle.std.proofs.Common.{not, rules}
use Rattle.std.proofs.lemmas.Fn.{filter_same}
use Rattle.vx_sim.specs.Bench.{stands_at}
use Rattle.vx_sim.specs.Shown.{placed_of}
use Rattle.vx_sim.proofs.bench.remove_at.Goals as goal

pub returns-clause-left : goal.returns-clause-left
returns-clause-left g c =
    filter_same _ (λ p. not (stands_at c.args.a (placed_of p))) _ (λ x b f' k. search rules) _ _ c.retain.ensures.filtered
