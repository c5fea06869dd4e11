use Rattle.vx_sim.proofs.Finding.{held-by-none, held-by-some}
use Rattle.std.proofs.Common.{◌∙◌}
use Rattle.vx_sim.proofs.bench.Bench.holds_put.Goals as goal

pub returns-then-is_empty : goal.returns-then-is_empty
returns-then-is_empty g c = c.if-is_empty.true ∙ held-by-none c.args.wire.now c.args.self.now c.args.hearers.now c.requires c.if-is_empty.ensures

pub returns-else-is_empty : goal.returns-else-is_empty
returns-else-is_empty g c = c.any.ensures ∙ held-by-some c.args.wire.now c.args.self.now c.args.hearers.now c.requires c.if-is_empty.ensures
