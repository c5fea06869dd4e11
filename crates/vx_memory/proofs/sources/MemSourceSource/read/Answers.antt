use Rattle.std.proofs.Common.{arith, ap, sym}
use Rattle.std.proofs.lemmas.Grind.{common_steps}
use Rattle.vx_memory.proofs.Pieces.{left_after}
use Rattle.vx_memory.proofs.sources.MemSourceSource.read.Goals as goal

-- the bytes that were given and those that are left are the bytes that were left
pub returns-clause-got : goal.returns-clause-got
returns-clause-got c = (
  grind (arith, common_steps),
  grind (arith, common_steps),
  left_after _ c.deref-2.result.now c.self.inside.bytes.items _ _ c.self.inside.at c.give-count.result
      (ap (λ s. s.left) (sym c.self.view_is)) c.deref-2.ensures.value (omega arith)
      (omega (arith, c.give-count.ensures.count)) c.give-count.ensures.slice,
)
