use Rattle.std.proofs.Common.{◌==◌}
use Rattle.vx_locks.proofs.Rows.{any-shown}
use Rattle.vx_locks.proofs.locks.Locks.holds.Goals as goal

pub returns : goal.returns
returns c = any-shown _ c.deref.result.now c.self.inside.rows.items c.self.view_is c.deref.ensures.value (λ k. k.link == c.args.lid) _ c.has_row.ensures
