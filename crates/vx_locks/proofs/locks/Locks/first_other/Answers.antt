use Rattle.std.proofs.Common.{◌==◌, not, Some, None}
use Rattle.vx_locks.proofs.Rows.{find-shown, first_told}
use Rattle.vx_locks.proofs.locks.Locks.first_other.Goals as goal

pub returns-in-Some : goal.returns-in-Some
returns-in-Some c =
    first_told c.args.self.now c.args.lid (Some c.in-Some.row.now)
    (find-shown c.args.self.now c.deref.result.now c.self.inside.rows.items c.self.view_is c.deref.ensures.value (λ k. not (k.link == c.args.lid)) (Some c.in-Some.row.now) c.in-Some.ensures)

pub returns-in-None : goal.returns-in-None
returns-in-None c =
    first_told c.args.self.now c.args.lid None
    (find-shown c.args.self.now c.deref.result.now c.self.inside.rows.items c.self.view_is c.deref.ensures.value (λ k. not (k.link == c.args.lid)) None c.in-None.ensures)
