use Rattle.std.proofs.Common.{ap, sym, ◌∙◌}
use Rattle.vx_rules.specs.Locks.{holder_of}
use Rattle.vx_locks.proofs.Rows.{told_is}
use Rattle.vx_locks.proofs.locks.Locks.blocked.Goals as goal

pub returns-in-Interface : goal.returns-in-Interface
returns-in-Interface c =
    let at_target = ap (holder_of c.args.self.now c.args.lid) (sym c.in-Interface.is) in
    let told = told_is c.args.self.now c.args.lid c.args.target.now c.first_other.result (c.first_other.ensures ∙ at_target) in
    record { holder = told.holder; blocked = told.blocked; other = told.other }

pub returns-in-Device : goal.returns-in-Device
returns-in-Device c =
    let at_target = ap (holder_of c.args.self.now c.args.lid) (sym c.in-Device.is) in
    let told = told_is c.args.self.now c.args.lid c.args.target.now c.other_near.result (c.other_near.ensures c.in-Device.s ∙ at_target) in
    record { holder = told.holder; blocked = told.blocked; other = told.other }
