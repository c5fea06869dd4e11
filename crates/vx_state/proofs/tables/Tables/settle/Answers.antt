use Rattle.std.proofs.Common.{refl}
use Rattle.vx_state.proofs.Granting.{settles_is, can_settle-at, none_dials}
use Rattle.vx_state.proofs.tables.Tables.settle.Goals as goal

pub dialed-requires-clause-none : goal.dialed-requires-clause-none
dialed-requires-clause-none c =
    (settles_is c.args.self.now c.args.conn c.in-CreateIntr.host c.in-CreateIntr.port c.in-CreateIntr.prog c.in-CreateIntr.vers c.in-CreateIntr.family
    (can_settle-at c.args.self.now c.args.conn c.held-row.result.now c.asked_of-asked.result c.held-row.ensures.pending c.asked_of-asked.ensures c.requires.passes _ c.in-CreateIntr.is)).alone

pub dialed-requires-clause-left : goal.dialed-requires-clause-left
dialed-requires-clause-left c =
    (settles_is c.args.self.now c.args.conn c.in-CreateIntr.host c.in-CreateIntr.port c.in-CreateIntr.prog c.in-CreateIntr.vers c.in-CreateIntr.family
    (can_settle-at c.args.self.now c.args.conn c.held-row.result.now c.asked_of-asked.result c.held-row.ensures.pending c.asked_of-asked.ensures c.requires.passes _ c.in-CreateIntr.is)).left

pub unreachable-requires : goal.unreachable-requires
unreachable-requires c =
    none_dials c.args.self.now c.args.conn c.asked_of-asked.result.call c.held-row.result.now.text.bytes.items c.held-row.result.now.handle.bytes.items c.in_default.not-CreateIntr
    (can_settle-at c.args.self.now c.args.conn c.held-row.result.now c.asked_of-asked.result c.held-row.ensures.pending c.asked_of-asked.ensures c.requires.passes c.asked_of-asked.result.call refl)
