use Rattle.std.proofs.Common.{sym, ◌∙◌}
use Rattle.vx_ctrl.specs.declared.turn.Went.TheVariants as went
use Rattle.vx_core.proofs.Moving.{gone, gone-holds, gone-stands, gone-pending, gone-finished, gone-broken, gone-timeout, gone-held, gone-sliced}
use Rattle.vx_core.proofs.order.go.Goals as goal

pub finish-requires-clause-holds : goal.finish-requires-clause-holds
finish-requires-clause-holds g c =
    gone-holds g.B.Bus.means g.B.Bus.through _ c.args.conn c.requires.turn.running went.Finished _ c.requires.turn.holds (gone g.B.Bus.means g.B.Bus.through c.args.kernel.now c.args.conn c.move_on-went.result.0 went.Finished c.move_on-went.new.self c.requires.turn c.move_on-went.ensures.went c.in-Finished.is)

pub finish-requires-clause-whole : goal.finish-requires-clause-whole
finish-requires-clause-whole g c =
    gone-stands g.B.Bus.means g.B.Bus.through _ c.args.conn c.requires.turn.running went.Finished _ (gone g.B.Bus.means g.B.Bus.through c.args.kernel.now c.args.conn c.move_on-went.result.0 went.Finished c.move_on-went.new.self c.requires.turn c.move_on-went.ensures.went c.in-Finished.is)

pub stop-requires-clause-pending : goal.stop-requires-clause-pending
stop-requires-clause-pending g c =
    gone-pending g.B.Bus.means g.B.Bus.through _ c.args.conn c.requires.turn.running went.Broken _ (gone g.B.Bus.means g.B.Bus.through c.args.kernel.now c.args.conn c.move_on-went.result.0 went.Broken c.move_on-went.new.self c.requires.turn c.move_on-went.ensures.went c.in-Broken.is)

pub stop-requires-clause-holds : goal.stop-requires-clause-holds
stop-requires-clause-holds g c =
    gone-holds g.B.Bus.means g.B.Bus.through _ c.args.conn c.requires.turn.running went.Broken _ c.requires.turn.holds (gone g.B.Bus.means g.B.Bus.through c.args.kernel.now c.args.conn c.move_on-went.result.0 went.Broken c.move_on-went.new.self c.requires.turn c.move_on-went.ensures.went c.in-Broken.is)

pub is_over-requires : goal.is_over-requires
is_over-requires g c =
    gone-pending g.B.Bus.means g.B.Bus.through _ c.args.conn c.requires.turn.running went.Held _ (gone g.B.Bus.means g.B.Bus.through c.args.kernel.now c.args.conn c.move_on-went.result.0 went.Held c.move_on-went.new.self c.requires.turn c.move_on-went.ensures.went c.in-Held.is)

pub stop-requires-in-Held-clause-pending : goal.stop-requires-in-Held-clause-pending
stop-requires-in-Held-clause-pending g c =
    gone-pending g.B.Bus.means g.B.Bus.through _ c.args.conn c.requires.turn.running went.Held _ (gone g.B.Bus.means g.B.Bus.through c.args.kernel.now c.args.conn c.move_on-went.result.0 went.Held c.move_on-went.new.self c.requires.turn c.move_on-went.ensures.went c.in-Held.is)

pub stop-requires-in-Held-clause-holds : goal.stop-requires-in-Held-clause-holds
stop-requires-in-Held-clause-holds g c =
    gone-holds g.B.Bus.means g.B.Bus.through _ c.args.conn c.requires.turn.running went.Held _ c.requires.turn.holds (gone g.B.Bus.means g.B.Bus.through c.args.kernel.now c.args.conn c.move_on-went.result.0 went.Held c.move_on-went.new.self c.requires.turn c.move_on-went.ensures.went c.in-Held.is)

pub returns-in-Finished : goal.returns-in-Finished
returns-in-Finished g c =
    gone-finished g.B.Bus.means g.B.Bus.through g.B.Bus.srq_level g.B.Bus.ndac_level c.args.kernel.now c.args.conn c.requires.turn.running
    (record { conn = c.args.conn; turn = c.move_on-went.result.1 }) c.move_on-went.new.self c.finish.new.self c.finish.result c.requires.turn.holds
    (gone g.B.Bus.means g.B.Bus.through c.args.kernel.now c.args.conn c.move_on-went.result.0 went.Finished c.move_on-went.new.self c.requires.turn c.move_on-went.ensures.went c.in-Finished.is) c.move_on-went.ensures.turn c.finish.ensures.kept c.finish.ensures.reply c.finish.ensures.within

pub returns-in-Broken : goal.returns-in-Broken
returns-in-Broken g c =
    gone-broken g.B.Bus.means g.B.Bus.through g.B.Bus.srq_level g.B.Bus.ndac_level c.args.kernel.now c.args.conn c.requires.turn.running
    c.move_on-went.new.self c.stop.new.self c.stop.result c.requires.turn.holds
    (gone g.B.Bus.means g.B.Bus.through c.args.kernel.now c.args.conn c.move_on-went.result.0 went.Broken c.move_on-went.new.self c.requires.turn c.move_on-went.ensures.went c.in-Broken.is) c.stop.ensures.kept c.stop.ensures.reply c.stop.ensures.within

pub returns-in-Held : goal.returns-in-Held
returns-in-Held g c =
    gone-timeout g.B.Bus.means g.B.Bus.through g.B.Bus.srq_level g.B.Bus.ndac_level c.args.kernel.now c.args.conn c.requires.turn.running
    (record { conn = c.args.conn; turn = c.move_on-went.result.1 }) c.move_on-went.new.self c.stop-in-Held.new.self c.stop-in-Held.result c.requires.turn.holds
    (gone g.B.Bus.means g.B.Bus.through c.args.kernel.now c.args.conn c.move_on-went.result.0 went.Held c.move_on-went.new.self c.requires.turn c.move_on-went.ensures.went c.in-Held.is) c.move_on-went.ensures.turn (λ p at. sym (c.is_over.ensures p at) ∙ c.if-is_over.true)
    c.stop-in-Held.ensures.kept c.stop-in-Held.ensures.reply c.stop-in-Held.ensures.within

pub returns-in-Held-2 : goal.returns-in-Held-2
returns-in-Held-2 g c =
    gone-held g.B.Bus.means g.B.Bus.through g.B.Bus.srq_level g.B.Bus.ndac_level c.args.kernel.now c.args.conn c.requires.turn.running
    (record { conn = c.args.conn; turn = c.move_on-went.result.1 }) c.move_on-went.new.self c.requires.turn.holds
    (gone g.B.Bus.means g.B.Bus.through c.args.kernel.now c.args.conn c.move_on-went.result.0 went.Held c.move_on-went.new.self c.requires.turn c.move_on-went.ensures.went c.in-Held.is) c.move_on-went.ensures.turn (λ p at. sym (c.is_over.ensures p at) ∙ c.if-is_over.false)

pub returns-in-Slice : goal.returns-in-Slice
returns-in-Slice g c =
    gone-sliced g.B.Bus.means g.B.Bus.through g.B.Bus.srq_level g.B.Bus.ndac_level c.args.kernel.now c.args.conn c.requires.turn.running
    c.move_on-went.new.self c.requires.turn.holds
    (gone g.B.Bus.means g.B.Bus.through c.args.kernel.now c.args.conn c.move_on-went.result.0 went.Slice c.move_on-went.new.self c.requires.turn c.move_on-went.ensures.went c.in-Slice.is)
