use Rattle.std.proofs.Common.{arith, sym}
use Rattle.vx_srq.proofs.Due.{too_many}
use Rattle.vx_srq.proofs.slots.queue.Goals as goal

pub returns-then-len-ge-OUTBOX_MAX-clause-fits : goal.returns-then-len-ge-OUTBOX_MAX-clause-fits
returns-then-len-ge-OUTBOX_MAX-clause-fits c =
    sym (too_many c.loop-enable.outbox.items _ c.args.enables.now c.args.conn c.loop-enable.enable-index c.enable-item.result (omega arith) c.enable-item.is
    c.if-enable.true c.if-enable-conn.true c.loop-enable.invariant.queued (omega arith))
