use Rattle.std.proofs.Common.{ap}
use Rattle.vx_exchange.specs.Shown.{given_shown, handle_shown}
use Rattle.vx_session.proofs.Pumped.{pumped-none, pumped-empty, pumped-sent, pumped-gone, pumped-fails}
use Rattle.vx_session.proofs.pumps.pump.Goals as goal

pub loop-init : goal.loop-init
loop-init g c = pumped-none g.L.Link c.args.pass c.args.conn c.args.chan c.args.link.now

pub loop-preserved-in-Empty : goal.loop-preserved-in-Empty
loop-preserved-in-Empty g c = pumped-empty c.loop.invariant c.take-back.ensures (ap given_shown c.in-Empty.is)

pub loop-preserved : goal.loop-preserved
loop-preserved g c =
    let i = c.in-Srq.interrupt in
    pumped-sent c.loop.invariant c.take-back.ensures (record { xid = i.xid; program = i.prog; version = i.vers; handle = handle_shown i.handle })
    (ap given_shown c.in-Srq.is) c.send_all.ensures.sends c.put_srq_record-len.ensures.record c.if-not-send_all.false

pub returns-in-Gone : goal.returns-in-Gone
returns-in-Gone g c = pumped-gone c.loop.invariant c.take-back.ensures (ap given_shown c.in-Gone.is)

pub returns-then-not-send_all : goal.returns-then-not-send_all
returns-then-not-send_all g c =
    let i = c.in-Srq.interrupt in
    pumped-fails c.loop.invariant c.take-back.ensures (record { xid = i.xid; program = i.prog; version = i.vers; handle = handle_shown i.handle })
    (ap given_shown c.in-Srq.is) c.send_all.ensures.sends c.put_srq_record-len.ensures.record c.if-not-send_all.true
