use Rattle.vx_client.specs.Ending.{Not_yet}
use Rattle.vx_client.proofs.Sending.{sent-none, sent-more, sent-stops, sent-all}
use Rattle.vx_client.proofs.Ending.{sent-on, sent-broken, sent-whole}
use Rattle.vx_client.proofs.outbox.send_all.Goals as goal

pub loop-done-init : goal.loop-done-init
loop-done-init g c = (sent-none g.L.Link.stands g.L.Link.left g.L.Link.receive_faults g.L.Link.send_faults c.args.link.now c.args.text.now, Not_yet)

pub loop-done-preserved : goal.loop-done-preserved
loop-done-preserved g c = (
  sent-more g.L.Link.stands g.L.Link.left g.L.Link.receive_faults g.L.Link.send_faults _ _ _ c.args.text.now c.loop-done.done c.in-Took.count c.loop-done.invariant.0
      c.in-Took.ensures.took.1 c.in-Took.ensures.took.2 c.in-Took.ensures.left c.in-Took.ensures.apart c.in-Took.ensures.counted,
  sent-on g.L.Link.sends _ _ _ c.args.text.now c.loop-done.done c.in-Took.count c.loop-done.invariant.1 c.loop-done-test.true c.in-Took.ensures.sends,
)

pub returns-in-Failed-clause-sent : goal.returns-in-Failed-clause-sent
returns-in-Failed-clause-sent g c =
    sent-stops g.L.Link.stands g.L.Link.left g.L.Link.receive_faults g.L.Link.send_faults _ _ _ c.args.text.now c.loop-done.done c.loop-done.invariant.0
    c.in-Failed.ensures.failed.0 c.in-Failed.ensures.failed.1

pub returns-clause-sent : goal.returns-clause-sent
returns-clause-sent g c =
    sent-all g.L.Link.stands g.L.Link.left g.L.Link.receive_faults g.L.Link.send_faults _ _ c.args.text.now c.loop-done.done c.loop-done.invariant.0 c.loop-done-test.false

pub returns-in-Failed-clause-told : goal.returns-in-Failed-clause-told
returns-in-Failed-clause-told g c = sent-broken g.L.Link.sends _ _ _ c.args.text.now c.loop-done.done c.loop-done.invariant.1 c.loop-done-test.true c.in-Failed.ensures.sends

pub returns-clause-told : goal.returns-clause-told
returns-clause-told g c =
    sent-whole g.L.Link.sends _ _ c.args.text.now c.loop-done.done c.loop-done.invariant.1 c.loop-done.invariant.0.within c.loop-done-test.false
