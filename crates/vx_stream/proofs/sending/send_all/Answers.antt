use Rattle.vx_door.specs.Going.{Not_yet, By_send}
use Rattle.vx_stream.proofs.Sends.{sent-none, sent-more, sent-stops, sent-all}
use Rattle.vx_stream.proofs.sending.send_all.Goals as goal

pub loop-sent-init : goal.loop-sent-init
loop-sent-init g c = (sent-none g.L.Link c.args.link.now c.args.bytes.now, Not_yet _)

pub loop-sent-preserved : goal.loop-sent-preserved
loop-sent-preserved g c = (
  sent-more g.L.Link _ _ _ c.args.bytes.now c.loop-sent.sent c.in-Took.count c.loop-sent.invariant.0
      c.in-Took.ensures.took.1 c.in-Took.ensures.took.2
      (record { left = c.in-Took.ensures.left; peers = c.in-Took.ensures.peers; receives = c.in-Took.ensures.apart; sends = c.in-Took.ensures.counted })
      c.in-Took.ensures.sends,
  By_send _ _ _ _ _ c.loop-sent.invariant.1 c.in-Took.ensures.sends,
)

pub returns-in-Failed-clause-sends : goal.returns-in-Failed-clause-sends
returns-in-Failed-clause-sends g c =
    sent-stops g.L.Link _ _ _ c.args.bytes.now c.loop-sent.sent c.loop-sent.invariant.0 c.loop-sent-test.true
    c.in-Failed.ensures.failed.0 c.in-Failed.ensures.failed.1
    (record { left = c.in-Failed.ensures.left; peers = c.in-Failed.ensures.peers; receives = c.in-Failed.ensures.apart; sends = c.in-Failed.ensures.counted })
    c.in-Failed.ensures.sends

pub returns-clause-sends : goal.returns-clause-sends
returns-clause-sends g c =
    sent-all g.L.Link _ _ c.args.bytes.now c.loop-sent.sent c.loop-sent.invariant.0 c.loop-sent-test.false

pub returns-in-Failed-clause-went : goal.returns-in-Failed-clause-went
returns-in-Failed-clause-went g c = By_send _ _ _ _ _ c.loop-sent.invariant.1 c.in-Failed.ensures.sends

pub returns-clause-went : goal.returns-clause-went
returns-clause-went g c = c.loop-sent.invariant.1
