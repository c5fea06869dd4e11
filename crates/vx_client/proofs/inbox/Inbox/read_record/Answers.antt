use Rattle.vx_client.specs.Ending.{None_yet}
use Rattle.vx_client.proofs.Ending.{received-both}
use Rattle.vx_client.proofs.Reading.{read-none, read-refilled, read-fed, read-whole, read-long_header, read-long_stream}
use Rattle.vx_client.proofs.inbox.Inbox.read_record.Goals as goal

pub loop-self-init : goal.loop-self-init
loop-self-init g c = (read-none g.L.Link.stands g.L.Link.left g.L.Link.receive_faults g.L.Link.send_faults c.args.link.now c.args.self.now c.requires, None_yet)

pub returns-then-left-eq0-clause-brought : goal.returns-then-left-eq0-clause-brought
returns-then-left-eq0-clause-brought g c =
    read-long_stream g.L.Link.stands g.L.Link.left g.L.Link.receive_faults g.L.Link.send_faults _ _ _ c.refill.new.self c.loop-self.left
    (read-refilled g.L.Link.stands g.L.Link.left g.L.Link.receive_faults g.L.Link.send_faults _ _ _ _ c.loop-self.self c.refill.new.self c.loop-self.left
    c.loop-self.invariant.0 c.in-Some.ensures.brought c.in-Some.ensures.reply c.in-Some.ensures.receives c.in-Some.ensures.sends)
    c.if-left-eq0.true c.in-Some.ensures.brought.3 c.in-Some.ensures.few

pub loop-self-preserved : goal.loop-self-preserved
loop-self-preserved g c = (
  read-fed c.end_law.ensures g.L.Link.stands g.L.Link.left g.L.Link.receive_faults g.L.Link.send_faults _ _ _ c.refill.new.self c.feed-fed.new.self c.loop-self.left c.feed-fed.result.took
      (read-refilled g.L.Link.stands g.L.Link.left g.L.Link.receive_faults g.L.Link.send_faults _ _ _ _ c.loop-self.self c.refill.new.self c.loop-self.left
      c.loop-self.invariant.0 c.in-Some.ensures.brought c.in-Some.ensures.reply c.in-Some.ensures.receives c.in-Some.ensures.sends)
      (record {
        reply = c.feed-fed.ensures.reply;
        took = c.feed-fed.ensures.took;
        kept = c.feed-fed.ensures.kept;
        some = c.feed-fed.ensures.some_took;
        within = c.feed-fed.ensures.within;
      })
      (cc),
  received-both g.L.Link.receives _ _ _ c.loop-self.invariant.1 c.in-Some.ensures.told,
)

pub returns-in-Whole-clause-brought : goal.returns-in-Whole-clause-brought
returns-in-Whole-clause-brought g c =
    read-whole c.end_law.ensures g.L.Link.stands g.L.Link.left g.L.Link.receive_faults g.L.Link.send_faults _ _ _ c.refill.new.self c.feed-fed.new.self c.loop-self.left c.feed-fed.result.took
    (read-refilled g.L.Link.stands g.L.Link.left g.L.Link.receive_faults g.L.Link.send_faults _ _ _ _ c.loop-self.self c.refill.new.self c.loop-self.left
    c.loop-self.invariant.0 c.in-Some.ensures.brought c.in-Some.ensures.reply c.in-Some.ensures.receives c.in-Some.ensures.sends)
    (record {
      reply = c.feed-fed.ensures.reply;
      took = c.feed-fed.ensures.took;
      kept = c.feed-fed.ensures.kept;
      some = c.feed-fed.ensures.some_took;
      within = c.feed-fed.ensures.within;
    })
    (cc) c.in-Some.ensures.few

pub returns-in-TooLong-clause-brought : goal.returns-in-TooLong-clause-brought
returns-in-TooLong-clause-brought g c =
    read-long_header c.end_law.ensures g.L.Link.stands g.L.Link.left g.L.Link.receive_faults g.L.Link.send_faults _ _ _ c.refill.new.self c.feed-fed.new.self c.loop-self.left c.feed-fed.result.took
    (read-refilled g.L.Link.stands g.L.Link.left g.L.Link.receive_faults g.L.Link.send_faults _ _ _ _ c.loop-self.self c.refill.new.self c.loop-self.left
    c.loop-self.invariant.0 c.in-Some.ensures.brought c.in-Some.ensures.reply c.in-Some.ensures.receives c.in-Some.ensures.sends)
    (record {
      reply = c.feed-fed.ensures.reply;
      took = c.feed-fed.ensures.took;
      kept = c.feed-fed.ensures.kept;
      some = c.feed-fed.ensures.some_took;
      within = c.feed-fed.ensures.within;
    })
    (cc) c.in-Some.ensures.few

pub returns-in-End-clause-told : goal.returns-in-End-clause-told
returns-in-End-clause-told g c = record { before = c.loop-self.link; received = c.loop-self.invariant.1; last = c.in-End.ensures.told }

pub returns-in-Failed-clause-told : goal.returns-in-Failed-clause-told
returns-in-Failed-clause-told g c = record { before = c.loop-self.link; received = c.loop-self.invariant.1; last = c.in-Failed.ensures.told }

pub returns-then-left-eq0-clause-told : goal.returns-then-left-eq0-clause-told
returns-then-left-eq0-clause-told g c = received-both g.L.Link.receives _ _ _ c.loop-self.invariant.1 c.in-Some.ensures.told

pub returns-in-Whole-clause-told : goal.returns-in-Whole-clause-told
returns-in-Whole-clause-told g c = received-both g.L.Link.receives _ _ _ c.loop-self.invariant.1 c.in-Some.ensures.told

pub returns-in-TooLong-clause-told : goal.returns-in-TooLong-clause-told
returns-in-TooLong-clause-told g c = received-both g.L.Link.receives _ _ _ c.loop-self.invariant.1 c.in-Some.ensures.told
