use Rattle.vx_door.specs.Going.{Not_yet}
use Rattle.vx_stream.proofs.Wholes.{whole-sent, whole-stops, whole-junk}
use Rattle.vx_stream.proofs.pieces.answer_whole.Goals as goal

pub returns-in-None-clause-answers : goal.returns-in-None-clause-answers
returns-in-None-clause-answers g c =
    whole-junk g.S.Answers.does g.L.Link c.args.server c.answer-server.result.0 c.args.link.now c.whole-message.result.now c.args.incoming.now.kept
    c.answer-server.new.reply c.answer-server.result.1 c.whole-message.ensures.bytes c.answer-server.ensures.does c.in-None.is

pub returns-in-Some-clause-answers : goal.returns-in-Some-clause-answers
returns-in-Some-clause-answers g c =
    whole-sent g.S.Answers.does g.L.Link c.args.server c.answer-server.result.0 c.args.link.now c.whole-message.result.now c.args.incoming.now.kept
    c.answer-server.new.reply c.answer-server.result.1 c.whole-message.ensures.bytes c.answer-server.ensures.does _ c.in-Some.len c.send_all.result
    c.in-Some.is c.if-send_all.true c.send_all.ensures.sends

pub returns-in-Some-2-clause-answers : goal.returns-in-Some-2-clause-answers
returns-in-Some-2-clause-answers g c =
    whole-stops g.S.Answers.does g.L.Link c.args.server c.answer-server.result.0 c.args.link.now c.whole-message.result.now c.args.incoming.now.kept
    c.answer-server.new.reply c.answer-server.result.1 c.whole-message.ensures.bytes c.answer-server.ensures.does _ c.in-Some.len c.send_all.result
    c.in-Some.is c.if-send_all.false c.send_all.ensures.sends

pub returns-in-None-clause-went : goal.returns-in-None-clause-went
returns-in-None-clause-went g c = Not_yet _
