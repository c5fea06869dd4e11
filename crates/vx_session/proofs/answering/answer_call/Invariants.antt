use Rattle.vx_calls.specs.Call.{call_shown}
use Rattle.vx_session.specs.Origin.{origin}
use Rattle.vx_session.proofs.Calling.{Polling}
use Rattle.vx_session.proofs.answering.answer_call.Given as goal

abbrev pub invariant-loop : goal.invariant-loop
invariant-loop g l = Polling (origin g.B.Bus (g.T.Turns.first l.worker.turns.now)) g.C.Clock.tells g.C.Clock.told l.fn.clock l.clock l.fn.dial l.dial l.fn.pass l.worker.conn l.request.xid (call_shown l.request.call.now) l.reply l.end l.pass
