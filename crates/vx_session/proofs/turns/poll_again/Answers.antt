use Rattle.std.proofs.Common.{max, ap, subst, rules}
use Rattle.vx_group.specs.Phases.{Asked, is_up}
use Rattle.vx_session.specs.Origin.{origin}
use Rattle.vx_session.specs.Acting.{last_ending}
use Rattle.vx_session.specs.Turning.{PollsAgain}
use Rattle.vx_session.proofs.Making.{turns}
use Rattle.vx_session.proofs.Owned.{own-phase, asked-phase, may-poll}
use Rattle.vx_session.proofs.Polled.{polls-again}
use Rattle.vx_session.proofs.turns.poll_again.Goals as goal

pub turn-requires-clause-act : goal.turn-requires-clause-act
turn-requires-clause-act g c = λ log kept fits stands. (
  (
    asked-phase kept.interleaved c.args.worker.now.conn c.requires.phase.0 c.requires.phase.1
        (own-phase c.phase_law.ensures c.args.pass log kept.interleaved c.args.worker.now.conn (Asked c.requires.phase.0 c.requires.phase.1) fits stands.state c.requires.phase.2),
    c.requires.room,
  ),
  λ answer act' kept' did.
      may-poll c.args.pass c.args.worker.now.conn (ap is_up c.requires.phase.2) kept.interleaved (max kept.interleaved.state.moment c.args.now) (g.B.Bus.means kept'.bus).moves
      (last_ending kept'.last),
)

pub returns-clause-polls : goal.returns-clause-polls
returns-clause-polls g c = λ call dialed phase.
    let t = c.turn.ensures in
    subst (λ room. PollsAgain (origin g.B.Bus (g.T.Turns.first c.args.worker.now.turns.now)) c.args.now c.args.pass c.args.worker.now.conn c.args.xid call dialed room c.turn.result.1 c.turn.result.0) (search rules)
    (polls-again (origin g.B.Bus (g.T.Turns.first c.args.worker.now.turns.now)) c.args.now c.args.pass c.turn.result.0 t.log t.before t.after c.args.worker.now.conn c.args.xid c.turn.new.act.reply.now c.turn.result.1
    c.phase_law.ensures call dialed t.fits t.stood t.did.0 t.own (turns (origin g.B.Bus (g.T.Turns.first c.args.worker.now.turns.now)) c.args.now t) phase)
