use Rattle.std.proofs.Common.{max, ap, subst, rules}
use Rattle.vx_calls.specs.declared.calls.Role.TheVariants as role
use Rattle.vx_calls.specs.Call.{call_shown}
use Rattle.vx_group.specs.Phases.{Idle, is_up}
use Rattle.vx_session.specs.Origin.{origin}
use Rattle.vx_session.specs.Acting.{last_ending}
use Rattle.vx_session.specs.Turning.{SessionComes}
use Rattle.vx_session.proofs.Making.{turns}
use Rattle.vx_session.proofs.Owned.{own-phase, idle-phase, may-come}
use Rattle.vx_session.proofs.Polled.{comes}
use Rattle.vx_session.proofs.turns.come.Goals as goal

pub turn-requires-clause-act : goal.turn-requires-clause-act
turn-requires-clause-act g c = λ log kept fits stands. (
  (
    idle-phase kept.interleaved c.args.worker.now.conn (own-phase c.phase_law.ensures c.args.pass log kept.interleaved c.args.worker.now.conn (Idle role.Core) fits stands.state c.requires.phase),
    c.requires.waits,
    c.requires.short,
    c.requires.room,
  ),
  λ answer act' kept' did.
      may-come c.args.pass c.args.worker.now.conn (ap is_up c.requires.phase) kept.interleaved (max kept.interleaved.state.moment c.args.now) (call_shown c.args.request.now.call.now)
      (g.B.Bus.means kept'.bus).moves (last_ending kept'.last),
)

pub returns-clause-comes : goal.returns-clause-comes
returns-clause-comes g c =
    let t = c.turn.ensures in
    let call = call_shown c.args.request.now.call.now in
    subst (λ room. SessionComes (origin g.B.Bus (g.T.Turns.first c.args.worker.now.turns.now)) c.args.now c.args.pass c.args.worker.now.conn c.args.request.now.xid call room c.turn.result.1 c.turn.result.0) (search rules)
    (comes (origin g.B.Bus (g.T.Turns.first c.args.worker.now.turns.now)) c.args.now c.args.pass c.turn.result.0 t.log t.before t.after c.args.worker.now.conn c.args.request.now.xid c.turn.new.act.reply.now c.turn.result.1
    call t.stood t.did.0 t.own (turns (origin g.B.Bus (g.T.Turns.first c.args.worker.now.turns.now)) c.args.now t))
