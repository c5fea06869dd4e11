use Rattle.std.proofs.Common.{◌≡◌, max, true, false, Some, [], ◌∷◌, refl, ap, ◌∙◌, subst, rules}
use Rattle.vx_calls.specs.Reply as reply
use Rattle.vx_gate.specs.History.{groups}
use Rattle.vx_flow.specs.Event.{Answer}
use Rattle.vx_flow.specs.InterleavedStep.{interleaved_step}
use Rattle.vx_group.specs.Groups.{events_of, StandsFor}
use Rattle.vx_calls.specs.declared.calls.Role.TheVariants as role
use Rattle.vx_group.specs.Phases.{Idle, Asked, is_up}
use Rattle.vx_group.specs.Laws.{group_after}
use Rattle.vx_488.specs.Steps.{Told, Cut}
use Rattle.vx_session.specs.Origin.{origin}
use Rattle.vx_session.specs.Placing.{behind}
use Rattle.vx_session.specs.Parts.{settled_events}
use Rattle.vx_session.specs.Turning.{phase_at, Settles}
use Rattle.vx_session.proofs.Moments.{interleaved-moment, one-moment}
use Rattle.vx_session.proofs.Laws.{chosen-own}
use Rattle.vx_session.proofs.Phased.{phase-more}
use Rattle.vx_session.proofs.Making.{now-is, timely-now, turns}
use Rattle.vx_session.proofs.Owned.{own-phase, may-one}
use Rattle.vx_session.proofs.Outcomes.{is-channel}
use Rattle.vx_session.proofs.Channels.{settled-channel}
use Rattle.vx_session.proofs.turns.settle.Goals as goal

pub turn-requires-clause-act : goal.turn-requires-clause-act
turn-requires-clause-act g c = λ log kept fits stands. (
  (
    (own-phase c.phase_law.ensures c.args.pass log kept.interleaved c.args.worker.now.conn (Asked c.requires.phase.0 true) fits stands.state c.requires.phase.1).1.dialed_is,
    c.requires.room,
  ),
  λ answer act' kept' did.
      may-one (events_of c.args.pass.own) (Answer c.args.worker.now.conn (max kept.interleaved.state.moment c.args.now) false (Some c.args.up) false (reply.Error answer.error)) (ap is_up c.requires.phase.1),
)

pub returns-clause-settles : goal.returns-clause-settles
returns-clause-settles g c =
    let t = c.turn.ensures in
    let did = t.did.0 in
    let f = t.before.interleaved in
    let conn = c.args.worker.now.conn in
    let now = max f.state.moment c.args.now in
    let answer = c.turn.result.1 in
    let event = Answer conn now false (Some c.args.up) false (reply.Error answer.error) in
    let group = group_after f (event ∷ []) (Cut ∷ Told now ∷ []) t.after.interleaved.state.moment in
    let stands = subst (λ log. StandsFor t.after.interleaved (groups log)) t.seen t.stands_now.state in
    subst (λ room. Settles (origin g.B.Bus (g.T.Turns.first c.args.worker.now.turns.now)) c.args.now c.args.pass conn c.args.xid c.args.up room answer c.turn.result.0) (search rules)
    (record {
      placed = record { before = t.log; group = group };
      turns = turns (origin g.B.Bus (g.T.Turns.first c.args.worker.now.turns.now)) c.args.now t
          (timely-now c.args.now t.log f t.after.interleaved (event ∷ []) (Cut ∷ Told now ∷ []) t.stood.state (one-moment event now refl) (interleaved-moment event f t.after.interleaved did.answers));
      events = ap (λ n. settled_events conn n c.args.up answer.error) (now-is c.args.now t.log f group t.stood.state);
      steps = ap (λ n. Cut ∷ Told n ∷ []) (now-is c.args.now t.log f group t.stood.state);
      keeps = interleaved-moment event f t.after.interleaved did.answers ∙ now-is c.args.now t.log f group t.stood.state;
      error_is = did.error_is;
      chan_is = is-channel (behind c.args.pass.number (record { before = t.log; group = group })) t.after.interleaved conn c.args.up answer.chan stands did.chan_is
          (λ came. settled-channel f t.after.interleaved (groups t.log) conn now (reply.Error answer.error) t.stood.state
          (subst (λ up. interleaved_step f (Answer conn now false (Some up) false (reply.Error answer.error)) ≡ Some t.after.interleaved) came did.answers));
      stands = did.stands;
      phase = phase-more c.args.pass.own c.turn.result.0.own group conn t.own ∙ chosen-own conn (Idle role.Core) (phase_at c.args.pass conn);
    })
