use Rattle.std.proofs.Common.{[], ◌∷◌, refl, ap, ◌∙◌, subst, rules}
use Rattle.vx_calls.specs.declared.calls.Role.TheVariants as role
use Rattle.vx_flow.specs.Event.{Abort}
use Rattle.vx_group.specs.Phases.{Idle, is_up}
use Rattle.vx_group.specs.Laws.{group_after}
use Rattle.vx_488.specs.Steps.{Cut}
use Rattle.vx_session.specs.Origin.{origin}
use Rattle.vx_session.specs.Turning.{SessionAborts}
use Rattle.vx_session.proofs.Moments.{interleaved-moment, one-without}
use Rattle.vx_session.proofs.Phased.{phase-more}
use Rattle.vx_session.proofs.Making.{timely-still, turns}
use Rattle.vx_rules.proofs.Laws.{role-lives}
use Rattle.vx_group.specs.Groups.{events_of}
use Rattle.vx_session.proofs.Owned.{own-phase, may-one}
use Rattle.vx_session.proofs.turns.abort.Goals as goal

pub turn-requires-clause-act : goal.turn-requires-clause-act
turn-requires-clause-act g c = λ log kept fits stands. (
  (
    role-lives kept.interleaved.state.tables c.args.conn role.Abort (own-phase c.phase_law.ensures c.args.pass log kept.interleaved c.args.conn (Idle role.Abort) fits stands.state c.requires.phase).0,
    c.requires.room,
  ),
  λ answer act' kept' did. may-one (events_of c.args.pass.own) (Abort c.args.conn c.args.lid answer.error) (ap is_up c.requires.phase),
)

pub returns-clause-aborts : goal.returns-clause-aborts
returns-clause-aborts g c =
    let t = c.turn.ensures in
    let did = t.did.0 in
    let f = t.before.interleaved in
    let answer = c.turn.result.1 in
    let event = Abort c.args.conn c.args.lid answer.error in
    let group = group_after f (event ∷ []) (Cut ∷ []) t.after.interleaved.state.moment in
    subst (λ room. SessionAborts (origin g.B.Bus (g.T.Turns.first c.args.turns.now)) c.args.pass c.args.conn c.args.lid c.args.xid room answer c.turn.result.0) (search rules)
    (record {
      placed = record { before = t.log; group = group };
      turns = turns (origin g.B.Bus (g.T.Turns.first c.args.turns.now)) 0 t
          (timely-still t.log f t.after.interleaved (event ∷ []) (Cut ∷ []) t.stood.state (one-without event f.state.moment refl) (interleaved-moment event f t.after.interleaved did.aborts));
      events = refl;
      steps = refl;
      stands = did.stands;
      phase = phase-more c.args.pass.own c.turn.result.0.own group c.args.conn t.own ∙ c.requires.phase;
    })
