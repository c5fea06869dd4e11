use Rattle.std.proofs.Common.{[], ◌∷◌, refl}
use Rattle.vx_flow.specs.Event.{Down}
use Rattle.vx_group.specs.Laws.{group_after}
use Rattle.vx_488.specs.Steps.{Cut}
use Rattle.vx_session.specs.Origin.{origin}
use Rattle.vx_session.specs.Turning.{phase_at}
use Rattle.vx_session.proofs.Moments.{interleaved-moment, one-without}
use Rattle.vx_session.proofs.Making.{timely-still, turns}
use Rattle.vx_group.specs.Groups.{events_of}
use Rattle.vx_session.proofs.Owned.{own-phase, up-phase, may-one}
use Rattle.vx_session.proofs.turns.leave.Goals as goal

pub turn-pass-requires-clause-act : goal.turn-pass-requires-clause-act
turn-pass-requires-clause-act g c = λ log kept fits stands. (
  up-phase kept.interleaved c.args.conn (phase_at c.args.pass c.args.conn) c.requires.phase
      (own-phase c.phase_law.ensures c.args.pass log kept.interleaved c.args.conn (phase_at c.args.pass c.args.conn) fits stands.state refl),
  λ answer act' kept' did. may-one (events_of c.args.pass.own) (Down c.args.conn) c.requires.phase,
)

pub returns : goal.returns
returns g c =
    let t = c.turn-pass.ensures in
    let f = t.before.interleaved in
    let event = Down c.args.conn in
    record {
      placed = record { before = t.log; group = group_after f (event ∷ []) (Cut ∷ []) t.after.interleaved.state.moment };
      turns = turns (origin g.B.Bus (g.T.Turns.first c.args.turns.now)) 0 t
          (timely-still t.log f t.after.interleaved (event ∷ []) (Cut ∷ []) t.stood.state (one-without event f.state.moment refl) (interleaved-moment event f t.after.interleaved t.did));
      events = refl;
      steps = refl;
    }
