use Rattle.vx_group.specs.Laws.{group_after}
use Rattle.std.proofs.Common.{refl}
use Rattle.vx_session.specs.Origin.{origin}
use Rattle.vx_session.specs.Acting.{connect_events, connect_steps}
use Rattle.vx_session.proofs.Making.{turns}
use Rattle.vx_session.proofs.Outcomes.{joins-timely, joins-come}
use Rattle.vx_session.proofs.turns.join.Goals as goal

pub returns : goal.returns
returns g c =
    let t = c.turn.ensures in
    let answer = c.turn.result.1 in
    record {
      placed = record { before = t.log; group = group_after t.before.interleaved (connect_events c.args.role answer) (connect_steps answer) t.after.interleaved.state.moment };
      turns = turns (origin g.B.Bus (g.T.Turns.first c.args.turns.now)) 0 t (joins-timely t.log t.before t.after c.args.role answer t.stood.state t.did);
      events = refl;
      steps = refl;
      come = joins-come c.args.pass c.turn.result.0 t.log t.before t.after c.args.role answer t.stood.state t.did t.own;
    }
