use Rattle.vx_srq.specs.Shown.{given_shown}
use Rattle.vx_rules.specs.State.{connection_at}
use Rattle.vx_group.specs.Laws.{group_after}
use Rattle.vx_session.specs.Acting.{take_events, take_steps}
use Rattle.vx_session.specs.Origin.{origin}
use Rattle.vx_session.proofs.Making.{turns}
use Rattle.vx_session.proofs.Outcomes.{takes-timely, takes-from, takes-steps}
use Rattle.vx_session.proofs.turns.take.Goals as goal

pub returns : goal.returns
returns g c =
    let t = c.turn.ensures in
    let f = t.before.interleaved in
    let given = given_shown c.turn.result.1 in
    record {
      placed = record {
        before = t.log;
        group = group_after f (take_events (connection_at f.state.tables c.args.conn) c.args.conn c.args.chan given) (take_steps (connection_at f.state.tables c.args.conn)) t.after.interleaved.state.moment;
      };
      turns = turns (origin g.B.Bus (g.T.Turns.first c.args.turns.now)) 0 t (takes-timely t.log t.before t.after c.args.conn c.args.chan given t.stood.state t.did);
      taken = takes-from t.log t.before t.after c.args.conn c.args.chan given t.stood.state t.did;
      steps = takes-steps (connection_at f.state.tables c.args.conn) c.args.conn c.args.chan given;
    }
