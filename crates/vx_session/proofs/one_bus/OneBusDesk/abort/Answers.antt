use Rattle.std.proofs.Common.{refl, rules, arith}
use Rattle.vx_session.specs.Origin.{origin}
use Rattle.vx_session.specs.Dialing.{dial_shown}
use Rattle.vx_session.proofs.Laws.Recorded.{aborts-does}
use Rattle.vx_session.proofs.one_bus.OneBusDesk.abort.Goals as goal

pub returns-clause-aborts : goal.returns-clause-aborts
returns-clause-aborts g c = (
  record {
    role = refl;
    conn = refl;
    later = omega arith;
    has = record {
      pass = c.in-Some.pass;
      pass' = c.abort-pass.result.0;
      had = search rules;
      has = refl;
      serves = aborts-does (origin g.B.Bus (g.T.Turns.first c.args.self.worker.turns.now)) (g.C.Clock.told c.args.self.clock.now) c.in-Some.pass c.args.self.worker.conn (dial_shown g.D.Dial c.args.self.dial.now)
          g.C.Clock.tells c.args.self.clock.now c.args.xid c.args.lid c.abort-pass.new.reply c.abort-pass.result.1 c.abort-pass.result.0 c.abort-pass.ensures.aborts;
    };
  },
  refl,
  refl,
  refl,
  refl,
)
