use Rattle.std.proofs.Common.{max, [], ◌∷◌, refl, ap, subst}
use Rattle.vx_488.specs.Steps.{Told, Cut}
use Rattle.vx_488.specs.Walks.{Walk}
use Rattle.vx_flow.specs.Event.{Sample}
use Rattle.vx_group.specs.Laws.{group_after}
use Rattle.vx_session.specs.Origin.{origin}
use Rattle.vx_session.proofs.Moments.{interleaved-moment, one-moment}
use Rattle.vx_session.proofs.Making.{now-is, timely-now, turns}
use Rattle.vx_session.proofs.turns.sample.Goals as goal

pub returns : goal.returns
returns g c =
    let t = c.turn-pass.ensures in
    let f = t.before.interleaved in
    let now = max f.state.moment c.args.now in
    let level = g.B.Bus.srq_level t.after.bus in
    let event = Sample now level in
    let group = group_after f (event ∷ []) (Cut ∷ Told now ∷ []) t.after.interleaved.state.moment in
    let same = now-is c.args.now t.log f group t.stood.state in
    record {
      placed = record { before = t.log; group = group };
      turns = turns (origin g.B.Bus (g.T.Turns.first c.args.turns.now)) c.args.now t
          (timely-now c.args.now t.log f t.after.interleaved (event ∷ []) (Cut ∷ Told now ∷ []) t.stood.state (one-moment event now refl) (interleaved-moment event f t.after.interleaved t.did.0));
      core = t.before;
      became = t.stood;
      bus = t.after.bus;
      walk = subst (λ n. Walk g.B.Bus.means g.B.Bus.through t.before.bus (Cut ∷ Told n ∷ []) t.after.bus) same t.did.1;
      events = ap (λ n. Sample n level ∷ []) same;
      steps = ap (λ n. Cut ∷ Told n ∷ []) same;
    }
