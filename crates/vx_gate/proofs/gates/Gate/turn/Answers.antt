use Rattle.std.proofs.Common.{sym, subst}
use Rattle.vx_gate.specs.PassView.{PassView}
use Rattle.vx_gate.specs.Turning.{MayTurn, Turned}
use Rattle.vx_gate.proofs.Outcomes.{seated, turned}
use Rattle.vx_gate.proofs.gates.Gate.turn.Goals as goal

pub returns : goal.returns
returns g c =
    let shown = c.into_seat-place.ensures.shown in
    let is = c.into_seat-place.ensures.is_pass in
    let s = g.K.Kept.stands c.args.self.now.table.shared.key.value in
    let m = g.K.Kept.may_add in
    let a = g.A.Act in
    subst (λ (t : PassView g.row.K-Group.Denot × PassView g.row.K-Group.Denot). Turned s m a.does a.adds t.0 c.args.act.now c.run_and_count-answer.result c.run_and_count-answer.new.act t.1)
    (λ i. (shown i, sym c.of.ensures i))
    (turned s m a.does a.adds _ _ _ _ _ _ _ _ _ is (seated _ _ _ shown is c.requires.gate c.args.self.now.sized.0).0
    c.draw-ticket.ensures.same c.take.ensures.same c.run_and_count-answer.ensures.same c.serve.ensures.same
    c.draw-ticket.ensures.drawn c.take.ensures.took c.run_and_count-answer.ensures.ran c.serve.ensures.idle
    a.asks (subst (λ p. MayTurn s m a.asks a.does a.adds p c.args.act.now) (sym shown) c.requires.act))
