use Rattle.std.proofs.Common.{sym, ap, ◌∙◌, subst}
use Rattle.vx_gate.specs.PassView.{PassView}
use Rattle.vx_gate.specs.Turning.{MayTurn, Turned}
use Rattle.vx_desks.specs.Four.{at, put, Each}
use Rattle.vx_desks.specs.Passing.{passes_shown, IsOf}
use Rattle.vx_desks.specs.Standing.{gates_shown, firsts_shown}
use Rattle.vx_desks.proofs.Laws.Fours.{brought, put-back, at-put, each-at, each-put}
use Rattle.vx_desks.proofs.fleet.gates.Gates.turn.Goals as goal

pub turn-zero-requires : goal.turn-zero-requires
turn-zero-requires g c =
    let own = brought c.args.number (passes_shown c.args.passes) (passes_shown c.swapped-zero.result) c.swapped-zero.ensures in
    record {
      gate = ap (λ (p : PassView _). p.gate) own ∙ each-at IsOf c.args.number (passes_shown c.args.passes) (gates_shown c.args.self.now) c.requires.gates ∙ sym c.gate.ensures.gate;
      act = subst (λ k. MayTurn (g.K.Kept.stands k) g.K.Kept.may_add g.A.Act.asks g.A.Act.does g.A.Act.adds c.swapped-zero.result.zero c.args.act.now) (sym c.gate.ensures.first)
          (subst (λ p. MayTurn (g.K.Kept.stands (at c.args.number (firsts_shown c.args.self.now))) g.K.Kept.may_add g.A.Act.asks g.A.Act.does g.A.Act.adds p c.args.act.now) (sym own) c.requires.act);
    }

pub returns : goal.returns
returns g c =
    let passes = passes_shown c.args.passes in
    let own = brought c.args.number passes (passes_shown c.swapped-zero.result) c.swapped-zero.ensures in
    let last = put-back c.args.number passes (passes_shown c.swapped-zero.result) (passes_shown c.swapped.result) c.turn-zero.result.0 c.swapped-zero.ensures c.swapped.ensures in
    let here = ap (at c.args.number) last ∙ at-put c.args.number c.turn-zero.result.0 passes in
    record {
      turned = subst (λ p. Turned (g.K.Kept.stands (at c.args.number (firsts_shown c.args.self.now))) g.K.Kept.may_add g.A.Act.does g.A.Act.adds (at c.args.number passes) c.args.act.now c.turn-zero.result.1 c.turn-zero.new.act p) (sym here)
          (subst (λ p. Turned (g.K.Kept.stands (at c.args.number (firsts_shown c.args.self.now))) g.K.Kept.may_add g.A.Act.does g.A.Act.adds p c.args.act.now c.turn-zero.result.1 c.turn-zero.new.act c.turn-zero.result.0) own
          (subst (λ k. Turned (g.K.Kept.stands k) g.K.Kept.may_add g.A.Act.does g.A.Act.adds c.swapped-zero.result.zero c.args.act.now c.turn-zero.result.1 c.turn-zero.new.act c.turn-zero.result.0) c.gate.ensures.first c.turn-zero.ensures));
      others = last ∙ ap (λ x. put c.args.number x passes) (sym here);
      gates = subst (λ f. Each IsOf f (gates_shown c.args.self.now)) (sym last)
          (each-put IsOf c.args.number c.turn-zero.result.0 passes (gates_shown c.args.self.now) c.requires.gates
          (c.turn-zero.ensures.gate ∙ ap (λ (p : PassView _). p.gate) own ∙ each-at IsOf c.args.number passes (gates_shown c.args.self.now) c.requires.gates));
    }
