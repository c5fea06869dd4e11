use Rattle.std.proofs.Common.{ap, ◌∙◌}
use Rattle.vx_ctrl.specs.Turns.{TurnState}
use Rattle.vx_ctrl.proofs.Laws.Fares.{moved-told}
use Rattle.vx_ctrl.proofs.turn.Turn.moved.Goals as goal

pub returns-clause-made : goal.returns-clause-made
returns-clause-made c = λ w bytes made left plain has.
    ap (λ (turn : TurnState). turn.place.moved) c.self.view_is
    ∙ moved-told c.args.self.now.task bytes made left c.args.self.now.place plain has.reaches
