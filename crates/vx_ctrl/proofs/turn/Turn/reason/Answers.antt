use Rattle.std.proofs.Common.{ap, sym, ◌∙◌}
use Rattle.vx_ctrl.specs.Turns.{turn_reason, task_reason}
use Rattle.vx_ctrl.proofs.Laws.Fares.{reason-told}
use Rattle.vx_ctrl.proofs.turn.Turn.reason.Goals as goal

pub returns-in-Read-clause-made : goal.returns-in-Read-clause-made
returns-in-Read-clause-made c = λ w bytes made left plain has.
    c.read_reason.ensures
    ∙ ap (λ task. task_reason task c.self.inside.place) (sym c.in-Read.is)
    ∙ ap turn_reason c.self.view_is
    ∙ reason-told c.args.self.now.task bytes made left c.args.self.now.place plain has.reaches
