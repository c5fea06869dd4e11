use Rattle.std.proofs.Common.{sym, ap, ◌∙◌, subst}
use Rattle.vx_plan.specs.declared.tasks.Next.{Next}
use Rattle.vx_plan.specs.Places.{IsReached, IsNextMove, slot_wanted}
use Rattle.vx_ctrl.specs.Turns.{TurnState}
use Rattle.vx_ctrl.specs.Runs.{behind_slice_of}
use Rattle.vx_ctrl.proofs.Going.{something-left}
use Rattle.vx_ctrl.proofs.turn.Turn.behind_slice.Goals as goal

pub next_move-requires-clause-reached : goal.next_move-requires-clause-reached
next_move-requires-clause-reached c =
    let P : TurnState → Type 0 = λ turn. IsReached turn.task turn.place in
    subst P (sym c.self.view_is) c.requires.reached

pub returns-in-Finished : goal.returns-in-Finished
returns-in-Finished c = λ bytes ts left reaches.
    let P : TurnState → Type 0 = λ turn. IsNextMove turn.task turn.place c.next_move.result in
    let wanted = subst P c.self.view_is c.next_move.ensures bytes ts left reaches in
    ap (λ (next : Next). behind_slice_of (slot_wanted next bytes c.args.self.now.place.moved)) (sym c.in-Finished.is) ∙ ap behind_slice_of wanted

pub returns-in_default : goal.returns-in_default
returns-in_default c = λ bytes ts left reaches.
    let P : TurnState → Type 0 = λ turn. IsNextMove turn.task turn.place c.next_move.result in
    let wanted = subst P c.self.view_is c.next_move.ensures bytes ts left reaches in
    sym (something-left c.next_move.result bytes c.args.self.now.place.moved c.in_default.not-Finished) ∙ ap behind_slice_of wanted
