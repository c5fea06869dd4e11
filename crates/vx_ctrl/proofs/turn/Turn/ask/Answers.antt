use Rattle.std.proofs.Common.{Option, sym, subst}
use Rattle.vx_plan.specs.Plan.{Slot}
use Rattle.vx_plan.specs.Places.{IsReached, IsNextMove, slot_wanted}
use Rattle.vx_ctrl.specs.Turns.{TurnState}
use Rattle.vx_ctrl.specs.Asking.{TurnAsks}
use Rattle.vx_ctrl.proofs.Going.{plain-next}
use Rattle.vx_ctrl.proofs.turn.Turn.ask.Goals as goal

pub next_move-next-requires-clause-reached : goal.next_move-next-requires-clause-reached
next_move-next-requires-clause-reached g c =
    let r = c.requires.reached in
    let P : TurnState → Type 0 = λ turn. IsReached turn.task turn.place in
    subst P (sym c.self.view_is) (c.args.bytes.now, r.0, r.1, r.2)

pub ask-requires-clause-own : goal.ask-requires-clause-own
ask-requires-clause-own g c =
    let r = c.requires.reached in
    let P : TurnState → Type 0 = λ turn. IsNextMove turn.task turn.place c.next_move-next.result in
    plain-next c.args.self.now.task c.args.bytes.now r.0 r.1 c.args.self.now.place c.requires.plain r.2 c.next_move-next.result
    (subst P c.self.view_is c.next_move-next.ensures c.args.bytes.now r.0 r.1 r.2)

pub returns : goal.returns
returns g c = λ ts left reaches.
    let P : TurnState → Type 0 = λ turn. IsNextMove turn.task turn.place c.next_move-next.result in
    let Q : TurnState → Type 0 = λ turn. TurnAsks g.B.Bus.means g.B.Bus.through (slot_wanted c.next_move-next.result c.args.bytes.now turn.place.moved) c.ask.result c.args.bus.now c.ask.new.bus in
    let W : Option Slot → Type 0 = λ slot. TurnAsks g.B.Bus.means g.B.Bus.through slot c.ask.result c.args.bus.now c.ask.new.bus in
    subst W (subst P c.self.view_is c.next_move-next.ensures c.args.bytes.now ts left reaches) (subst Q c.self.view_is c.ask.ensures)
