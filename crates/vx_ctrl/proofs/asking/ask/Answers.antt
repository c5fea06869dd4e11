use Rattle.std.proofs.Common.{Some, sym, subst}
use Rattle.vx_plan.specs.declared.tasks.Next.{Next}
use Rattle.vx_plan.specs.Plan.{AnyByte}
use Rattle.vx_plan.specs.Places.{slot_wanted}
use Rattle.vx_ctrl.specs.declared.asking.BusAnswer.{BusAnswer}
use Rattle.vx_ctrl.specs.Asking.{TurnAsks}
use Rattle.vx_ctrl.proofs.Answered.{got-asks}
use Rattle.vx_ctrl.proofs.asking.ask.Goals as goal

pub returns-in-Get : goal.returns-in-Get
returns-in-Get g c =
    let Told : BusAnswer → Type 0 = λ asked. TurnAsks g.B.Bus.means g.B.Bus.through (Some AnyByte) asked c.args.bus.now c.get.new.self in
    let Wanted : Next → Type 0 = λ next. TurnAsks g.B.Bus.means g.B.Bus.through (slot_wanted next c.args.bytes.now c.args.moved) c.got.result c.args.bus.now c.get.new.self in
    subst Wanted (sym c.in-Get.is)
    (subst Told (sym c.got.ensures) (got-asks g.B.Bus.means g.B.Bus.through c.get.result _ _ c.get.ensures.stepped c.get.ensures.through))
