use Rattle.std.proofs.Common.{sym, subst}
use Rattle.vx_calls.specs.declared.targets.Target.{Target}
use Rattle.vx_calls.specs.declared.targets.Target.TheVariants.{Device}
use Rattle.vx_plan.specs.declared.tasks.Task.TheVariants.{Write}
use Rattle.vx_plan.specs.declared.tasks.Next.{Next}
use Rattle.vx_plan.specs.Places.{IsNextMove}
use Rattle.vx_plan.proofs.Nexts.{next-write-interface, next-write-device}
use Rattle.vx_plan.proofs.tasks.next_of_write.Goals as goal

pub returns-in-Interface : goal.returns-in-Interface
returns-in-Interface c =
    subst (λ (t : Target). IsNextMove (Write t c.args.len c.args.end) c.args.place.now c.next_put-put.result) (sym c.in-Interface.is)
    (next-write-interface c.args.len c.args.end c.args.place.now c.next_put-put.result c.next_put-put.ensures)

pub returns-in-Device : goal.returns-in-Device
returns-in-Device c =
    let next = next-write-device c.in-Device.p c.in-Device.s c.args.len c.args.end c.args.place.now c.front_step.result c.next_put-put.result
    c.front_step.ensures c.next_put-put.ensures in
    subst (λ (t : Target). IsNextMove (Write t c.args.len c.args.end) c.args.place.now c.or.result) (sym c.in-Device.is)
    (subst (λ (m : Next). IsNextMove (Write (Device c.in-Device.p c.in-Device.s) c.args.len c.args.end) c.args.place.now m) (sym c.or.ensures) next)
