use Rattle.std.proofs.Common.{ℕ, sym, subst}
use Rattle.vx_calls.specs.declared.targets.Target.{Target}
use Rattle.vx_calls.specs.declared.targets.Target.TheVariants.{Device}
use Rattle.vx_plan.specs.declared.tasks.Task.TheVariants.{Read}
use Rattle.vx_plan.specs.declared.tasks.Next.{Next}
use Rattle.vx_plan.specs.declared.tasks.Next.TheVariants.{Finished}
use Rattle.vx_plan.specs.Places.{IsNextMove}
use Rattle.vx_plan.proofs.Nexts.{next-read-none, next-read-interface, next-read-device}
use Rattle.vx_plan.proofs.tasks.next_of_read.Goals as goal

pub returns-then-max-eq0 : goal.returns-then-max-eq0
returns-then-max-eq0 c =
    subst (λ (max : ℕ). IsNextMove (Read c.args.t max c.args.stop) c.args.place.now Finished) (sym c.if-max-eq0.true)
    (next-read-none c.args.t c.args.stop c.args.place.now)

pub returns-in-Interface : goal.returns-in-Interface
returns-in-Interface c =
    subst (λ (t : Target). IsNextMove (Read t c.args.max c.args.stop) c.args.place.now c.next_get-get.result) (sym c.in-Interface.is)
    (next-read-interface c.args.max c.args.stop c.args.place.now c.next_get-get.result c.if-max-eq0.false c.next_get-get.ensures)

pub returns-in-Device : goal.returns-in-Device
returns-in-Device c =
    let next = next-read-device c.in-Device.p c.in-Device.s c.args.max c.args.stop c.args.place.now c.front_step.result c.next_get-get.result
    c.if-max-eq0.false c.front_step.ensures c.next_get-get.ensures in
    subst (λ (t : Target). IsNextMove (Read t c.args.max c.args.stop) c.args.place.now c.or.result) (sym c.in-Device.is)
    (subst (λ (m : Next). IsNextMove (Read (Device c.in-Device.p c.in-Device.s) c.args.max c.args.stop) c.args.place.now m) (sym c.or.ensures) next)
