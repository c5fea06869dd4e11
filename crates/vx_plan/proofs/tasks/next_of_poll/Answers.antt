use Rattle.std.proofs.Common.{sym, subst}
use Rattle.vx_calls.specs.declared.targets.Target.{Target}
use Rattle.vx_calls.specs.declared.targets.Target.TheVariants.{Device}
use Rattle.vx_plan.specs.declared.tasks.Task.TheVariants.{Stb}
use Rattle.vx_plan.specs.declared.tasks.Next.{Next}
use Rattle.vx_plan.specs.declared.tasks.Next.TheVariants.{Finished, Command}
use Rattle.vx_plan.specs.Places.{IsNextMove}
use Rattle.vx_plan.proofs.Nexts.{next-poll-interface, next-poll-front, next-poll-tail}
use Rattle.vx_plan.proofs.tasks.next_of_poll.Goals as goal

pub returns-in-Interface : goal.returns-in-Interface
returns-in-Interface c =
    subst (λ (t : Target). IsNextMove (Stb t) c.args.place.now Finished) (sym c.in-Interface.is) (next-poll-interface c.args.place.now)

pub returns-in-Command : goal.returns-in-Command
returns-in-Command c =
    subst (λ (t : Target). IsNextMove (Stb t) c.args.place.now (Command c.in-Command.b)) (sym c.in-Device.is)
    (next-poll-front c.in-Device.p c.in-Device.s c.args.place.now c.in-Command.b c.in-Command.ensures)

pub returns-in-Behind : goal.returns-in-Behind
returns-in-Behind c =
    subst (λ (t : Target). IsNextMove (Stb t) c.args.place.now c.poll_tail.result) (sym c.in-Device.is)
    (subst (λ (m : Next). IsNextMove (Stb (Device c.in-Device.p c.in-Device.s)) c.args.place.now m) (sym c.poll_tail.ensures)
    (next-poll-tail c.in-Device.p c.in-Device.s c.args.place.now c.in-Behind.step c.in-Behind.ensures))
