use Rattle.vx_plan.proofs.Nexts.{next-commands, next-commands-done}
use Rattle.vx_plan.proofs.tasks.next_of_commands.Goals as goal

pub returns-then-place-len : goal.returns-then-place-len
returns-then-place-len c = next-commands c.args.len c.args.place.now c.if-place-len.true

pub returns-else-place-len : goal.returns-else-place-len
returns-else-place-len c = next-commands-done c.args.len c.args.place.now c.if-place-len.false
