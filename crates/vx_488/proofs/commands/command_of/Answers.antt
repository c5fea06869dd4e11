use Rattle.std.proofs.Common.{rules}
use Rattle.vx_488.proofs.commands.command_of.Goals as goal

pub overflow_sub-result-in-64-to-94 : goal.overflow_sub-result-in-64-to-94
overflow_sub-result-in-64-to-94 c = search rules
