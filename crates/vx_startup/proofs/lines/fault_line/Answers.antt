use Rattle.vx_startup.proofs.Causes.{names_cause}
use Rattle.vx_startup.proofs.lines.fault_line.Goals as goal

pub put_line-requires-clause-whole : goal.put_line-requires-clause-whole
put_line-requires-clause-whole c = names_cause c.args.cause _ c.word-word.ensures
