use Rattle.std.proofs.Common.{rules}
use Rattle.vx_text.proofs.lines.line_end.Goals as goal

pub iter-requires : goal.iter-requires
iter-requires c κs = search rules
