use Rattle.vx_history.proofs.Short.{short-read}
use Rattle.vx_history.proofs.lines.take_line.Goals as goal

pub take-requires : goal.take-requires
take-requires c = short-read c.args.text.now c.read_line2.result c.requires.short c.read_line2.ensures.some
