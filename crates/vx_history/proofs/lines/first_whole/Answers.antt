use Rattle.std.proofs.Common.{sym}
use Rattle.std.proofs.lemmas.List.{take_rest}
use Rattle.vx_history.proofs.Cutting.{first-whole, lines-none}
use Rattle.vx_history.proofs.lines.first_whole.Goals as goal

pub returns-in-Some : goal.returns-in-Some
returns-in-Some c = rw take_rest (first-whole c.args.text.now c.in-Some.end (sym c.in-Some.ensures))

pub returns-in-None : goal.returns-in-None
returns-in-None c = lines-none c.args.text.now (sym c.in-None.ensures)
