use Rattle.std.proofs.Common.{sym}
use Rattle.std.proofs.lemmas.List.{take_rest}
use Rattle.std.proofs.Math.Seq.{drop-length}
use Rattle.vx_text.proofs.Cut.{lines-found, lines-alone}
use Rattle.vx_text.proofs.lines.first_line.Goals as goal

pub returns-in-Some-clause-first : goal.returns-in-Some-clause-first
returns-in-Some-clause-first c = rw take_rest (lines-found c.args.text.now c.in-Some.end (sym c.in-Some.ensures))

pub returns-in-None-clause-first : goal.returns-in-None-clause-first
returns-in-None-clause-first c = rw (take_rest, drop-length) (lines-alone c.args.text.now c.requires (sym c.in-None.ensures))
