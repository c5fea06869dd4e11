use Rattle.std.proofs.Common.{rules}
use Rattle.vx_text.proofs.input.read_piece.Goals as goal

pub returns-in-End-clause-read : goal.returns-in-End-clause-read
returns-in-End-clause-read g c = search rules
