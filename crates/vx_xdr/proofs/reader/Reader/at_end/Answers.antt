use Rattle.std.proofs.Common.{arith}
use Rattle.std.proofs.lemmas.Grind.{elements}
use Rattle.vx_xdr.proofs.reader.Reader.at_end.Goals as goal

pub returns : goal.returns
returns c = grind (arith, elements)
