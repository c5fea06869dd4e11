use Rattle.std.proofs.Common.{rules}
use Rattle.vx_xdr.proofs.reader.opaque_at.Goals as goal

pub returns-in_err-len-clause-within : goal.returns-in_err-len-clause-within
returns-in_err-len-clause-within c = search rules
