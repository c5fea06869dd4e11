use Rattle.vx_rpc.proofs.Laws.Sorted.{IsCall-sorted}
use Rattle.vx_rpc.proofs.InverseLemmas.{sorted-IsCall}
use Rattle.vx_rpc.proofs.theorems.calls_are_spelled.Goals as goal

pub returns : goal.returns
returns c role xid proc args message h = (sorted-IsCall role xid proc args message h, IsCall-sorted role xid proc args message)
