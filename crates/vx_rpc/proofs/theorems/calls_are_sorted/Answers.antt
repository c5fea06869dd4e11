use Rattle.vx_rpc.proofs.Laws.Sorted.{call_message-sorted, served-sorted}
use Rattle.vx_rpc.proofs.theorems.calls_are_sorted.Goals as goal

pub returns-clause-read : goal.returns-clause-read
returns-clause-read c = call_message-sorted

pub returns-clause-served : goal.returns-clause-served
returns-clause-served c = served-sorted
