use Rattle.vx_rpc.proofs.Laws.Sorted.{IsSuccess-read, IsRefused-read}
use Rattle.vx_rpc.proofs.InverseLemmas.{reply-IsSuccess, reply-IsRefused}
use Rattle.vx_rpc.proofs.theorems.replies_are_spelled.Goals as goal

pub returns-clause-success : goal.returns-clause-success
returns-clause-success c xid results message h = (reply-IsSuccess xid results message h, IsSuccess-read xid results message)

pub returns-clause-refused : goal.returns-clause-refused
returns-clause-refused c xid refusal message h = (reply-IsRefused xid refusal message h, IsRefused-read xid refusal message)
