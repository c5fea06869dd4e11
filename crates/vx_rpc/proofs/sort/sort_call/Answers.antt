use Rattle.std.proofs.Common.{ap, ◌∙◌}
use Rattle.vx_rpc.specs.Sorting.{sorting}
use Rattle.vx_rpc.proofs.HeaderLemmas.{sorted-sorting}
use Rattle.vx_rpc.proofs.sort.sort_call.Goals as goal

pub returns-clause-sorted : goal.returns-clause-sorted
returns-clause-sorted c = c.sort_read.ensures.sorted ∙ ap (sorting c.args.role) c.read_call-read.ensures.read ∙ sorted-sorting c.args.message.now c.args.role

pub returns-clause-args : goal.returns-clause-args
returns-clause-args c = c.sort_read.ensures.args 40 c.args.message.now c.read_call-read.ensures.args
