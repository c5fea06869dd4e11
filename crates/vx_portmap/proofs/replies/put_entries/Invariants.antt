use Rattle.std.proofs.Common.{take}
use Rattle.std.specs.List.{flat_map}
use Rattle.vx_xdr.specs.Writing.{Writes}
use Rattle.vx_rpc.specs.Wording.{words}
use Rattle.vx_portmap.specs.Answering.{entry}
use Rattle.vx_portmap.proofs.replies.put_entries.Given as goal

abbrev pub invariant-loop-m : goal.invariant-loop-m
invariant-loop-m l = Writes (words (flat_map entry (take l.m-index l.mappings))) l.initial.w l.initial.out l.w l.out
