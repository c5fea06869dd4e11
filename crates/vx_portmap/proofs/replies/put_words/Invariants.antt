use Rattle.std.proofs.Common.{take}
use Rattle.vx_xdr.specs.Writing.{Writes}
use Rattle.vx_rpc.specs.Wording.{words}
use Rattle.vx_portmap.proofs.replies.put_words.Given as goal

abbrev pub invariant-loop-number : goal.invariant-loop-number
invariant-loop-number l = Writes (words (take l.number-index l.numbers)) l.initial.w l.initial.out l.w l.out
