use Rattle.std.proofs.Common.{◌≡◌, ◌*◌, take}
use Rattle.vx_xdr.specs.Writing.{overwritten}
use Rattle.vx_rpc.specs.Wording.{words}
use Rattle.vx_rpc.proofs.put.put_words.Given as goal

abbrev pub invariant-loop-number : goal.invariant-loop-number
invariant-loop-number l =
    (l.w ≡ 4 * l.number-index)
    × (l.out ≡ overwritten l.initial.out 0 (words (take l.number-index l.numbers)))
