use Rattle.std.proofs.Common.{◌≤◌, take, length, refl, sym, subst, arith}
use Rattle.std.proofs.lemmas.List.{length-take}
use Rattle.vx_xdr.specs.Writing.{Writes}
use Rattle.vx_rpc.proofs.Laws.{length-words, words-more}
use Rattle.vx_portmap.proofs.Written.{writes-then}
use Rattle.vx_portmap.proofs.replies.put_words.Goals as goal

pub unreachable-requires : goal.unreachable-requires
unreachable-requires c =
    let full = c.in_default.ensures.full.0 refl in
    let place = c.loop-number.invariant.place in
    let front = take c.loop-number.number-index c.args.numbers.now in
    omega (arith, full, place, c.requires, length-words front, length-take c.loop-number.number-index c.args.numbers.now)

pub loop-number-preserved : goal.loop-number-preserved
loop-number-preserved c =
    let within : c.args.w.now ≤ length c.args.out.now = omega (arith, c.requires) in
    subst (λ t. Writes t c.args.w.now c.args.out.now c.u32.new.self c.u32.new.out)
    (sym (words-more c.args.numbers.now c.loop-number.number-index c.loop-number-test.true))
    (writes-then _ _ c.args.out.now c.loop-number.out c.u32.new.out c.args.w.now c.loop-number.w c.u32.new.self within c.loop-number.invariant c.in-Ok.ensures.ok)
