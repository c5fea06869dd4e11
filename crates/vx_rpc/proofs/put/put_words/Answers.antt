use Rattle.std.proofs.Common.{arith}
use Rattle.vx_rpc.proofs.PutLemmas.{word-written, words-written}
use Rattle.vx_rpc.proofs.put.put_words.Goals as goal

pub loop-number-preserved : goal.loop-number-preserved
loop-number-preserved c =
    let numbers = c.args.numbers.now in
    let i = c.loop-number.number-index in
    let wrote = c.in_ok-u32.ensures.ok in
    let before = c.loop-number.invariant in (
      omega (arith, wrote.place, before.0),
      word-written numbers c.args.out.now c.loop-number.out c.u32.new.out i c.loop-number.w c.loop-number-test.true before.0 before.1 wrote.bytes,
    )

pub returns-clause-ok : goal.returns-clause-ok
returns-clause-ok c =
    let after = c.loop-number.invariant in
    words-written c.args.numbers.now c.args.out.now c.loop-number.out c.loop-number.number-index c.len.result
    c.loop-number-test.false (omega (arith, c.len.ensures, after.0)) c.loop-number.auto.number-index-end after.1
