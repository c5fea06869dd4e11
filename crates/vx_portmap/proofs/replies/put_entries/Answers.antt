use Rattle.std.proofs.Common.{◌≤◌, take, length, sym, subst, arith}
use Rattle.std.specs.List.{flat_map}
use Rattle.std.proofs.lemmas.List.{length-take}
use Rattle.vx_xdr.specs.Writing.{Writes}
use Rattle.vx_portmap.specs.Answering.{entry}
use Rattle.vx_rpc.proofs.Laws.{length-words}
use Rattle.vx_portmap.proofs.Written.{writes-then, length-entries, entries-more}
use Rattle.vx_portmap.proofs.replies.put_entries.Goals as goal

pub put_words-requires : goal.put_words-requires
put_words-requires c =
    let place = c.loop-m.invariant.place in
    let front = take c.loop-m.m-index c.args.mappings.now in
    omega (arith, place, c.requires, c.loop-m.auto.out, c.loop-m-test.true, length-words (flat_map entry front), length-entries front, length-take c.loop-m.m-index c.args.mappings.now)

pub loop-m-preserved : goal.loop-m-preserved
loop-m-preserved c =
    let within : c.args.w.now ≤ length c.args.out.now = omega (arith, c.requires) in
    subst (λ t. Writes t c.args.w.now c.args.out.now c.put_words.new.w c.put_words.new.out)
    (sym (entries-more c.args.mappings.now c.loop-m.m-index _ c.loop-m-test.true))
    (writes-then _ _ c.args.out.now c.loop-m.out c.put_words.new.out c.args.w.now c.loop-m.w c.put_words.new.w within c.loop-m.invariant c.put_words.ensures)
