use Rattle.std.proofs.Common.{◌≤◌, length, arith}
use Rattle.std.specs.List.{flat_map}
use Rattle.vx_portmap.specs.Answering.{entry}
use Rattle.vx_rpc.proofs.Laws.{length-words}
use Rattle.vx_portmap.proofs.Written.{dump-written, length-entries}
use Rattle.vx_portmap.proofs.replies.put_dump.Goals as goal

pub put_words-requires-2 : goal.put_words-requires-2
put_words-requires-2 c =
    let zero = c.put_words.ensures.place in
    let place = c.put_entries.ensures.place in
    let room = c.requires.room in
    omega (arith, c.requires.few, c.put_words.auto.out, c.put_entries.auto.out, length-words (flat_map entry c.args.mappings.now), length-entries c.args.mappings.now)

pub returns : goal.returns
returns c =
    let within : c.args.w.now ≤ length c.args.out.now = omega (arith, c.requires.room) in
    dump-written c.args.mappings.now c.args.out.now c.put_words.new.out c.put_entries.new.out c.put_words-2.new.out c.args.w.now c.put_words.new.w c.put_entries.new.w
    c.put_words-2.new.w within c.put_words.ensures c.put_entries.ensures c.put_words-2.ensures
