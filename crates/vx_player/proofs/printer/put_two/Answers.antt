use Rattle.std.proofs.Common.{◌-◌, length, arith}
use Rattle.std.proofs.lemmas.List.{length-take-le}
use Rattle.vx_player.proofs.Both.{writable-more, left-behind, both-taken}
use Rattle.vx_player.proofs.printer.put_two.Goals as goal

pub put-len-requires : goal.put-len-requires
put-len-requires c =
    let long = length-take-le c.args.front c.args.room.now c.requires.front in
    writable-more c.args.moment c.args.first.now c.args.front _ (omega arith) c.requires.first

pub put-more-requires : goal.put-more-requires
put-more-requires c =
    let long = length-take-le c.args.front c.args.room.now c.requires.front in
    let same = c.put-len.ensures.len in
    let within = c.put-len.ensures.within in
    writable-more c.args.moment c.args.second.now (length c.args.room.now - c.args.front) _
    (left-behind c.args.room.now c.put-len.new.room c.args.front c.put-len.result c.requires.front (omega arith) (omega arith)) c.requires.second

pub returns-clause-text : goal.returns-clause-text
returns-clause-text c =
    both-taken c.put-len.new.room _ c.put-more.new.room _ _ _ c.put-len.result c.put-more.result c.put-len.ensures.within c.put-len.ensures.text
    c.put-more.ensures.text c.put-more.ensures.within
