use Rattle.std.proofs.Common.{◌≡◌, length, sym, arith}
use Rattle.std.proofs.lemmas.List.{length-take-le}
use Rattle.vx_player.specs.declared.printer.TheConstants.{BEGUN_ROOM, HEAD_ROOM, NOTE_ROOM, TEXT_ROOM}
use Rattle.vx_player.proofs.Both.{writable-more, left-behind, both-taken, both-within}
use Rattle.vx_player.proofs.printer.put_four.Goals as goal

pub put_two-len-requires-clause-front : goal.put_two-len-requires-clause-front
put_two-len-requires-clause-front c =
    let all : length c.args.room.now ≡ TEXT_ROOM = c.requires.room in
    let long = length-take-le HEAD_ROOM c.args.room.now (omega arith) in
    omega arith

pub put_two-len-requires-clause-first : goal.put_two-len-requires-clause-first
put_two-len-requires-clause-first c = c.requires.lines.intake_fits

pub put_two-len-requires-clause-second : goal.put_two-len-requires-clause-second
put_two-len-requires-clause-second c =
    let all : length c.args.room.now ≡ TEXT_ROOM = c.requires.room in
    let long = length-take-le HEAD_ROOM c.args.room.now (omega arith) in
    writable-more c.args.moment c.args.begun.now BEGUN_ROOM _ (omega arith) c.requires.lines.begun_fits

pub put_two-more-requires-clause-front : goal.put_two-more-requires-clause-front
put_two-more-requires-clause-front c =
    let all : length c.args.room.now ≡ TEXT_ROOM = c.requires.room in
    let long = length-take-le HEAD_ROOM c.args.room.now (omega arith) in
    let same = c.put_two-len.ensures.len in
    let within = c.put_two-len.ensures.within in
    let left = left-behind c.args.room.now c.put_two-len.new.room HEAD_ROOM c.put_two-len.result (omega arith) (omega arith) (omega arith) in
    omega arith

pub put_two-more-requires-clause-first : goal.put_two-more-requires-clause-first
put_two-more-requires-clause-first c = c.requires.lines.moves_fits

pub put_two-more-requires-clause-second : goal.put_two-more-requires-clause-second
put_two-more-requires-clause-second c =
    let all : length c.args.room.now ≡ TEXT_ROOM = c.requires.room in
    let long = length-take-le HEAD_ROOM c.args.room.now (omega arith) in
    let same = c.put_two-len.ensures.len in
    let within = c.put_two-len.ensures.within in
    let left = left-behind c.args.room.now c.put_two-len.new.room HEAD_ROOM c.put_two-len.result (omega arith) (omega arith) (omega arith) in
    writable-more c.args.moment c.args.note.now NOTE_ROOM _ (omega arith) c.requires.lines.note_fits

pub returns-clause-text : goal.returns-clause-text
returns-clause-text c =
    both-taken c.put_two-len.new.room _ c.put_two-more.new.room _ _ _ c.put_two-len.result c.put_two-more.result c.put_two-len.ensures.within c.put_two-len.ensures.text
    c.put_two-more.ensures.text c.put_two-more.ensures.within

pub returns-clause-within : goal.returns-clause-within
returns-clause-within c =
    both-within c.put_two-len.new.room _ c.put_two-more.new.room _ c.put_two-len.result c.put_two-more.result c.put_two-len.ensures.within c.put_two-more.ensures.within

pub slice_bounds-put_two-end : goal.slice_bounds-put_two-end
slice_bounds-put_two-end c =
    let all : length c.args.room.now ≡ TEXT_ROOM = c.requires.room in
    omega arith

pub slice_bounds-put_two-end-2 : goal.slice_bounds-put_two-end-2
slice_bounds-put_two-end-2 c =
    let all : length c.args.room.now ≡ TEXT_ROOM = c.requires.room in
    sym (length-take-le HEAD_ROOM c.args.room.now (omega arith))
