use Rattle.std.proofs.Common.{◌≡◌, ◌<◌, Option, Some, None, [], length, take, sym, ap, ◌∙◌, arith}
use Rattle.std.proofs.lemmas.List.{length-set}
use Rattle.vx_488.specs.declared.transfers.Transfer.{Transfer}
use Rattle.vx_trace.specs.Reading.{transfer_of, with_transfer, moves_of}
use Rattle.vx_trace.proofs.Moves.{after, moves-cut, moves-last, after-none, after-more, after-last, cut-length}
use Rattle.vx_trace.proofs.transfers.read_moves.Goals as goal

pub returns-in_err-room : goal.returns-in_err-room
returns-in_err-room c =
    let front = take c.loop-word.count c.loop-word.room in
    let rest = c.loop-word.rest.now in
    let word = c.in-Some.word.now in
    let behind = c.in-Some.behind.now in
    let none : None ≡ transfer_of word = c.in_err-room.ensures in
    let read : moves_of c.args.text.now ≡ None =
    c.loop-word.invariant.read ∙ ap (after front) (moves-cut rest word behind (sym c.in-Some.ensures))
    ∙ ap (λ (t : Option Transfer). after front (with_transfer (moves_of behind) t)) (sym none) ∙ after-none front (moves_of behind) in
    rw c.from_residual.ensures read

pub loop-word-smaller : goal.loop-word-smaller
loop-word-smaller c = omega (arith, cut-length c.loop-word.rest.now c.in-Some.word.now c.in-Some.behind.now (sym c.in-Some.ensures))

pub loop-word-preserved : goal.loop-word-preserved
loop-word-preserved c =
    let room = c.loop-word.room in
    let count = c.loop-word.count in
    let rest = c.loop-word.rest.now in
    let word = c.in-Some.word.now in
    let behind = c.in-Some.behind.now in
    let t = c.in_ok-room.field-0 in
    let some : Some t ≡ transfer_of word = c.in_ok-room.ensures in
    let shorter = cut-length rest word behind (sym c.in-Some.ensures) in
    let within : count < length room = omega arith in
    record {
      room = omega (arith, length-set room count t);
      read = c.loop-word.invariant.read ∙ ap (after (take count room)) (moves-cut rest word behind (sym c.in-Some.ensures))
          ∙ ap (λ (o : Option Transfer). after (take count room) (with_transfer (moves_of behind) o)) (sym some) ∙ after-more room count t (moves_of behind) within;
    }

pub returns-in_err-room-2 : goal.returns-in_err-room-2
returns-in_err-room-2 c =
    let front = take c.loop-word.count c.loop-word.room in
    let rest = c.loop-word.rest.now in
    let none : None ≡ transfer_of rest = c.in_err-room-2.ensures in
    let read : moves_of c.args.text.now ≡ None =
    c.loop-word.invariant.read ∙ ap (after front) (moves-last rest (sym c.in_default.ensures))
    ∙ ap (λ (t : Option Transfer). after front (with_transfer (Some []) t)) (sym none) in
    rw c.from_residual-in_err-room-2.ensures read

pub returns : goal.returns
returns c =
    let room = c.loop-word.room in
    let count = c.loop-word.count in
    let rest = c.loop-word.rest.now in
    let t = c.in_ok-room-2.field-0 in
    let some : Some t ≡ transfer_of rest = c.in_ok-room-2.ensures in
    let within : count < length room = omega arith in (
      c.loop-word.invariant.read ∙ ap (after (take count room)) (moves-last rest (sym c.in_default.ensures))
          ∙ ap (λ (o : Option Transfer). after (take count room) (with_transfer (Some []) o)) (sym some) ∙ after-last room count t within,
      omega (arith, length-set room count t),
    )
