use Rattle.std.proofs.Common.{◌+◌, length, get_or, take, sym, ap, ◌∙◌, arith}
use Rattle.std.proofs.lemmas.List.{length-append}
use Rattle.vx_488.specs.declared.transfers.Transfer.TheVariants.{Cmd}
use Rattle.std.proofs.lemmas.List.Elements.{All-more}
use Rattle.vx_trace.specs.Text.{moves_text, IsByteTransfer}
use Rattle.vx_trace.specs.Writing.{overwritten}
use Rattle.vx_trace.proofs.Moves.{spaced, moves-more, moves-front}
use Rattle.vx_trace.proofs.Overwrites.{overwritten_twice}
use Rattle.vx_trace.proofs.put.put_moves.Goals as goal

pub put_move-behind-requires : goal.put_move-behind-requires
put_move-behind-requires c =
    let moves = c.args.moves.now in
    let i = c.loop-t.t-index in
    let t = get_or moves i (Cmd 0) in
    let more = moves-more moves i (Cmd 0) (omega arith) in
    let front = moves-front moves (i + 1) in
    omega (arith, ap length more, length-append (moves_text (take i moves)) (spaced t))

pub loop-t-preserved : goal.loop-t-preserved
loop-t-preserved c =
    let moves = c.args.moves.now in
    let i = c.loop-t.t-index in
    let t = get_or moves i (Cmd 0) in
    let more = moves-more moves i (Cmd 0) (omega arith) in
    let len = length-append (moves_text (take i moves)) (spaced t) in
    record {
      bytes = overwritten_twice _ _ _ _ _ _ _ c.put_move-behind.ensures.bytes c.loop-t.invariant.bytes c.loop-t.invariant.place (omega arith) ∙ ap (overwritten c.args.out.now c.args.at) (sym more);
      place = omega (arith, ap length more);
      fits = All-more IsByteTransfer moves i (Cmd 0) (omega arith) c.loop-t.invariant.fits c.put_move-behind.ensures.fits;
    }
