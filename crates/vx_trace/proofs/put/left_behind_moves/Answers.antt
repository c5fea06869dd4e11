use Rattle.std.proofs.Common.{◌+◌, length, get_or, take, ap, arith}
use Rattle.std.proofs.lemmas.List.{length-append}
use Rattle.vx_488.specs.declared.transfers.Transfer.TheVariants.{Cmd}
use Rattle.vx_trace.specs.Text.{moves_text}
use Rattle.vx_trace.proofs.Moves.{spaced, moves-more, moves-front}
use Rattle.vx_trace.proofs.put.left_behind_moves.Goals as goal

pub returns-in_err-left-clause-left : goal.returns-in_err-left-clause-left
returns-in_err-left-clause-left c =
    let moves = c.args.moves.now in
    let i = c.loop-t.t-index in
    let t = get_or moves i (Cmd 0) in
    let more = moves-more moves i (Cmd 0) (omega arith) in
    let len = length-append (moves_text (take i moves)) (spaced t) in
    let front = moves-front moves (i + 1) in
    let short = c.in_err-left.ensures in
    rw c.from_residual.ensures (omega (arith, ap length more, short))

pub returns-in_err-left-clause-room : goal.returns-in_err-left-clause-room
returns-in_err-left-clause-room c =
    let short = c.in_err-left.ensures in
    rw c.from_residual.ensures (omega (arith, short))
