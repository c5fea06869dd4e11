use Rattle.std.proofs.Common.{sym, arith}
use Rattle.vx_trace.proofs.Moves.{three_bytes}
use Rattle.vx_trace.proofs.put.transfer_len.Goals as goal

pub returns-in-Cmd : goal.returns-in-Cmd
returns-in-Cmd c = record { value = sym (three_bytes c.args.t c.in-Cmd.is); short = omega arith }
