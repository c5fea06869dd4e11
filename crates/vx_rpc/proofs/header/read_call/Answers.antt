use Rattle.std.proofs.Common.{◌-◌, length, drop, arith}
use Rattle.std.proofs.lemmas.List.{take_all, length-drop}
use Rattle.vx_rpc.proofs.HeaderLemmas.{three_words-long, call-end}
use Rattle.vx_rpc.proofs.header.read_call.Goals as goal

pub returns-in-Ok-default-eq0-eq2-clause-args : goal.returns-in-Ok-default-eq0-eq2-clause-args
returns-in-Ok-default-eq0-eq2-clause-args c =
    let message = c.args.message.now in
    let long = three_words-long message _ c.in-Ok-default-eq0-eq2.ensures in
    let whole = take_all (length message - 12) (drop 12 message) (omega (arith, length-drop 12 message)) in
    call-end message _ c.call_behind.result long whole c.call_behind.ensures.args
