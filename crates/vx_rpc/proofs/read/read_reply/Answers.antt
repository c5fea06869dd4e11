use Rattle.std.proofs.Common.{◌-◌, length, drop, arith}
use Rattle.std.proofs.lemmas.List.{take_all, length-drop}
use Rattle.vx_rpc.proofs.HeaderLemmas.{three_words-long, results-end}
use Rattle.vx_rpc.proofs.read.read_reply.Goals as goal

pub returns-in-Ok-default-eq1-default-clause-results : goal.returns-in-Ok-default-eq1-default-clause-results
returns-in-Ok-default-eq1-default-clause-results c =
    let message = c.args.message.now in
    let long = three_words-long message _ c.in-Ok-default-eq1-default.ensures in
    let whole = take_all (length message - 12) (drop 12 message) (omega (arith, length-drop 12 message)) in
    results-end message _ c.read_body.result long whole c.read_body.ensures.results
