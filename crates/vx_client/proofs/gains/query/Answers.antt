use Rattle.std.proofs.Common.{Ok, Err, refl}
use Rattle.vx_client.proofs.gains.query.Goals as goal

pub returns-in-Ok-clause-sent : goal.returns-in-Ok-clause-sent
returns-in-Ok-clause-sent g c = record { mid = c.write.new.self; answer = Ok tt; written = c.in-Ok.ensures.written; behind = c.read.ensures.read }

pub returns-in-Err-clause-sent : goal.returns-in-Err-clause-sent
returns-in-Err-clause-sent g c = record { mid = c.write.new.self; answer = Err c.in-Err.error; written = c.in-Err.ensures.written; behind = (refl, refl) }
