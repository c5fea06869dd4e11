use Rattle.std.proofs.Common.{[], ◌∷◌, ap, arith}
use Rattle.vx_rpc.specs.Wording.{words}
use Rattle.vx_portmap.specs.Answering.{reply_numbers, worded}
use Rattle.vx_portmap.specs.Outcomes.{outcome_numbers}
use Rattle.vx_portmap.proofs.Answered.{behind-shown, mismatch-shown, call-shown}
use Rattle.vx_portmap.proofs.answers.map_answer.Goals as goal

pub returns-in-Junk-clause-answer : goal.returns-in-Junk-clause-answer
returns-in-Junk-clause-answer c = ap (λ m. worded (reply_numbers c.args.ports.now m)) c.in-Junk.ensures.read

pub returns-in-OtherVersion-clause-answer : goal.returns-in-OtherVersion-clause-answer
returns-in-OtherVersion-clause-answer c =
    mismatch-shown c.args.ports.now c.args.message.now c.args.out.now c.put_mismatch.new.out c.put_mismatch.result c.in-OtherVersion.xid c.in-OtherVersion.ensures.read c.put_mismatch.ensures.text

pub returns-in-OtherVersion-clause-within : goal.returns-in-OtherVersion-clause-within
returns-in-OtherVersion-clause-within c = (omega (arith, c.put_mismatch.ensures.len), omega (arith, c.put_mismatch.ensures.len))

pub returns-in-OtherVersion-clause-behind : goal.returns-in-OtherVersion-clause-behind
returns-in-OtherVersion-clause-behind c =
    behind-shown (words (c.in-OtherVersion.xid ∷ 1 ∷ 1 ∷ 0 ∷ 2 ∷ 2 ∷ [])) c.args.out.now c.put_mismatch.new.out c.put_mismatch.result c.put_mismatch.ensures.text

pub returns-in-Call-clause-answer : goal.returns-in-Call-clause-answer
returns-in-Call-clause-answer c =
    call-shown c.args.ports.now c.args.message.now c.args.out.now c.put_accepted.new.out _ c.put_accepted.result c.in-Call.xid
    _ c.in-Call.ensures.read c.outcome-outcome.ensures c.put_accepted.ensures.text

pub returns-in-Call-clause-within : goal.returns-in-Call-clause-within
returns-in-Call-clause-within c = c.put_accepted.ensures.within

pub returns-in-Call-clause-behind : goal.returns-in-Call-clause-behind
returns-in-Call-clause-behind c =
    behind-shown (words (c.in-Call.xid ∷ 1 ∷ 0 ∷ 0 ∷ 0 ∷ outcome_numbers c.args.ports.now c.outcome-outcome.result)) c.args.out.now c.put_accepted.new.out c.put_accepted.result
    c.put_accepted.ensures.text
