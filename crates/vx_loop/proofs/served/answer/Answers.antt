use Rattle.std.proofs.Common.{◌≡◌, ◌≤◌, max, [], ◌∷◌, Some, take, sym, subst, ◌∙◌, arith}
use Rattle.vx_488.specs.Steps.{Told, Cut}
use Rattle.vx_calls.specs.declared.calls.Role.TheVariants as role
use Rattle.vx_calls.specs.Call.{call_shown}
use Rattle.vx_exchange.specs.declared.record.TheConstants.{REPLY_ROOM}
use Rattle.vx_exchange.specs.Meaning.{meaning}
use Rattle.vx_flow.specs.Event.{Arrive}
use Rattle.vx_flow.specs.InterleavedStep.{interleaved_step}
use Rattle.vx_loop.specs.Gateway.{gateway_of, BusGoes}
use Rattle.vx_loop.specs.Serving.{LoopServes}
use Rattle.vx_loop.proofs.Continuing.{PollOf, opened-serves, called-serves, says-within}
use Rattle.vx_loop.proofs.served.answer.Goals as goal

pub returns-in-Answered-clause-served : goal.returns-in-Answered-clause-served
returns-in-Answered-clause-served g c =
    let h = c.in-Answered.ensures.opens in
    opened-serves (gateway_of c.args.core.now) (meaning c.args.message.now role.Core) h.0 c.args.xid.now c.in-Answered.len c.open.new.reply
    (c.in-Answered.ensures.len ∙ c.requires.room) h.1 h.2

pub returns-in-Answered-clause-within : goal.returns-in-Answered-clause-within
returns-in-Answered-clause-within g c =
    let within = c.in-Answered.ensures.opens.2.within in
    let len = c.in-Answered.ensures.len in
    let room = c.requires.room in
    omega arith

pub returns-in-Asks-clause-served : goal.returns-in-Asks-clause-served
returns-in-Asks-clause-served g c =
    let core = c.args.core.now in
    let h = c.come.ensures.came in
    let at = c.moment-now.ensures in
    let moment = core.interleaved.state.moment in
    let now : max moment c.moment-now.result ≡ moment = omega arith in
    let asked = call_shown c.in-Asks.call in
    let before = gateway_of core in
    let come = gateway_of h.come in
    let after = gateway_of c.come.new.core in
    let m = meaning c.args.message.now role.Core in
    subst (λ n. LoopServes before m c.in-Asks.number after (take n c.come.new.reply)) (sym c.reply_len.ensures)
    (called-serves before come after m asked c.in-Asks.number c.come.new.reply c.come.result h.polled.ending c.requires.calm c.requires.reached
    (c.come.ensures.len ∙ c.in-Asks.ensures.len ∙ c.requires.room) c.in-Asks.ensures.opens
    (record {
      events = subst (λ n. interleaved_step core.interleaved (Arrive 1 asked n) ≡ Some h.come.interleaved) now h.arrives;
      bus = subst (λ n. BusGoes core.bus (Cut ∷ Told n ∷ []) h.come.bus) now h.walk;
    }) (subst (λ n. PollOf come n h.polled.ending after) now h.polled.over) h.polled.says)

pub returns-in-Asks-clause-within : goal.returns-in-Asks-clause-within
returns-in-Asks-clause-within g c =
    let h = c.come.ensures.came.polled in
    subst (λ n. n ≤ REPLY_ROOM) (sym c.reply_len.ensures)
    (says-within c.in-Asks.number c.come.new.reply c.come.result h.ending (c.come.ensures.len ∙ c.in-Asks.ensures.len ∙ c.requires.room) h.says)
