use Rattle.std.proofs.Common.{◌≤◌, false, take, refl, ap, ◌∙◌, sym, subst, arith}
use Rattle.vx_calls.specs.Call.{call_shown}
use Rattle.vx_session.specs.Origin.{origin}
use Rattle.vx_session.specs.Dialing.{DialShown, dial_shown}
use Rattle.vx_session.specs.Parts.{phase_behind}
use Rattle.vx_session.specs.Progress.{Clocked, AnswersCall}
use Rattle.vx_session.proofs.Calling.{polled-once, polled-waits, polled-again, polled-replied, polled-dials, polled-settled}
use Rattle.vx_session.proofs.answering.answer_call.Goals as goal

pub loop-init : goal.loop-init
loop-init g c = record {
  polled = polled-once c.now.ensures.tells c.now.ensures.within c.come-pass.ensures.comes;
  later = c.now.ensures.rises;
  dial_is = refl;
}

pub returns-in-Replied : goal.returns-in-Replied
returns-in-Replied g c =
    let shown : g.row.D.Denot → DialShown = dial_shown g.D.Dial in
    let replies = polled-replied c.loop.invariant.polled (shown c.args.dial.now) c.in-Replied.len c.in-Replied.error c.in-Replied.is in
    record {
      answers = subst (λ d. AnswersCall (origin g.B.Bus (g.T.Turns.first c.args.worker.now.turns.now)) (Clocked g.C.Clock.tells c.args.clock.now c.loop.clock) (g.C.Clock.told c.loop.clock) c.args.pass c.args.worker.now.conn c.args.request.now.xid (call_shown c.args.request.now.call.now) (shown c.args.dial.now) (take c.in-Replied.len c.loop.reply) c.loop.pass (shown d))
          (sym c.loop.invariant.dial_is) replies.answers;
      history = c.loop.invariant.polled.history;
      phase = replies.phase;
      told = c.loop.invariant.later;
      some = replies.some;
      within = replies.within;
      len = c.loop.auto.reply ∙ c.come-pass.ensures.len;
    }

pub answer_dial-requires-clause-gate : goal.answer_dial-requires-clause-gate
answer_dial-requires-clause-gate g c = c.loop.invariant.polled.makes.gate ∙ c.requires.gate

pub answer_dial-requires-clause-phase : goal.answer_dial-requires-clause-phase
answer_dial-requires-clause-phase g c =
    let call = call_shown c.args.request.now.call.now in
    (call, c.loop.invariant.polled.phase ∙ ap (phase_behind call false) (polled-dials c.loop.invariant.polled c.in-Dial.host c.in-Dial.port c.in-Dial.is))

pub returns-in-Dial-clause-answers : goal.returns-in-Dial-clause-answers
returns-in-Dial-clause-answers g c =
    let told = g.C.Clock.told c.answer_dial.new.clock in
    let call = call_shown c.args.request.now.call.now in
    let shown : g.row.D.Denot → DialShown = dial_shown g.D.Dial in
    let out = take c.answer_dial.result.1 c.answer_dial.new.reply in
    subst (λ d. AnswersCall (origin g.B.Bus (g.T.Turns.first c.args.worker.now.turns.now)) (Clocked g.C.Clock.tells c.args.clock.now c.answer_dial.new.clock) told c.args.pass c.args.worker.now.conn c.args.request.now.xid call (shown d) out c.answer_dial.result.0 (shown c.answer_dial.new.dial)) c.loop.invariant.dial_is
    (polled-settled {clock'' = c.answer_dial.new.clock} {told' = told} {pass'' = c.answer_dial.result.0} c.loop.invariant.polled (shown c.loop.dial) (shown c.answer_dial.new.dial) out c.in-Dial.host c.in-Dial.port
    c.answer_dial.ensures.told c.in-Dial.is (c.answer_dial.ensures.dials call))

pub returns-in-Dial-clause-told : goal.returns-in-Dial-clause-told
returns-in-Dial-clause-told g c =
    let before : g.C.Clock.told c.args.clock.now ≤ g.C.Clock.told c.loop.clock = c.loop.invariant.later in
    let later : g.C.Clock.told c.loop.clock ≤ g.C.Clock.told c.answer_dial.new.clock = c.answer_dial.ensures.told in
    omega arith

pub poll_again-requires-clause-gate : goal.poll_again-requires-clause-gate
poll_again-requires-clause-gate g c = c.loop.invariant.polled.makes.gate ∙ c.requires.gate

pub poll_again-requires-clause-phase : goal.poll_again-requires-clause-phase
poll_again-requires-clause-phase g c =
    let call = call_shown c.args.request.now.call.now in
    (call, false, c.loop.invariant.polled.phase ∙ ap (phase_behind call false) (polled-waits c.loop.invariant.polled _ c.in-NotYet.is))

pub loop-preserved : goal.loop-preserved
loop-preserved g c =
    let call = call_shown c.args.request.now.call.now in
    let polled = c.loop.invariant.polled in
    let before : g.C.Clock.told c.args.clock.now ≤ g.C.Clock.told c.loop.clock = c.loop.invariant.later in
    let later : g.C.Clock.told c.loop.clock ≤ g.C.Clock.told c.now-in-NotYet.new.self = c.now-in-NotYet.ensures.rises in
    let waits = polled.phase ∙ ap (phase_behind call false) (polled-waits polled _ c.in-NotYet.is) in
    record {
      polled = polled-again polled _ c.now-in-NotYet.ensures.tells later c.now-in-NotYet.ensures.within c.in-NotYet.is (c.poll_again.ensures.polls call false waits);
      later = omega arith;
      dial_is = c.loop.invariant.dial_is;
    }
