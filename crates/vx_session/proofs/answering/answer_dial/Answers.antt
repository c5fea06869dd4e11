use Rattle.std.proofs.Common.{◌≡◌, refl, sym, ◌∙◌, subst, take}
use denote.Enum.Bare.{sameb}
use Rattle.vx_io_traits.specs.contracts.dials.DialOut.{the_type}
use Rattle.vx_io_traits.specs.declared.dials.DialOut.{DialOut}
use Rattle.vx_io_traits.specs.declared.dials.DialOut.TheVariants as dialout
use Rattle.vx_io_traits.specs.Rung.{is_up}
use Rattle.vx_session.specs.Origin.{origin}
use Rattle.vx_session.specs.Dialing.{dial_shown}
use Rattle.vx_session.specs.Progress.{Clocked, AnswersDial}
use Rattle.vx_session.specs.Turning.{Settles}
use Rattle.vx_session.proofs.Calling.{dial-answered, dial-failed}
use Rattle.vx_session.proofs.answering.answer_dial.Goals.{in-Some, in_default}
use Rattle.vx_session.proofs.answering.answer_dial.Goals as goal

-- whether a stream stands
up-is : (answer : DialOut) → is_up answer ≡ sameb the_type answer dialout.Up
up-is dialout.Up = refl
up-is dialout.Failed = refl

pub returns-clause-dials : goal.returns-clause-dials
returns-clause-dials g c = λ call.
    let shown : g.row.D.Denot → _ = dial_shown g.D.Dial in
    let told = g.C.Clock.told c.now.new.self in
    let room = c.settle-pass.new.reply in
    let answered = c.settle-pass.result.1 in
    let settles : Settles (origin g.B.Bus (g.T.Turns.first c.args.worker.now.turns.now)) c.now.result c.args.pass c.args.worker.now.conn c.args.xid (is_up c.dial.result) room answered c.settle-pass.result.0 =
    subst (λ u. Settles (origin g.B.Bus (g.T.Turns.first c.args.worker.now.turns.now)) c.now.result c.args.pass c.args.worker.now.conn c.args.xid u room answered c.settle-pass.result.0) (c.eq-up.ensures ∙ sym (up-is c.dial.result)) c.settle-pass.ensures.settles in
    elim c.match-answered.branch [
      | in-Some w ↦
          subst (λ d. AnswersDial (origin g.B.Bus (g.T.Turns.first c.args.worker.now.turns.now)) (Clocked g.C.Clock.tells c.args.clock.now c.now.new.self) told c.args.pass c.args.worker.now.conn c.args.xid call c.args.place.host c.args.place.port (shown c.args.dial.now) (take answered.len room) c.settle-pass.result.0 (shown d))
          (sym w.dial-is)
          (dial-answered (origin g.B.Bus (g.T.Turns.first c.args.worker.now.turns.now)) g.C.Clock.tells c.args.clock.now c.now.new.self told c.now.result c.now.ensures.tells c.args.pass c.settle-pass.result.0 c.args.worker.now.conn c.args.xid call c.args.place.host c.args.place.port room c.dial.result answered w.in-Some.chan
          (shown c.args.dial.now) (shown c.dial.new.self) (shown w.hand.new.self) c.now.ensures.within c.dial.ensures.told c.dial.ensures.counted settles w.in-Some.is w.hand.ensures.told
          w.hand.ensures.counted)
      | in_default w ↦
          subst (λ d. AnswersDial (origin g.B.Bus (g.T.Turns.first c.args.worker.now.turns.now)) (Clocked g.C.Clock.tells c.args.clock.now c.now.new.self) told c.args.pass c.args.worker.now.conn c.args.xid call c.args.place.host c.args.place.port (shown c.args.dial.now) (take answered.len room) c.settle-pass.result.0 (shown d))
          (sym w.dial-is)
          (dial-failed (origin g.B.Bus (g.T.Turns.first c.args.worker.now.turns.now)) g.C.Clock.tells c.args.clock.now c.now.new.self told c.now.result c.now.ensures.tells c.args.pass c.settle-pass.result.0 c.args.worker.now.conn c.args.xid call c.args.place.host c.args.place.port room c.dial.result answered
          (shown c.args.dial.now) (shown c.dial.new.self) c.now.ensures.within c.dial.ensures.told c.dial.ensures.counted c.dial.ensures.failed settles w.in_default.is)
    ]
