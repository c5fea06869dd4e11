use Rattle.std.proofs.Common.{◌≡◌, max, [], ◌∷◌, false, Some, ◌∙◌, subst, arith}
use Rattle.vx_calls.specs.Reply as reply
use Rattle.vx_488.specs.Steps.{Told, Cut}
use Rattle.vx_flow.specs.Event.{Answer}
use Rattle.vx_flow.specs.InterleavedStep.{interleaved_step}
use Rattle.vx_loop.specs.Gateway.{BusGoes}
use Rattle.vx_loop.proofs.Continuing.{dial-replies}
use Rattle.vx_loop.proofs.served.refuse_dial.Goals as goal

pub returns-clause-replied : goal.returns-clause-replied
returns-clause-replied g c =
    let before = c.args.core.now in
    let after = c.settle.new.core in
    let h = c.settle.ensures.settles in
    let told = c.settle.result in
    let at = c.moment-now.ensures in
    let now : max before.interleaved.state.moment c.moment-now.result ≡ before.interleaved.state.moment = omega arith in
    dial-replies before after before.interleaved.state.moment c.args.xid c.settle.new.reply told c.requires.fit (c.settle.ensures.len ∙ c.requires.room)
    (subst (λ n. interleaved_step before.interleaved (Answer 1 n false (Some false) false (reply.Error told.error)) ≡ Some after.interleaved) now h.answers)
    (subst (λ n. BusGoes before.bus (Cut ∷ Told n ∷ []) after.bus) now h.walk) h.stands

pub returns-clause-within : goal.returns-clause-within
returns-clause-within g c =
    let within = c.settle.ensures.settles.stands.within in
    let len = c.settle.ensures.len in
    let room = c.requires.room in
    omega arith
