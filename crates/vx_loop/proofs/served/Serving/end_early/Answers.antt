use Rattle.std.proofs.Common.{◌≡◌, ◌<◌, true, false, None, length, ◌⊎◌, refl, ap, ◌∙◌, subst}
use Rattle.std.specs.Prelude.{is_some}
use Rattle.vx_record.specs.Buffer.{fresh}
use Rattle.vx_rules.specs.State.{pending_at}
use Rattle.vx_loop.specs.Gateway.{gateway_of}
use Rattle.vx_loop.specs.LoopState.{ServedState}
use Rattle.vx_loop.specs.Serving.{lives}
use Rattle.vx_loop.specs.Standing.{IsLoopKept, TakesTo}
use Rattle.vx_loop.proofs.Going.{seen, gone_state, early-to}
use Rattle.vx_loop.proofs.served.Serving.end_early.Goals as goal

pub returns : goal.returns
returns g c =
    let s = seen c.self.inside.core c.self.inside.buffer c.self.inside.xid c.self.inside.from c.self.inside.to c.self.inside.reply.items in
    let new : ServedState = gone_state c.disconnect.new.self c.restart.new.self s.xid s.left in
    let made = subst (λ (x : ServedState). IsLoopKept x → (pending_at x.core.interleaved.state.tables 1 ≡ None → lives (gateway_of x.core) ≡ true)
    → is_some (pending_at x.core.interleaved.state.tables 1) ≡ true ⊎ 0 < length x.left → TakesTo x new c.args.from.now × (lives (gateway_of new.core) ≡ false)) c.self.view_is
    (λ k alive busy. early-to s c.disconnect.new.self c.restart.new.self s.xid s.left k refl (record { events = c.disconnect.ensures.interleaved; bus = c.disconnect.ensures.walk })
    (c.restart.ensures ∙ ap fresh k.limit) c.args.from.now alive c.requires.some busy)
    c.requires.kept c.requires.alive c.requires.busy in
    record { takes = made.0; ended = made.1 }
