use Rattle.std.proofs.Common.{◌≡◌, ◌==◌, ℕ, List, true, length, take, refl, sym, ap, subst, ◌∙◌, arith}
use Rattle.std.specs.List.{list_any}
use Rattle.std.specs.Prelude.{is_some}
use Rattle.std.proofs.lemmas.List.{with_items_is}
use Rattle.std.specs.Vec.{with_items}
use Rattle.vx_rules.specs.State.{pending_at}
use Rattle.vx_loop.specs.LoopState.{ServedState}
use Rattle.vx_loop.specs.Standing.{IsLoopKept, WaitsTo}
use Rattle.vx_loop.proofs.Going.{seen, fit-kept, refuse-on}
use Rattle.vx_loop.proofs.served.Serving.refuse.Goals as goal

pub refuse_dial-self-inside-requires-clause-fit : goal.refuse_dial-self-inside-requires-clause-fit
refuse_dial-self-inside-requires-clause-fit g c = fit-kept _ (subst IsLoopKept (sym c.self.view_is) c.requires.kept)

pub returns-clause-waits : goal.returns-clause-waits
returns-clause-waits g c =
    let s = seen c.self.inside.core c.self.inside.buffer c.self.inside.xid c.self.inside.from c.self.inside.to c.self.inside.reply.items in
    let n = c.refuse_dial-self-inside.result in
    let room = with_items_is c.self.inside.reply c.refuse_dial-self-inside.new.reply (c.refuse_dial-self-inside.auto.reply ∙ c.deref_mut.ensures.len) in
    let state : List ℕ → ServedState = λ xs. record s { core = c.refuse_dial-self-inside.new.core; left = take n xs } in
    subst (λ (x : ServedState). IsLoopKept x → is_some (pending_at x.core.interleaved.state.tables 1) ≡ true → WaitsTo x (state (with_items c.self.inside.reply c.refuse_dial-self-inside.new.reply).items)) c.self.view_is
    (λ k some. subst (λ xs. WaitsTo s (state xs)) (sym room)
    (refuse-on s c.refuse_dial-self-inside.new.core (take n c.refuse_dial-self-inside.new.reply) k some s.core.interleaved.state.moment refl c.refuse_dial-self-inside.ensures.replied)) c.requires.kept c.requires.pending

pub refuse_dial-self-inside-requires-clause-dialed : goal.refuse_dial-self-inside-requires-clause-dialed
refuse_dial-self-inside-requires-clause-dialed g c = subst (λ (s : ServedState). list_any (λ n. n == 1) s.core.interleaved.dialed ≡ true) (sym c.self.view_is) c.requires.dialed

pub refuse_dial-self-inside-requires-clause-room : goal.refuse_dial-self-inside-requires-clause-room
refuse_dial-self-inside-requires-clause-room g c = ap length c.deref_mut.ensures.value ∙ c.self.invariant.0

pub invariant_of-self : goal.invariant_of-self
invariant_of-self g c =
    let room = with_items_is c.self.inside.reply c.refuse_dial-self-inside.new.reply (c.refuse_dial-self-inside.auto.reply ∙ c.deref_mut.ensures.len) in
    (ap length room ∙ c.refuse_dial-self-inside.ensures.room, omega arith, c.refuse_dial-self-inside.ensures.within)
