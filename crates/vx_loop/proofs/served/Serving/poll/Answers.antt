use Rattle.std.proofs.Common.{◌≡◌, ◌+◌, ◌-◌, ◌^◌, ◌≤◌, ℕ, List, true, length, take, sym, ap, subst, ◌∙◌, arith}
use Rattle.std.specs.Prelude.{is_some}
use Rattle.std.proofs.lemmas.List.{with_items_is}
use Rattle.std.specs.Vec.{with_items}
use Rattle.vx_rules.specs.State.{pending_at}
use Rattle.vx_loop.specs.LoopState.{ServedState}
use Rattle.vx_loop.specs.Standing.{IsLoopKept, WaitsTo}
use Rattle.vx_loop.proofs.Going.{seen, fit-kept, wait-on, waits-none}
use Rattle.vx_loop.proofs.served.Serving.poll.Goals as goal

pub poll-self-inside-requires-clause-fit : goal.poll-self-inside-requires-clause-fit
poll-self-inside-requires-clause-fit g c = fit-kept _ (subst IsLoopKept (sym c.self.view_is) c.requires.kept)

pub returns-clause-waits : goal.returns-clause-waits
returns-clause-waits g c =
    let s = seen c.self.inside.core c.self.inside.buffer c.self.inside.xid c.self.inside.from c.self.inside.to c.self.inside.reply.items in
    let n = c.poll-self-inside.result in
    let room = with_items_is c.self.inside.reply c.poll-self-inside.new.reply (c.poll-self-inside.auto.reply ∙ c.deref_mut.ensures.len) in
    let state : List ℕ → ServedState = λ xs. record s { core = c.poll-self-inside.new.core; left = take n xs } in
    subst (λ (x : ServedState). IsLoopKept x → is_some (pending_at x.core.interleaved.state.tables 1) ≡ true → WaitsTo x (state (with_items c.self.inside.reply c.poll-self-inside.new.reply).items)) c.self.view_is
    (λ k some. subst (λ xs. WaitsTo s (state xs)) (sym room)
    (wait-on s c.poll-self-inside.new.core (take n c.poll-self-inside.new.reply) k some (c.moment-now.result + 1) (ap (λ m. m + 1) c.moment-now.ensures)
    c.poll-self-inside.ensures.continues)) c.requires.kept c.requires.pending

pub poll-self-inside-requires-clause-pending : goal.poll-self-inside-requires-clause-pending
poll-self-inside-requires-clause-pending g c = subst (λ (s : ServedState). is_some (pending_at s.core.interleaved.state.tables 1) ≡ true) (sym c.self.view_is) c.requires.pending

pub returns-then-now-clause-waits : goal.returns-then-now-clause-waits
returns-then-now-clause-waits g c = waits-none c.args.self.now c.requires.kept

pub returns-then-now-clause-last : goal.returns-then-now-clause-last
returns-then-now-clause-last g c =
    λ same. (subst (λ (s : ServedState). 2 ^ 64 - 1 ≤ s.core.interleaved.state.moment) c.self.view_is (omega (arith, c.if-now.true, c.moment-now.ensures)), c.requires.pending)

pub poll-self-inside-requires-clause-late : goal.poll-self-inside-requires-clause-late
poll-self-inside-requires-clause-late g c = omega (arith, c.moment-now.ensures)

pub poll-self-inside-requires-clause-room : goal.poll-self-inside-requires-clause-room
poll-self-inside-requires-clause-room g c = ap length c.deref_mut.ensures.value ∙ c.self.invariant.0

pub invariant_of-self : goal.invariant_of-self
invariant_of-self g c =
    let room = with_items_is c.self.inside.reply c.poll-self-inside.new.reply (c.poll-self-inside.auto.reply ∙ c.deref_mut.ensures.len) in
    (ap length room ∙ c.poll-self-inside.ensures.room, omega arith, c.poll-self-inside.ensures.within)
