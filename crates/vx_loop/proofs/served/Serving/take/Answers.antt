use Rattle.std.proofs.Common.{◌≡◌, ◌≤◌, ℕ, List, [], None, true, false, inl, inr, length, take, refl, sym, ap, ◌∙◌, subst, arith}
use Rattle.std.proofs.lemmas.List.{with_items_is}
use Rattle.std.specs.Vec.{with_items}
use Rattle.vx_calls.specs.declared.calls.Role.TheVariants as role
use Rattle.vx_record.specs.Buffer.{BufState, fresh}
use Rattle.vx_exchange.specs.Meaning.{meaning}
use Rattle.vx_rules.specs.State.{pending_at, lives_as}
use Rattle.vx_loop.specs.Gateway.{gateway_of}
use Rattle.vx_loop.specs.LoopState.{ServedState}
use Rattle.vx_loop.specs.Serving.{lives}
use Rattle.vx_loop.specs.Standing.{IsLoopKept, IsLoopRefused, TakesTo}
use Rattle.vx_loop.proofs.Going.{seen, IsFree, IsGood, take-more, take-whole, gone_state, down-of, refused-to}
use Rattle.vx_loop.proofs.served.Serving.take.Goals as goal

pub returns-in-More : goal.returns-in-More
returns-in-More g c =
    let s = seen c.self.inside.core c.self.inside.buffer c.self.inside.xid c.self.inside.from c.self.inside.to c.self.inside.reply.items in
    let fed = c.feed-fed.new.self in
    let new : ServedState = record s { buffer = fed } in
    let piece = take c.feed-fed.result.took c.args.from.now in
    let made = subst (λ (x : ServedState). IsLoopKept x → IsFree x → TakesTo x new piece × IsGood x c.args.from.now new) c.self.view_is
    (λ k free. take-more s c.args.from.now c.feed-fed.result.took fed k free (c.feed-fed.ensures.more c.in-More.is) c.feed-fed.ensures.after (sym c.feed-fed.ensures.state ∙ c.in-More.is)
    c.feed-fed.ensures.limit) c.requires.kept (record { alive = c.requires.lives; none = c.requires.idle.0 }) in
    record { broke = tt; cause = tt; ended = tt; took = (c.feed-fed.ensures.some c.requires.some, c.feed-fed.ensures.within, made.0); stays = made.1 }

pub returns-in-Some : goal.returns-in-Some
returns-in-Some g c =
    let s = seen c.self.inside.core c.self.inside.buffer c.self.inside.xid c.self.inside.from c.self.inside.to c.self.inside.reply.items in
    let after = c.feed-fed.ensures.after in
    let some = c.feed-fed.ensures.some c.requires.some in
    let whole = ap (λ (b : BufState). b.state) (sym after) ∙ sym c.feed-fed.ensures.state ∙ c.in-Whole.is in
    let kept = c.whole-message.ensures.bytes ∙ ap (λ (b : BufState). b.kept) after in
    let n = c.in-Some.len in
    let room = with_items_is c.self.inside.reply c.answer-served.new.reply (c.answer-served.auto.reply ∙ c.deref_mut.ensures.len) in
    let state : List ℕ → ServedState =
    λ xs. record { core = c.answer-served.new.core; buffer = c.restart.new.self; xid = c.answer-served.new.xid; left = take n xs } in
    let Made : ServedState → List ℕ → Type 0 = λ x xs. TakesTo x (state xs) (take c.feed-fed.result.took c.args.from.now) × IsGood x c.args.from.now (state xs) in
    let made = subst (λ (x : ServedState). IsLoopKept x → IsFree x → x.left ≡ [] → Made x (with_items c.self.inside.reply c.answer-served.new.reply).items) c.self.view_is
    (λ k free nothing. subst (Made s) (sym room)
    (take-whole s c.args.from.now c.whole-message.result.now c.feed-fed.result.took c.restart.new.self c.answer-served.new.core c.answer-served.new.xid
    (take n c.answer-served.new.reply) k free nothing c.feed-fed.ensures.took some whole kept
    (c.restart.ensures ∙ ap fresh (c.feed-fed.ensures.limit ∙ k.limit)) c.in-Some.ensures.served))
    c.requires.kept (record { alive = c.requires.lives; none = c.requires.idle.0 }) c.requires.idle.1 in
    record { broke = tt; cause = tt; ended = tt; took = (some, c.feed-fed.ensures.within, made.0); stays = made.1 }

pub returns-in-None : goal.returns-in-None
returns-in-None g c =
    let s = seen c.self.inside.core c.self.inside.buffer c.self.inside.xid c.self.inside.from c.self.inside.to c.self.inside.reply.items in
    let after = c.feed-fed.ensures.after in
    let whole = ap (λ (b : BufState). b.state) (sym after) ∙ sym c.feed-fed.ensures.state ∙ c.in-Whole.is in
    let kept = c.whole-message.ensures.bytes ∙ ap (λ (b : BufState). b.kept) after in
    let new : ServedState = gone_state c.disconnect.new.self c.restart.new.self c.answer-served.new.xid [] in
    let made = subst (λ (x : ServedState). IsLoopKept x → IsFree x → x.left ≡ [] → TakesTo x new [] × IsLoopRefused x c.args.from.now × (lives (gateway_of new.core) ≡ false)) c.self.view_is
    (λ k free nothing. refused-to s c.disconnect.new.self c.restart.new.self c.answer-served.new.xid [] k (sym nothing)
    (down-of s.core c.answer-served.new.core c.disconnect.new.self c.in-None.ensures.junk c.disconnect.ensures.interleaved c.disconnect.ensures.walk)
    (c.restart.ensures ∙ ap fresh (c.feed-fed.ensures.limit ∙ k.limit)) c.args.from.now free (inr (whole, ap (λ m. meaning m role.Core) (sym kept) ∙ c.in-None.ensures.means)))
    c.requires.kept (record { alive = c.requires.lives; none = c.requires.idle.0 }) c.requires.idle.1 in
    record { took = tt; stays = tt; broke = made.0; cause = made.1; ended = made.2 }

pub returns-in-TooLong : goal.returns-in-TooLong
returns-in-TooLong g c =
    let s = seen c.self.inside.core c.self.inside.buffer c.self.inside.xid c.self.inside.from c.self.inside.to c.self.inside.reply.items in
    let long = ap (λ (b : BufState). b.state) (sym c.feed-fed.ensures.after) ∙ sym c.feed-fed.ensures.state ∙ c.in-TooLong.is in
    let new : ServedState = gone_state c.disconnect-in-TooLong.new.self c.restart-in-TooLong.new.self s.xid s.left in
    let made = subst (λ (x : ServedState). IsLoopKept x → IsFree x → TakesTo x new [] × IsLoopRefused x c.args.from.now × (lives (gateway_of new.core) ≡ false)) c.self.view_is
    (λ k free. refused-to s c.disconnect-in-TooLong.new.self c.restart-in-TooLong.new.self s.xid s.left k refl
    (record { events = c.disconnect-in-TooLong.ensures.interleaved; bus = c.disconnect-in-TooLong.ensures.walk })
    (c.restart-in-TooLong.ensures ∙ ap fresh (c.feed-fed.ensures.limit ∙ k.limit)) c.args.from.now free (inl long))
    c.requires.kept (record { alive = c.requires.lives; none = c.requires.idle.0 }) in
    record { took = tt; stays = tt; broke = made.0; cause = made.1; ended = made.2 }

pub answer-served-requires-clause-lives : goal.answer-served-requires-clause-lives
answer-served-requires-clause-lives g c = subst (λ (s : ServedState). lives_as s.core.interleaved.state.tables 1 role.Core ≡ true) (sym c.self.view_is) c.requires.lives

pub answer-served-requires-clause-idle : goal.answer-served-requires-clause-idle
answer-served-requires-clause-idle g c = subst (λ (s : ServedState). pending_at s.core.interleaved.state.tables 1 ≡ None) (sym c.self.view_is) c.requires.idle.0

pub answer-served-requires-clause-calm : goal.answer-served-requires-clause-calm
answer-served-requires-clause-calm g c = (subst IsLoopKept (sym c.self.view_is) c.requires.kept).calm (answer-served-requires-clause-idle g c)

pub answer-served-requires-clause-reached : goal.answer-served-requires-clause-reached
answer-served-requires-clause-reached g c = (subst IsLoopKept (sym c.self.view_is) c.requires.kept).reached

pub answer-served-requires-clause-short : goal.answer-served-requires-clause-short
answer-served-requires-clause-short g c =
    subst (λ n. length c.whole-message.result.now ≤ n) (c.feed-fed.ensures.limit ∙ (subst IsLoopKept (sym c.self.view_is) c.requires.kept).limit) c.whole-message.ensures.fits

pub answer-served-requires-clause-room : goal.answer-served-requires-clause-room
answer-served-requires-clause-room g c = ap length c.deref_mut.ensures.value ∙ c.self.invariant.0

pub whole-message-requires : goal.whole-message-requires
whole-message-requires g c = sym c.feed-fed.ensures.state ∙ c.in-Whole.is

pub invariant_of-self : goal.invariant_of-self
invariant_of-self g c = c.self.invariant

pub invariant_of-self-in-Some : goal.invariant_of-self-in-Some
invariant_of-self-in-Some g c =
    let room = with_items_is c.self.inside.reply c.answer-served.new.reply (c.answer-served.auto.reply ∙ c.deref_mut.ensures.len) in
    (ap length room ∙ c.answer-served.ensures.room, omega arith, c.in-Some.ensures.within)

pub invariant_of-self-in-None : goal.invariant_of-self-in-None
invariant_of-self-in-None g c =
    let room = with_items_is c.self.inside.reply c.answer-served.new.reply (c.answer-served.auto.reply ∙ c.deref_mut.ensures.len) in
    (ap length room ∙ c.answer-served.ensures.room, omega arith, omega arith)
