-- What an answer leaves of the interrupt channels: which connections have none, and how many numbers were given out.
use Rattle.std.proofs.Common.{◌≡◌, ◌≢◌, ◌==◌, ◌≤◌, ◌+◌, ℕ, suc, Bool, true, false, cond, List, [], ◌∷◌, length, Option, Some, None, ◌⊎◌, inl, inr, refl, sym, ap, ◌∙◌, subst, arith}
use Rattle.std.specs.Prelude.{Result, Ok, Err}
use Rattle.vx_calls.specs.declared.codes.ErrorCode.{ErrorCode}
use Rattle.vx_calls.specs.declared.targets.Target.{Target}
use Rattle.vx_calls.specs.Target.{target}
use Rattle.vx_calls.specs.Call.{Call}
use Rattle.vx_calls.specs.Call as call
use Rattle.vx_calls.specs.Reply.{Reply}
use Rattle.vx_rules.specs.Table.{Link}
use Rattle.vx_rules.specs.Locks.{holds, with_lock}
use Rattle.vx_rules.specs.SrqState.{SrqState, channel_at, with_channel, new_channel}
use Rattle.vx_rules.specs.State.{Pending, Connection, Tables, with_pending}
use Rattle.vx_rules.specs.Lists.{update_first}
use Rattle.vx_rules.specs.Calls.{asks_dial}
use Rattle.vx_rules.specs.Checks.{NamedLink, NoLink, DeadLink, OnLink, named_link}
use Rattle.vx_rules.specs.Effects.{locked, create, effect_on, effect}
use Rattle.vx_rules.specs.Decide.{BusInput}
use Rattle.vx_flow.specs.InterleavedState.{InterleavedState}
use Rattle.vx_flow.specs.InterleavedStep.{wire_for}
use Rattle.vx_flow.specs.Does.{AnsweredBy, ByAbort, ByNoLink, ByCheck, ByBar, ByDialUp, ByDialDown, ByEffect, ByNoRole, ByFault, ByWhole, ByTimeout}
use Rattle.vx_flow.proofs.Laws.{channel-put, line-leaves}
use Rattle.vx_flow.proofs.Laws.Interrupts.{channel-other}

-- ---- what one change leaves

-- each of these connections that had no channel has none, and at most one number more was given out
pub record KeepsFree (Free : ℕ → Type 0) (old new : SrqState) : Type 0 where
  pub free : (n : ℕ) → Free n → channel_at old n ≡ None → channel_at new n ≡ None
  pub numbers : new.next_channel ≤ old.next_channel + 1

-- so it is where nothing changed
same-free : (Free : ℕ → Type 0) (d : SrqState) → KeepsFree Free d d
same-free Free d = record { free = λ n is none. none; numbers = omega arith }

-- a channel that goes leaves none in its place
channel-gone : (d : SrqState) (conn n : ℕ) → channel_at d n ≡ None → channel_at (with_channel d conn None) n ≡ None
channel-gone d conn n none = by (channel-put d conn n None) where
  by : (channel_at (with_channel d conn None) n ≡ channel_at d n) ⊎ (channel_at (with_channel d conn None) n ≡ None) → channel_at (with_channel d conn None) n ≡ None
  by (inl e) = e ∙ none
  by (inr e) = e

-- ---- what an effect leaves

-- what an effect leaves, where there is one
abbrev EffectKeeps : (ℕ → Type 0) → Tables → Option (Reply × Tables) → Type 0
EffectKeeps Free t None = Unit {0}
EffectKeeps Free t (Some (told, after)) = KeepsFree Free t.srq_state after.srq_state

-- a lock that is taken
locked-keeps : (Free : ℕ → Type 0) (t : Tables) (l : Link) → KeepsFree Free t.srq_state (locked t l).srq_state
locked-keeps Free t l = by (holds t.locks l.number) (same-free Free t.srq_state) where
  by : (b : Bool) → KeepsFree Free t.srq_state t.srq_state → KeepsFree Free t.srq_state (cond b t (record t { locks = with_lock t.locks l.number l.target })).srq_state
  by true same = same
  by false same = same

-- a call on a link
effect_on-keeps : (Free : ℕ → Type 0) (t : Tables) (conn : ℕ) (l : Link) (asked : Call) → EffectKeeps Free t (effect_on t conn l asked)
effect_on-keeps Free t conn l (call.Lock lid flags lock_timeout) = locked-keeps Free t l
effect_on-keeps Free t conn l (call.Unlock lid) = same-free Free t.srq_state
effect_on-keeps Free t conn l (call.EnableSrq lid enable handle) = record { free = λ n is none. none; numbers = omega arith }
effect_on-keeps Free t conn l (call.DestroyLink lid) = record { free = λ n is none. none; numbers = omega arith }
effect_on-keeps Free t conn l _ = tt

-- a link that is made
create-keeps : (Free : ℕ → Type 0) (t : Tables) (conn : ℕ) (lock : Bool) (named : Result Target ErrorCode) → EffectKeeps Free t (create t conn lock named)
create-keeps Free t conn true (Ok named) = same-free Free t.srq_state
create-keeps Free t conn false (Ok named) = same-free Free t.srq_state
create-keeps Free t conn lock (Err error) = tt

-- each call
effect-keeps : (Free : ℕ → Type 0) (t : Tables) (own conn : ℕ) (about : NamedLink) (asked : Call) → EffectKeeps Free t (effect t own conn about asked)
effect-keeps Free t own conn (OnLink l) asked = effect_on-keeps Free t conn l asked
effect-keeps Free t own conn NoLink (call.CreateLink client lock lock_timeout device) = create-keeps Free t conn lock (target device own)
effect-keeps Free t own conn NoLink call.DestroyIntr = record { free = λ n is none. channel-gone t.srq_state conn n none; numbers = omega arith }
effect-keeps Free t own conn NoLink _ = tt
effect-keeps Free t own conn DeadLink asked = tt

-- ---- what an answer leaves

-- a call that asks for a dial gives no other connection a channel
pub line-keeps : (Free : ℕ → Type 0) (f : InterleavedState) (conn now : ℕ) (p : Pending) (o : BusInput) (told : Reply) (after : Tables)
    → (asks_dial p.call ≡ true → (n : ℕ) → Free n → conn ≢ n) → AnsweredBy f conn now p o told after → KeepsFree Free f.state.tables.srq_state after.srq_state
line-keeps Free f conn now p o told after apart = by where
  same : after ≡ f.state.tables → KeepsFree Free f.state.tables.srq_state after.srq_state
  same e = subst (λ (t : Tables). KeepsFree Free f.state.tables.srq_state t.srq_state) (sym e) (same-free Free f.state.tables.srq_state)

  by : AnsweredBy f conn now p o told after → KeepsFree Free f.state.tables.srq_state after.srq_state
  by (ByAbort marked still stops) = same stops.same
  by (ByNoLink unmarked dead still stops) = same stops.same
  by (ByCheck error unmarked lives checked still stops) = same stops.same
  by (ByBar bar unmarked checked barred waits still stops) = same stops.same
  by (ByDialUp clear d told_is after_is) =
      let dial : asks_dial p.call ≡ true = ap asks_dial d.asks in
      let d0 = f.state.tables.srq_state in
      subst (λ (t : Tables). KeepsFree Free d0 t.srq_state) (sym after_is)
      (record {
        free = λ n is none. channel-other d0 conn n (Some (new_channel d0.next_channel d.program d.version)) (apart dial n is) ∙ none;
        numbers = omega arith;
      })
  by (ByDialDown clear d told_is after_is) = same after_is
  by (ByEffect clear bus dial still given) =
      subst (EffectKeeps Free f.state.tables) given (effect-keeps Free f.state.tables (wire_for f conn).own conn (named_link f.state.tables conn p.call) p.call)
  by (ByNoRole job clear has role still stops) = same stops.same
  by (ByFault clear broken stops) = same stops.same
  by (ByWhole clear done) = same done.same
  by (ByTimeout clear overdue stops) = same stops.same

-- ---- tables with room for channels

-- few connections live, few channel numbers were given out, and these connections have no channel
pub record HasRoom (most : ℕ) (Free : ℕ → Type 0) (t : Tables) : Type 0 where
  pub few : length t.connections ≤ 5
  pub numbers : t.srq_state.next_channel ≤ most
  pub free : (n : ℕ) → Free n → channel_at t.srq_state n ≡ None

-- a list that was changed at one place is as long
length-update : {X : Type 0} (p : X → Bool) (g : X → X) (xs : List X) → length (update_first p g xs) ≡ length xs
length-update p g [] = refl
length-update {X} p g (x ∷ xs) = by (p x) (length-update p g xs) where
  by : (b : Bool) → length (update_first p g xs) ≡ length xs → length (cond b (g x ∷ xs) (x ∷ update_first p g xs)) ≡ length (x ∷ xs)
  by true rest = refl
  by false rest = ap (λ n. suc n) rest

-- a call that comes or goes leaves room
pub room-called : (most : ℕ) (Free : ℕ → Type 0) (t : Tables) (conn : ℕ) (p : Option Pending) → HasRoom most Free t → HasRoom most Free (with_pending t conn p)
room-called most Free t conn p room =
    let same = length-update (λ (c : Connection). c.number == conn) (λ c. record c { pending = p }) t.connections in
    let few = room.few in
    record { few = omega arith; numbers = room.numbers; free = room.free }

-- an answer takes at most one number
pub room-answered : (most : ℕ) (Free Left : ℕ → Type 0) (f : InterleavedState) (conn now : ℕ) (p : Pending) (o : BusInput) (told : Reply) (after : Tables)
    → ((n : ℕ) → Left n → Free n) → (asks_dial p.call ≡ true → (n : ℕ) → Left n → conn ≢ n) → AnsweredBy f conn now p o told after → HasRoom most Free f.state.tables
    → HasRoom (most + 1) Left after
room-answered most Free Left f conn now p o told after fewer apart line room =
    let keeps = line-keeps Left f conn now p o told after apart line in
    let few = room.few in
    let numbers = room.numbers in
    let more = keeps.numbers in
    let same : length after.connections ≡ length f.state.tables.connections = ap (λ (cs : List Connection). length cs) (line-leaves f conn now p o told after line).connections in
    record { few = omega arith; numbers = omega arith; free = λ n is. keeps.free n is (room.free n (fewer n is)) }
