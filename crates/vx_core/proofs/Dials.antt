-- What each event leaves of the dials that were asked for, and of the count of core connections.
use Rattle.std.proofs.Common.{◌≡◌, ◌≢◌, ◌≤◌, ◌<◌, ◌+◌, ◌==◌, ℕ, Bool, true, false, cond, not, ◌||◌, List, [], ◌∷◌, map, length, count_by, ◌⊎◌, inl, inr, Option, Some, None, Result, Ok, Err, refl, sym, ap, subst, ◌∙◌, arith}
use Rattle.std.specs.Prelude.{option_and_then}
use Rattle.std.specs.Option.{option_map}
use Rattle.std.specs.List.{filter, list_any}
use Rattle.std.proofs.lemmas.Bool.{false≢true}
use Rattle.std.proofs.lemmas.Option.{none-some}
use Rattle.std.proofs.lemmas.List.Elements.{All-weaker}
use Rattle.std.proofs.lemmas.List.Filters.{length-filter_both}
use Rattle.vx_lemmas.proofs.Laws.Conditions.{other-number}
use Rattle.std.proofs.lemmas.Bool.{false≢true}
use Rattle.std.proofs.lemmas.Option.{none-some}
use Rattle.std.proofs.lemmas.List.Filters.{length-filter_both}
use Rattle.vx_lemmas.proofs.Laws.Conditions.{other-number}
use Rattle.vx_lemmas.proofs.Laws.Lists.{All-kept}
use Rattle.vx_calls.specs.declared.calls.Role.{Role}
use Rattle.vx_calls.specs.declared.calls.Role.TheVariants as role
use Rattle.vx_calls.specs.declared.codes.ErrorCode.{ErrorCode}
use Rattle.vx_calls.specs.declared.limits.TheConstants.{ROLE_MAX}
use Rattle.vx_calls.specs.declared.targets.Target.{Target}
use Rattle.vx_calls.specs.Target.{target}
use Rattle.vx_calls.specs.Call.{Call}
use Rattle.vx_calls.specs.Call as call
use Rattle.vx_calls.specs.Reply.{Reply}
use Rattle.vx_rules.specs.Table.{Link, is_live}
use Rattle.vx_rules.specs.Locks.{holds, with_lock}
use Rattle.vx_rules.specs.SrqState.{SrqState, Channel, channel_at, with_new_channel, without_slot, queued_on, handles_of, risen_slot, is_rise, sampled, taken_from, taken}
use Rattle.vx_rules.proofs.Laws.Slots.{sampled-next}
use Rattle.vx_rules.specs.State.{Pending, Connection, Tables, same_role, pending_at, count_of, with_pending, with_connection, without_connection}
use Rattle.vx_rules.proofs.Laws.Counting.{count-called, count-marks, count-down, count-up}
use Rattle.vx_rules.specs.Calls.{link_named}
use Rattle.vx_rules.specs.Checks.{NamedLink, NoLink, DeadLink, OnLink, named_link}
use Rattle.vx_rules.specs.Effects.{create, locked, effect_on, effect}
use Rattle.vx_rules.specs.Decide.{BusInput}
use Rattle.vx_rules.specs.AtomicStep.{arrived, names, mark_call, marked, abort_tables}
use Rattle.vx_rules.specs.State.{Pending, Connection, Tables, same_role, pending_at, count_of, with_pending, with_connection, without_connection}
use Rattle.vx_rules.specs.Calls.{link_named}
use Rattle.vx_rules.specs.Effects.{create, locked, effect_on, effect}
use Rattle.vx_rules.specs.Decide.{BusInput}
use Rattle.vx_rules.specs.AtomicStep.{arrived, names, mark_call, marked, abort_tables}
use Rattle.vx_rules.proofs.Laws.{up-next, pending-same}
use Rattle.vx_rules.proofs.Laws.Rows.{pending-other, pending-up, pending-others, pending-marked}
use Rattle.vx_flow.specs.Event.{Event, Up, Down, Arrive, Answer, Abort, Sample, Take, Begin, Move, Dial}
use Rattle.vx_flow.specs.InterleavedState.{InterleavedState}
use Rattle.vx_flow.specs.InterleavedStep.{wire_for, bus_input, without_dial, interleaved_step}
use Rattle.vx_flow.specs.Does.{AnsweredBy, ByAbort, ByNoLink, ByCheck, ByBar, ByDialUp, ByDialDown, ByEffect, ByNoRole, ByFault, ByWhole, ByTimeout, Step}
use Rattle.vx_flow.proofs.Laws.{interleaved-does, line-leaves, channel-risen, channel-up, channel-down, channel-taken}
use Rattle.vx_flow.proofs.Laws.Interrupts.{channel-other}
use Rattle.vx_core.specs.Keeping.{IsDialable, IsDialed, KeepsDials}
use Rattle.vx_core.proofs.Laws.{distinct-filter}

-- the event is neither the beginning nor a move of a turn, nor asks for a dial
abbrev pub is_still : Event → Bool
is_still (Begin conn now) = false
is_still (Move conn moves) = false
is_still (Dial conn now) = false
is_still _ = true

-- ---- a dial that stays

-- it stays where its call does and no channel comes
still-dialed : (t u : Tables) (n : ℕ) → pending_at u n ≡ pending_at t n → (channel_at t.srq_state n ≡ None → channel_at u.srq_state n ≡ None) → IsDialed t n → IsDialed u n
still-dialed t u n same free d = record { asked = d.asked; call_at = same ∙ d.call_at; unmarked = d.unmarked; dialable = d.dialable; free = free d.free }

-- so do all, where no channel number is given either
kept-dials : (t u : Tables) (dialed : List ℕ) → ((n : ℕ) → IsDialed t n → IsDialed u n) → u.srq_state.next_channel ≡ t.srq_state.next_channel → KeepsDials t dialed → KeepsDials u dialed
kept-dials t u dialed stays same k = record {
  each = All-weaker (IsDialed t) (IsDialed u) stays dialed k.each;
  once = k.once;
  numbers = omega (arith, same, k.numbers);
}

-- a connection that comes up
free-up : (t : Tables) (r : Role) (n : ℕ) → channel_at t.srq_state n ≡ None → channel_at (with_connection t r).srq_state n ≡ None
free-up t role.Core n h = channel-up t.srq_state t.next_connection n ∙ h
free-up t role.Abort n h = h

-- the dials behind it
up-dials : (t : Tables) (r : Role) (dialed : List ℕ) → KeepsDials t dialed → KeepsDials (with_connection t r) dialed
up-dials t r dialed k =
    kept-dials t (with_connection t r) dialed (λ n d. still-dialed t (with_connection t r) n (pending-up t r n) (free-up t r n) d) (up-next t r) k

-- a call that comes on a connection without one
idle-other : (t : Tables) (conn n : ℕ) → pending_at t conn ≡ None → IsDialed t n → conn ≢ n
idle-other t conn n none d e = none-some d.asked (sym none ∙ ap (pending_at t) e ∙ d.call_at)

-- the dials behind it
arrive-dials : (t : Tables) (conn : ℕ) (p : Option Pending) (dialed : List ℕ) → pending_at t conn ≡ None → KeepsDials t dialed → KeepsDials (with_pending t conn p) dialed
arrive-dials t conn p dialed none k =
    kept-dials t (with_pending t conn p) dialed
    (λ n d. still-dialed t (with_pending t conn p) n (pending-other t conn n p (idle-other t conn n none d)) (λ h. h) d) refl k

-- a create_intr_chan names no link
dialable-unnamed : (lid : ℕ) (asked : Call) → IsDialable asked → names lid (link_named asked) ≡ false
dialable-unnamed lid (call.CreateIntr host port prog vers family) d = refl
dialable-unnamed lid _ d = absurd d

-- so it stays unmarked where calls are marked
marked-dialed : (t : Tables) (lid n : ℕ) → IsDialed t n → IsDialed (marked t lid) n
marked-dialed t lid n d =
    let of : Bool → Pending = λ b. cond b (record d.asked { aborted = true }) d.asked in
    let same : mark_call lid d.asked ≡ d.asked = ap of (dialable-unnamed lid d.asked.call d.dialable) in
    record {
      asked = d.asked;
      call_at = pending-marked t lid n ∙ ap (option_map (mark_call lid)) d.call_at ∙ ap Some same;
      unmarked = d.unmarked;
      dialable = d.dialable;
      free = d.free;
    }

-- the dials behind an abort
abort-dials : (t : Tables) (lid : ℕ) (dialed : List ℕ) → KeepsDials t dialed → KeepsDials (abort_tables t lid) dialed
abort-dials t lid dialed k = by (is_live t.links lid) where
  by : (b : Bool) → KeepsDials (cond b (marked t lid) t) dialed
  by true = kept-dials t (marked t lid) dialed (marked-dialed t lid) refl k
  by false = k

-- a sample closes channels and makes none
free-sampled : (d : SrqState) (level : Bool) (n : ℕ) → channel_at d n ≡ None → channel_at (sampled d level) n ≡ None
free-sampled d level n h = by (is_rise d.level level) where
  by : (b : Bool) → channel_at (cond b (record d { slots = map (risen_slot d.enables) d.slots; level = level }) (record d { level = level })) n ≡ None
  by true = channel-risen d level n ∙ ap (option_and_then (queued_on (handles_of d.enables n))) h
  by false = h

-- the dials behind it
sample-dials : (t : Tables) (level : Bool) (dialed : List ℕ) → KeepsDials t dialed → KeepsDials (record t { srq_state = sampled t.srq_state level }) dialed
sample-dials t level dialed k =
    kept-dials t (record t { srq_state = sampled t.srq_state level }) dialed
    (λ n d. still-dialed t (record t { srq_state = sampled t.srq_state level }) n refl (free-sampled t.srq_state level n) d) (sampled-next t.srq_state level) k

-- and so does a take
free-taken : (d : SrqState) (conn number n : ℕ) → channel_at d n ≡ None → channel_at (taken d conn number) n ≡ None
free-taken d conn number n h =
    channel-taken d conn number n ∙ ap (λ (o : Option Channel). cond (n == conn) (option_map (taken_from number) o) o) h ∙ none (n == conn)
  where
    none : (b : Bool) → ◌≡◌ {A = Option Channel} (cond b None None) None
    none true = refl
    none false = refl

-- the dials behind it
take-dials : (t : Tables) (conn number : ℕ) (dialed : List ℕ) → KeepsDials t dialed → KeepsDials (record t { srq_state = taken t.srq_state conn number }) dialed
take-dials t conn number dialed k =
    kept-dials t (record t { srq_state = taken t.srq_state conn number }) dialed
    (λ n d. still-dialed t (record t { srq_state = taken t.srq_state conn number }) n refl (free-taken t.srq_state conn number n) d) refl k

-- ---- the dial of a call that is over

-- where a dial is taken away, no more are left
fewer-left : (dialed : List ℕ) (conn : ℕ) → length (without_dial dialed conn) ≤ length dialed
fewer-left dialed conn = omega (arith, length-filter_both (λ n. not (n == conn)) (λ n. not (not (n == conn))) (λ n. refl) dialed)

-- where one passes a test, a filter by it leaves one
one-passes : (p : ℕ → Bool) (ns : List ℕ) → list_any p ns ≡ true → 0 < length (filter p ns)
one-passes p [] h = absurd (false≢true h)
one-passes p (n ∷ ns) h = by (p n) h (one-passes p ns) where
  by : (b : Bool) → (b || list_any p ns) ≡ true → (list_any p ns ≡ true → 0 < length (filter p ns)) → 0 < length (cond b (n ∷ filter p ns) (filter p ns))
  by true k rest = omega arith
  by false k rest = rest k

-- a dial that was there leaves one less
one-left : (dialed : List ℕ) (conn : ℕ) → list_any (λ n. n == conn) dialed ≡ true → length (without_dial dialed conn) + 1 ≤ length dialed
one-left dialed conn h =
    omega (arith, one-passes (λ n. n == conn) dialed h, length-filter_both (λ n. n == conn) (λ n. not (n == conn)) (λ n. refl) dialed)

-- a connection that went
down-leaves : (t : Tables) (conn n : ℕ) → channel_at t.srq_state n ≡ None → channel_at (without_connection t conn).srq_state n ≡ None
down-leaves t conn n h = by (channel-down t.srq_state conn n) where
  by : (channel_at (without_slot t.srq_state conn) n ≡ channel_at t.srq_state n) ⊎ (channel_at (without_slot t.srq_state conn) n ≡ None) → channel_at (without_slot t.srq_state conn) n ≡ None
  by (inl same) = same ∙ h
  by (inr gone) = gone

-- the dials behind it
down-dials : (t : Tables) (conn : ℕ) (dialed : List ℕ) → KeepsDials t dialed → KeepsDials (without_connection t conn) (without_dial dialed conn)
down-dials t conn dialed k = record {
  each =
      All-kept (IsDialed t) (IsDialed (without_connection t conn)) (λ n. not (n == conn)) dialed
      (λ n other d. still-dialed t (without_connection t conn) n (pending-others t conn n (other-number n conn other)) (down-leaves t conn n) d) k.each;
  once = distinct-filter (λ n. not (n == conn)) dialed k.once;
  numbers = omega (arith, fewer-left dialed conn, k.numbers);
}

-- ---- what an answer leaves of the channels of others

-- What an answer leaves of the channels of other connections. A channel number that it gives was left for its dial.
record LeavesChannels (t u : Tables) (conn : ℕ) (dialed : List ℕ) : Type 0 where
  others : (n : ℕ) → conn ≢ n → channel_at u.srq_state n ≡ channel_at t.srq_state n
  numbers : u.srq_state.next_channel + length (without_dial dialed conn) ≤ t.srq_state.next_channel + length dialed

-- the dials behind it
answered-dials : (t u : Tables) (conn : ℕ) (dialed : List ℕ) → u.connections ≡ t.connections → LeavesChannels t u conn dialed
    → KeepsDials t dialed → KeepsDials (with_pending u conn None) (without_dial dialed conn)
answered-dials t u conn dialed same leaves k = record {
  each =
      All-kept (IsDialed t) (IsDialed (with_pending u conn None)) (λ n. not (n == conn)) dialed
      (λ n other d. still-dialed t (with_pending u conn None) n (pending-other u conn n None (other-number n conn other) ∙ pending-same t u n same)
      (λ h. leaves.others n (other-number n conn other) ∙ h) d) k.each;
  once = distinct-filter (λ n. not (n == conn)) dialed k.once;
  numbers = omega (arith, leaves.numbers, k.numbers);
}

-- tables with these channels, which give no number
same-numbers : (t u : Tables) (conn : ℕ) (dialed : List ℕ) → u.srq_state.next_channel ≡ t.srq_state.next_channel
    → ((n : ℕ) → conn ≢ n → channel_at u.srq_state n ≡ channel_at t.srq_state n) → LeavesChannels t u conn dialed
same-numbers t u conn dialed same others = record { others = others; numbers = omega (arith, same, fewer-left dialed conn) }

-- tables that stay
same-channels : (t u : Tables) (conn : ℕ) (dialed : List ℕ) → u ≡ t → LeavesChannels t u conn dialed
same-channels t u conn dialed e = subst (λ (x : Tables). LeavesChannels t x conn dialed) (sym e) (same-numbers t t conn dialed refl (λ n ne. refl))

-- what an effect leaves
abbrev FoundLeaves : Tables → ℕ → List ℕ → Option (Reply × Tables) → Type 0
FoundLeaves t conn dialed None = Unit {0}
FoundLeaves t conn dialed (Some d) = LeavesChannels t d.1 conn dialed

-- by effect: a link that is made
create-leaves : (t : Tables) (conn : ℕ) (dialed : List ℕ) (lock : Bool) (named : Result Target ErrorCode) → FoundLeaves t conn dialed (create t conn lock named)
create-leaves t conn dialed lock (Err error) = tt
create-leaves t conn dialed true (Ok named) = same-numbers t _ conn dialed refl (λ n ne. refl)
create-leaves t conn dialed false (Ok named) = same-numbers t _ conn dialed refl (λ n ne. refl)

-- a lock
locked-leaves : (t : Tables) (conn : ℕ) (dialed : List ℕ) (l : Link) → LeavesChannels t (locked t l) conn dialed
locked-leaves t conn dialed l = by (holds t.locks l.number) where
  by : (b : Bool) → LeavesChannels t (cond b t (record t { locks = with_lock t.locks l.number l.target })) conn dialed
  by true = same-numbers t t conn dialed refl (λ n ne. refl)
  by false = same-numbers t (record t { locks = with_lock t.locks l.number l.target }) conn dialed refl (λ n ne. refl)

-- a call on a link
effect_on-leaves : (t : Tables) (conn : ℕ) (dialed : List ℕ) (l : Link) (asked : Call) → FoundLeaves t conn dialed (effect_on t conn l asked)
effect_on-leaves t conn dialed l (call.Lock lid flags lock_timeout) = locked-leaves t conn dialed l
effect_on-leaves t conn dialed l (call.Unlock lid) = same-numbers t _ conn dialed refl (λ n ne. refl)
effect_on-leaves t conn dialed l (call.EnableSrq lid enable handle) = same-numbers t _ conn dialed refl (λ n ne. refl)
effect_on-leaves t conn dialed l (call.DestroyLink lid) = same-numbers t _ conn dialed refl (λ n ne. refl)
effect_on-leaves t conn dialed l _ = tt

-- every effect leaves the channels of others, and gives no number
effect-leaves : (t : Tables) (own conn : ℕ) (dialed : List ℕ) (about : NamedLink) (asked : Call) → FoundLeaves t conn dialed (effect t own conn about asked)
effect-leaves t own conn dialed (OnLink l) asked = effect_on-leaves t conn dialed l asked
effect-leaves t own conn dialed NoLink (call.CreateLink client lock lock_timeout device) = create-leaves t conn dialed lock (target device own)
effect-leaves t own conn dialed NoLink call.DestroyIntr = same-numbers t _ conn dialed refl (λ n ne. channel-other t.srq_state conn n None ne)
effect-leaves t own conn dialed NoLink _ = tt
effect-leaves t own conn dialed DeadLink asked = tt

-- the channel that a dial makes takes the number that was left for it
dial-leaves : (t : Tables) (conn program version : ℕ) (dialed : List ℕ) → list_any (λ n. n == conn) dialed ≡ true
    → LeavesChannels t (record t { srq_state = with_new_channel t.srq_state conn program version }) conn dialed
dial-leaves t conn program version dialed wanted = record {
  others = λ n ne. channel-other t.srq_state conn n _ ne;
  numbers = omega (arith, one-left dialed conn wanted);
}

-- so does every answer, by whichever line
line-channels : (f : InterleavedState) (conn now : ℕ) (p : Pending) (o : BusInput) (told : Reply) (after : Tables) → AnsweredBy f conn now p o told after
    → LeavesChannels f.state.tables after conn f.dialed
line-channels f conn now p o told after (ByAbort marked still stops) = same-channels f.state.tables after conn f.dialed stops.same
line-channels f conn now p o told after (ByNoLink unmarked dead still stops) = same-channels f.state.tables after conn f.dialed stops.same
line-channels f conn now p o told after (ByCheck error unmarked lives checked still stops) = same-channels f.state.tables after conn f.dialed stops.same
line-channels f conn now p o told after (ByBar bar unmarked checked barred waits still stops) = same-channels f.state.tables after conn f.dialed stops.same
line-channels f conn now p o told after (ByDialUp clear d told_is after_is) =
    subst (λ (x : Tables). LeavesChannels f.state.tables x conn f.dialed) (sym after_is) (dial-leaves f.state.tables conn d.program d.version f.dialed d.wanted)
line-channels f conn now p o told after (ByDialDown clear d told_is after_is) = same-channels f.state.tables after conn f.dialed after_is
line-channels f conn now p o told after (ByEffect clear bus dial still given) =
    subst (FoundLeaves f.state.tables conn f.dialed) given
    (effect-leaves f.state.tables (wire_for f conn).own conn f.dialed (named_link f.state.tables conn p.call) p.call)
line-channels f conn now p o told after (ByNoRole job clear has role still stops) = same-channels f.state.tables after conn f.dialed stops.same
line-channels f conn now p o told after (ByFault clear broken stops) = same-channels f.state.tables after conn f.dialed stops.same
line-channels f conn now p o told after (ByWhole clear done) = same-channels f.state.tables after conn f.dialed done.same
line-channels f conn now p o told after (ByTimeout clear overdue stops) = same-channels f.state.tables after conn f.dialed stops.same

-- ---- counts of core connections

-- marks leave it
count-marked : (t : Tables) (lid : ℕ) → count_of (abort_tables t lid) role.Core ≡ count_of t role.Core
count-marked t lid = by (is_live t.links lid) where
  by : (b : Bool) → count_of (cond b (marked t lid) t) role.Core ≡ count_of t role.Core
  by true = count-marks t lid
  by false = refl

-- ---- events

-- the dials of a state
abbrev HasDials : InterleavedState → Type 0
HasDials f = KeepsDials f.state.tables f.dialed

-- no more core connections live than may
abbrev IsFew : InterleavedState → Type 0
IsFew f = count_of f.state.tables role.Core ≤ ROLE_MAX

-- by event: the dials
dials-step : (e : Event) (f g : InterleavedState) → is_still e ≡ true → HasDials f → Step f e g → HasDials g
dials-step (Up conn r) f g still k d = subst HasDials (sym d.leads) (up-dials f.state.tables r f.dialed k)
dials-step (Down conn) f g still k d = subst HasDials (sym d.leads) (down-dials f.state.tables conn f.dialed k)
dials-step (Arrive conn asked now) f g still k d =
    subst HasDials (sym d.leads) (arrive-dials f.state.tables conn (Some (arrived asked now)) f.dialed d.idle k)
dials-step (Answer conn now failed dialed level told) f g still k d =
    let o : BusInput = bus_input f conn failed dialed level in
    let leaves = line-leaves f conn now d.asked o told d.after d.line in
    subst HasDials (sym d.leads)
    (answered-dials f.state.tables d.after conn f.dialed leaves.connections (line-channels f conn now d.asked o told d.after d.line) k)
dials-step (Abort conn lid told) f g still k d = subst HasDials (sym d.leads) (abort-dials f.state.tables lid f.dialed k)
dials-step (Sample now srq) f g still k d = subst HasDials (sym d.leads) (sample-dials f.state.tables srq f.dialed k)
dials-step (Take conn chan told) f g still k d = subst HasDials (sym d.leads) (take-dials f.state.tables conn chan f.dialed k)
dials-step (Begin conn now) f g still k d = absurd (false≢true still)
dials-step (Move conn moves) f g still k d = absurd (false≢true still)
dials-step (Dial conn now) f g still k d = absurd (false≢true still)

-- a channel number is left for each dial, and each is asked for once, by a call that its checks let pass
pub dials-after : (f g : InterleavedState) (e : Event) → is_still e ≡ true → KeepsDials f.state.tables f.dialed → interleaved_step f e ≡ Some g → KeepsDials g.state.tables g.dialed
dials-after f g e still k h = dials-step e f g still k (interleaved-does f g e h).step

-- where the count stays
few-same : (t u : Tables) → count_of u role.Core ≡ count_of t role.Core → count_of t role.Core ≤ ROLE_MAX → count_of u role.Core ≤ ROLE_MAX
few-same t u same few = subst (λ n. n ≤ ROLE_MAX) (sym same) few

-- and where a call is over
few-answered : (t u : Tables) (conn : ℕ) → u.connections ≡ t.connections → count_of t role.Core ≤ ROLE_MAX → count_of (with_pending u conn None) role.Core ≤ ROLE_MAX
few-answered t u conn same few =
    few-same t (with_pending u conn None) (count-called u conn None ∙ ap (λ cs. count_by (λ (c : Connection). same_role c.role role.Core) cs) same) few

-- by event: the count
few-step : (e : Event) (f g : InterleavedState) → IsFew f → Step f e g → IsFew g
few-step (Up conn r) f g few d = subst IsFew (sym d.leads) (count-up f.state.tables r d.room few)
few-step (Down conn) f g few d = subst IsFew (sym d.leads) (omega (arith, few, count-down f.state.tables conn))
few-step (Arrive conn asked now) f g few d =
    let t = f.state.tables in
    subst IsFew (sym d.leads) (few-same t (with_pending t conn (Some (arrived asked now))) (count-called t conn (Some (arrived asked now))) few)
few-step (Answer conn now failed dialed level told) f g few d =
    let leaves = line-leaves f conn now d.asked (bus_input f conn failed dialed level) told d.after d.line in
    subst IsFew (sym d.leads) (few-answered f.state.tables d.after conn leaves.connections few)
few-step (Abort conn lid told) f g few d =
    subst IsFew (sym d.leads) (few-same f.state.tables (abort_tables f.state.tables lid) (count-marked f.state.tables lid) few)
few-step (Sample now srq) f g few d = subst IsFew (sym d.leads) few
few-step (Take conn chan told) f g few d = subst IsFew (sym d.leads) few
few-step (Begin conn now) f g few d = subst IsFew (sym d.leads) few
few-step (Move conn moves) f g few d = subst IsFew (sym d.leads) few
few-step (Dial conn now) f g few d = subst IsFew (sym d.leads) few

-- and no more core connections live than may
pub few-after : (f g : InterleavedState) (e : Event) → count_of f.state.tables role.Core ≤ ROLE_MAX → interleaved_step f e ≡ Some g → count_of g.state.tables role.Core ≤ ROLE_MAX
few-after f g e few h = few-step e f g few (interleaved-does f g e h).step
