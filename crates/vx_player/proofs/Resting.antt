-- The calls of a run's head: behind each no call is pending, but for a create_intr_chan, whose dial is asked for at once.
use Rattle.std.proofs.Common.{◌≡◌, ◌≢◌, ◌==◌, ◌≤◌, ◌+◌, ℕ, Bool, true, false, not, List, [], ◌∷◌, ◌++◌, Option, Some, None, ◌⊎◌, inl, inr, refl, sym, ap, ◌∙◌, subst, arith}
use Rattle.std.specs.Prelude.{is_some, ◌&&◌, ◌||◌}
use Rattle.std.specs.List.{list_any}
use Rattle.std.proofs.lemmas.Bool.{cases_eq, cond-true, cond-false, eq-eqb, ne_eqb, or_right, false≢true}
use Rattle.std.proofs.lemmas.Bool.Decides.{nat_tests}
use Rattle.std.proofs.lemmas.List.Sums.{count_by-le-length}
use Rattle.std.proofs.lemmas.Option.{same_Some}
use Rattle.vx_calls.specs.declared.codes.ErrorCode.TheVariants as code
use Rattle.vx_calls.specs.declared.limits.TheConstants.{CONNECTION_LAST}
use Rattle.vx_calls.specs.Call.{Call}
use Rattle.vx_calls.specs.Call as call
use Rattle.vx_calls.specs.Reply.{Reply}
use Rattle.vx_488.specs.declared.transfers.Transfer.{Transfer}
use Rattle.vx_rules.specs.SrqState.{channel_at}
use Rattle.vx_rules.specs.State.{Pending, Connection, Tables, pending_at, with_pending}
use Rattle.vx_rules.proofs.Laws.Rows.{pending-put, pending-over, pending-other}
use Rattle.vx_rules.proofs.Laws.{pending-same}
use Rattle.vx_rules.specs.Calls.{asks_dial}
use Rattle.vx_rules.specs.Checks.{asks_channel, numbers_asked, has_channel_number, check_channel}
use Rattle.vx_rules.specs.Decide.{BusInput}
use Rattle.vx_rules.specs.AtomicStep.{arrived}
use Rattle.vx_flow.specs.Event.{Arrive, Answer, Dial}
use Rattle.vx_flow.specs.InterleavedState.{InterleavedState}
use Rattle.vx_flow.specs.InterleavedStep.{interleaved_step, without_dial, bus_input}
use Rattle.vx_flow.specs.Sound.{IsSound}
use Rattle.vx_flow.specs.Poll.{Ending, Polls}
use Rattle.vx_flow.specs.Does.{IsAnswered}
use Rattle.vx_flow.proofs.Laws.{interleaved-does, stays_sound-law, later-sound, line-leaves}
use Rattle.vx_player.proofs.Idle.{idle-stays}
use Rattle.vx_player.proofs.Brief.{IsBrief, answered-now, dialed-now}
use Rattle.vx_player.proofs.Room.{HasRoom, room-called, room-answered}

-- a gateway between the calls of a head: no call is pending
pub record IsResting (most : ℕ) (Free : ℕ → Type 0) (f : InterleavedState) : Type 0 where
  pub sound : IsSound f
  pub room : HasRoom most Free f.state.tables
  pub idle : (n : ℕ) → pending_at f.state.tables n ≡ None

-- one of which the dial of a connection's call was asked for
pub record IsDialing (most : ℕ) (Free : ℕ → Type 0) (conn : ℕ) (f : InterleavedState) : Type 0 where
  pub sound : IsSound f
  pub room : HasRoom most Free f.state.tables
  pub others : (n : ℕ) → conn ≢ n → pending_at f.state.tables n ≡ None
  pub wanted : list_any (λ n. n == conn) f.dialed ≡ true

-- ---- a call comes

-- it is pending, and no other is
record HasCome (most : ℕ) (Free : ℕ → Type 0) (conn now : ℕ) (asked : Call) (f : InterleavedState) : Type 0 where
  sound : IsSound f
  room : HasRoom most Free f.state.tables
  others : (n : ℕ) → conn ≢ n → pending_at f.state.tables n ≡ None
  here : pending_at f.state.tables conn ≡ Some (arrived asked now)

-- two numbers that aren't one
not-same : (n m : ℕ) → n ≢ m → not (n == m) ≡ true
not-same n m ne = ap not (ne_eqb n m ne)

-- so it is where no call was pending
comes : (most : ℕ) (Free : ℕ → Type 0) (conn now : ℕ) (asked : Call) (f come : InterleavedState) → IsResting most Free f → interleaved_step f (Arrive conn asked now) ≡ Some come
    → HasCome most Free conn now asked come
comes most Free conn now asked f come rests h =
    let d = (interleaved-does f come (Arrive conn asked now) h).step in
    record {
      sound = stays_sound-law f come (Arrive conn asked now) rests.sound h;
      room = subst (λ (x : InterleavedState). HasRoom most Free x.state.tables) (sym d.leads)
          (room-called most Free f.state.tables conn (Some (arrived asked now)) rests.room);
      others = λ n ne. idle-stays n f come (Arrive conn asked now) (not-same conn n ne) h (rests.idle n);
      here = ap (λ (x : InterleavedState). pending_at x.state.tables conn) d.leads ∙ pending-put f.state.tables conn (Some (arrived asked now)) _ d.core;
    }

-- ---- it is answered

-- behind an answer no call is pending
answered : (most : ℕ) (Free Left : ℕ → Type 0) (conn now : ℕ) (o : BusInput) (told : Reply) (f g : InterleavedState) → IsSound g → HasRoom most Free f.state.tables
    → ((n : ℕ) → conn ≢ n → pending_at f.state.tables n ≡ None) → ((n : ℕ) → Left n → Free n) → (a : IsAnswered f conn now o told g)
    → (asks_dial a.asked.call ≡ true → (n : ℕ) → Left n → conn ≢ n) → IsResting (most + 1) Left g
answered most Free Left conn now o told f g sound room others fewer a apart = record {
  sound = sound;
  room = subst (λ (x : InterleavedState). HasRoom (most + 1) Left x.state.tables) (sym a.leads)
      (room-called (most + 1) Left a.after conn None (room-answered most Free Left f conn now a.asked o told a.after fewer apart a.line room));
  idle = λ n. ap (λ (x : InterleavedState). pending_at x.state.tables n) a.leads ∙ by n (cases_eq conn n);
}
  where
    by : (n : ℕ) → (conn ≡ n) ⊎ (conn ≡ n → ⊥) → pending_at (with_pending a.after conn None) n ≡ None
    by n (inl e) = subst (λ m. pending_at (with_pending a.after conn None) m ≡ None) e (pending-over a.after conn)
    by n (inr ne) =
        pending-other a.after conn n None ne ∙ pending-same f.state.tables a.after n (line-leaves f conn now a.asked o told a.after a.line).connections ∙ others n ne

-- ---- a call that needs neither the bus, nor a lock, nor a dial

-- behind its poll no call is pending
pub called-rests : (most : ℕ) (Free : ℕ → Type 0) (conn now : ℕ) (asked : Call) (moves : List Transfer) (ending : Ending) (f come g : InterleavedState) → IsResting most Free f
    → IsBrief asked → asks_dial asked ≡ false → interleaved_step f (Arrive conn asked now) ≡ Some come → Polls come conn now moves ending g → IsResting (most + 1) Free g
called-rests most Free conn now asked moves ending f come g rests brief no_dial h polls =
    let c = comes most Free conn now asked f come rests h in
    let a = answered-now come g conn now (arrived asked now) moves ending c.sound c.here brief no_dial polls in
    let same : a.answered.asked ≡ arrived asked now = same_Some a.answered.asked (arrived asked now) (sym a.answered.call_at ∙ c.here) in
    let none : asks_dial a.answered.asked.call ≡ false = ap (λ (p : Pending). asks_dial p.call) same ∙ no_dial in
    let rest = answered most Free Free conn now a.from_outside a.told come a.last a.sound c.room c.others (λ n is. is) a.answered
    (λ dial. absurd (false≢true (sym none ∙ dial))) in
    subst (IsResting (most + 1) Free) (sym a.at_now)
    (record { sound = later-sound a.last now a.sound a.late; room = rest.room; idle = rest.idle })

-- ---- a create_intr_chan

-- a channel's number is left, where few connections live and few numbers were given out
number-left : (most : ℕ) (Free : ℕ → Type 0) (t : Tables) (conn : ℕ) → HasRoom most Free t → most ≤ 1000 → has_channel_number t conn false ≡ true
number-left most Free t conn room small =
    let few = room.few in
    let numbers = room.numbers in
    let asked = count_by-le-length (λ (c : Connection). not (c.number == conn) && asks_channel c.pending) t.connections in
    let left : t.srq_state.next_channel + numbers_asked t conn ≤ CONNECTION_LAST = omega arith in
    grind (arith, nat_tests, left)

-- so nothing is against one on a connection without a channel
channel-checked : (most : ℕ) (Free : ℕ → Type 0) (t : Tables) (conn : ℕ) → HasRoom most Free t → most ≤ 1000 → Free conn → check_channel t conn false 0 9012 ≡ None
channel-checked most Free t conn room small free =
    cond-false (is_some (channel_at t.srq_state conn)) (Some code.ChannelUp) _ (ap is_some (room.free conn free))
    ∙ cond-true (has_channel_number t conn false) None (Some code.NoResources) (number-left most Free t conn room small)

-- its dial is asked for at once
pub called-dials : (most : ℕ) (Free : ℕ → Type 0) (conn now host program version : ℕ) (moves : List Transfer) (ending : Ending) (f come g : InterleavedState)
    → IsResting most Free f → most ≤ 1000 → Free conn → interleaved_step f (Arrive conn (call.CreateIntr host 9012 program version 0) now) ≡ Some come → Polls come conn now moves ending g
    → IsDialing most Free conn g
called-dials most Free conn now host program version moves ending f come g rests small free h polls =
    let asked = call.CreateIntr host 9012 program version 0 in
    let c = comes most Free conn now asked f come rests h in
    let a = dialed-now come g conn now (arrived asked now) moves ending c.sound c.here (record { no_bus = refl; no_lock = refl }) refl refl refl
    (channel-checked most Free come.state.tables conn c.room small free) polls in
    let d = (interleaved-does come a.last (Dial conn now) a.dials).step in
    subst (IsDialing most Free conn) (sym a.at_now)
    (record {
      sound = later-sound a.last now (stays_sound-law come a.last (Dial conn now) c.sound a.dials) a.late;
      room = subst (λ (x : InterleavedState). HasRoom most Free x.state.tables) (sym d.leads) c.room;
      others = λ n ne. idle-stays n come a.last (Dial conn now) refl a.dials (c.others n ne);
      wanted = ap (λ (x : InterleavedState). list_any (λ n. n == conn) x.dialed) d.leads ∙ last-wanted (without_dial come.dialed conn);
    })
  where
    last-wanted : (xs : List ℕ) → list_any (λ n. n == conn) (xs ++ conn ∷ []) ≡ true
    last-wanted [] = ap (λ b. b || false) (eq-eqb conn conn refl)
    last-wanted (x ∷ xs) = or_right (x == conn) (list_any (λ n. n == conn) (xs ++ conn ∷ [])) (last-wanted xs)

-- and where it was made its call is answered
pub dial-rests : (most : ℕ) (Free : ℕ → Type 0) (conn now : ℕ) (dialed : Option Bool) (told : Reply) (f g : InterleavedState) → IsDialing most Free conn f
    → interleaved_step f (Answer conn now false dialed false told) ≡ Some g → IsResting (most + 1) (λ n. Free n × (conn ≢ n)) g
dial-rests most Free conn now dialed told f g dials h =
    answered most Free (λ n. Free n × (conn ≢ n)) conn now (bus_input f conn false dialed false) told f g
    (stays_sound-law f g (Answer conn now false dialed false told) dials.sound h) dials.room dials.others (λ n is. is.0)
    (interleaved-does f g (Answer conn now false dialed false told) h).step (λ dial n is. is.1)
