-- The calls of a core that make no transfer: each is an event that is allowed, behind which the core keeps what it keeps.
use Rattle.std.proofs.Common.{◌≡◌, ◌≤◌, ◌==◌, ℕ, ◌⊎◌, inl, inr, Bool, true, false, cond, List, [], Option, Some, None, Result, Ok, Err, refl, sym, ap, ◌∙◌, subst, arith}
use Rattle.std.specs.Prelude.{max, is_some, is_none}
use Rattle.std.proofs.lemmas.Bool.{and_parts, cases_Bool}
use Rattle.std.proofs.lemmas.List.Elements.{All-nil}
use Rattle.std.proofs.lemmas.Option.{none-some}
use Rattle.std.proofs.lemmas.Map.Made.{IsDistinct-from_AllPairs}
use Rattle.std.proofs.lemmas.Bool.Decides.{Decides-eqb}
use Rattle.std.specs.List.{IsDistinct}
use Rattle.vx_lemmas.proofs.Laws.Options.{none-is}
use Rattle.vx_calls.specs.declared.calls.Role.{Role}
use Rattle.vx_calls.specs.declared.calls.Role.TheVariants as role
use Rattle.vx_calls.specs.declared.codes.ErrorCode.{ErrorCode}
use Rattle.vx_calls.specs.Call.{Call}
use Rattle.vx_488.specs.declared.transfers.TheConstants.{ADDRESS_MAX}
use Rattle.vx_488.specs.declared.transfers.Transfer.{Transfer}
use Rattle.vx_488.specs.declared.wire.Wire.{Wire}
use Rattle.vx_488.specs.Wire.{first_wire}
use Rattle.vx_plan.specs.Plan.{Whole}
use Rattle.vx_488.specs.Means.{Means}
use Rattle.vx_rules.specs.SrqState.{Given, given, taken, sampled}
use Rattle.vx_rules.specs.State.{Tables, connection_at, pending_at, lives_as, is_idle, has_room, with_pending, with_connection, without_connection, first_tables}
use Rattle.vx_rules.specs.AtomicStep.{may_wait, arrived, abort_reply, abort_tables}
use Rattle.vx_rules.proofs.Laws.{lives-role}
use Rattle.vx_flow.specs.Event.{Event, Up, Down, Arrive, Abort, Sample, Take}
use Rattle.vx_flow.specs.InterleavedState.{Turn, InterleavedState}
use Rattle.vx_flow.specs.InterleavedStep.{interleaved_step, is_answer_of, turn_stand, wire_before, without_dial}
use Rattle.vx_flow.specs.Does.{Step, beside}
use Rattle.vx_flow.specs.Ways.{turn_left_by}
use Rattle.vx_flow.proofs.Laws.{does-interleaved}
use Rattle.vx_core.specs.declared.running.Running.{Running}
use Rattle.vx_core.specs.KernelState.{KernelState}
use Rattle.vx_core.specs.CoreState.{CoreState}
use Rattle.vx_core.specs.Shown.{core_of, cut_means, interleaved_of, turn_shown, before_shown, running_without, left}
use Rattle.vx_core.specs.Keeping.{IsDialed, Keeps}
use Rattle.vx_core.proofs.Dials.{is_still}
use Rattle.vx_core.proofs.Keeping.{LeavesTurn, keeps-after, keeps-later}
use Rattle.vx_rules.proofs.Laws.Keeping.{first-sound as empty-sound}

-- ---- an event of a core

-- an event leads from one state to another, which keeps what a core keeps
pub record Steps {B : Type 0} (means : B → Means) (k : KernelState B) (e : Event) (new : KernelState B) : Type 0 where
  pub allowed : interleaved_step (interleaved_of means k) e ≡ Some (interleaved_of means new)
  pub keeps : Keeps means new

-- an event that does what it says leads on so: the list of the turn under way isn't whole
steps : {B : Type 0} (means : B → Means) (k new : KernelState B) (e : Event) → is_still e ≡ true → Keeps means k → LeavesTurn means k new
    → Step (interleaved_of means k) e (interleaved_of means new) → Steps means k e new
steps {B} means k new e still keeps leaves does = record { allowed = allowed; keeps = keeps-after means k new e still keeps.holds leaves allowed }
  where
    open-yet : (u : Turn) → (interleaved_of means k).turn ≡ Some u → turn_stand (interleaved_of means k) u u.moves ≡ Whole → is_answer_of u.connection e ≡ true
    open-yet u is whole = let part = keeps.is_part u is in cc

    allowed : interleaved_step (interleaved_of means k) e ≡ Some (interleaved_of means new)
    allowed = does-interleaved (interleaved_of means k) (interleaved_of means new) e (record { in_turn = open-yet; step = does })

-- a state by its parts
abbrev state_of : Tables → ℕ → List ℕ → Option Turn → Wire → Wire → InterleavedState
state_of t m dialed turn before now = record {
  state = record { tables = t; wire = now; moment = m };
  turn = turn;
  before = before;
  dialed = dialed;
}

-- ---- the events that leave the turn and the bus

-- the bus before the turn is what it was
wire-kept : (running : Option Running) (made : List Transfer) (before now : Wire)
    → wire_before (turn_shown running made) now (before_shown running before now) ≡ before_shown running before now
wire-kept None made before now = refl
wire-kept (Some r) made before now = refl

-- an event that changes the tables and the moment alone
calm : {B : Type 0} (means : B → Means) (k : KernelState B) (bus : B) (t : Tables) (m : ℕ) (e : Event) → is_still e ≡ true → Keeps means k
    → (means bus).wire ≡ (means k.bus).wire → Step (interleaved_of means k) e (beside (interleaved_of means k) t m k.dialed)
    → Steps means k e (record k { bus = bus; tables = t; moment = m })
calm {B} means k bus t m e still keeps wire does =
    let w = (means k.bus).wire in
    let turn = turn_shown k.running k.made in
    let after : beside (interleaved_of means k) t m k.dialed ≡ state_of t m k.dialed turn (before_shown k.running k.before (means bus).wire) (means bus).wire =
    ap (λ x. state_of t m k.dialed turn x w) (wire-kept k.running k.made k.before w)
    ∙ ap (λ x. state_of t m k.dialed turn (before_shown k.running k.before x) x) (sym wire) in
    steps means k (record k { bus = bus; tables = t; moment = m }) e still keeps
    (record { running = inl (refl, refl); before = refl; made = refl; wire = wire })
    (subst (Step (interleaved_of means k) e) after does)

-- the lines and addresses of a bus whose list is cut
pub cut-wire : {B : Type 0} (means : B → Means) (k : KernelState B) (bus : B) → means bus ≡ cut_means (means k.bus) → (means bus).wire ≡ (means k.bus).wire
cut-wire means k bus h = ap (λ m. m.wire) h

-- a connection comes up
pub ups : {B : Type 0} (means : B → Means) (k : KernelState B) (bus : B) (conn : ℕ) (r : Role) → Keeps means k → means bus ≡ cut_means (means k.bus)
    → conn ≡ k.tables.next_connection → has_room k.tables r ≡ true → Steps means k (Up conn r) (record k { bus = bus; tables = with_connection k.tables r })
ups means k bus conn r keeps cut number room =
    calm means k bus (with_connection k.tables r) k.moment (Up conn r) refl keeps (cut-wire means k bus cut) (record { number = number; room = room; leads = refl })

-- a call arrives
pub arrives : {B : Type 0} (means : B → Means) (k : KernelState B) (bus : B) (conn : ℕ) (asked : Call) (now : ℕ) → Keeps means k → means bus ≡ cut_means (means k.bus)
    → is_idle k.tables conn ≡ true → may_wait asked ≡ true
    → Steps means k (Arrive conn asked (max k.moment now))
    (record k { bus = bus; tables = with_pending k.tables conn (Some (arrived asked (max k.moment now))); moment = max k.moment now })
arrives means k bus conn asked now keeps cut idle waits =
    let m = max k.moment now in
    let parts = and_parts (lives_as k.tables conn role.Core) (is_none (pending_at k.tables conn)) idle in
    calm means k bus (with_pending k.tables conn (Some (arrived asked m))) m (Arrive conn asked m) refl keeps (cut-wire means k bus cut) (record {
      late = omega arith;
      core = lives-role k.tables conn role.Core parts.0;
      idle = none-is (pending_at k.tables conn) parts.1;
      waiting = waits;
      leads = refl;
    })

-- the calls that name a link are marked
pub aborts : {B : Type 0} (means : B → Means) (k : KernelState B) (bus : B) (conn lid : ℕ) (told : ErrorCode) → Keeps means k → means bus ≡ cut_means (means k.bus)
    → lives_as k.tables conn role.Abort ≡ true → told ≡ abort_reply k.tables lid
    → Steps means k (Abort conn lid told) (record k { bus = bus; tables = abort_tables k.tables lid })
aborts means k bus conn lid told keeps cut lives is =
    calm means k bus (abort_tables k.tables lid) k.moment (Abort conn lid told) refl keeps (cut-wire means k bus cut)
    (record { role_is = lives-role k.tables conn role.Abort lives; reply_is = is; leads = refl })

-- SRQ is sampled
pub samples : {B : Type 0} (means : B → Means) (k : KernelState B) (bus : B) (now : ℕ) (srq : Bool) → Keeps means k → means bus ≡ cut_means (means k.bus)
    → Steps means k (Sample (max k.moment now) srq)
    (record k { bus = bus; tables = record k.tables { srq_state = sampled k.tables.srq_state srq }; moment = max k.moment now })
samples means k bus now srq keeps cut =
    let m = max k.moment now in
    calm means k bus (record k.tables { srq_state = sampled k.tables.srq_state srq }) m (Sample m srq) refl keeps (cut-wire means k bus cut)
    (record { late = omega arith; leads = refl })

-- the front of an outbox is taken
pub takes : {B : Type 0} (means : B → Means) (k : KernelState B) (bus : B) (conn chan : ℕ) (told : Given) → Keeps means k → means bus ≡ cut_means (means k.bus)
    → is_some (connection_at k.tables conn) ≡ true → told ≡ given k.tables.srq_state conn chan
    → Steps means k (Take conn chan told) (record k { bus = bus; tables = record k.tables { srq_state = taken k.tables.srq_state conn chan } })
takes means k bus conn chan told keeps cut lives is =
    calm means k bus (record k.tables { srq_state = taken k.tables.srq_state conn chan }) k.moment (Take conn chan told) refl keeps (cut-wire means k bus cut)
    (record { lives = lives; given_is = is; leads = refl })

-- ---- the events that end a connection's turn

-- the turn that is left, as events know it
ends-turn : (running : Option Running) (made : List Transfer) (conn : ℕ) → turn_left_by (turn_shown running made) conn ≡ turn_shown (running_without running conn) made
ends-turn None made conn = refl
ends-turn (Some r) made conn = by (r.conn == conn)
  where
    u : Turn
    u = record { connection = r.conn; begun = r.turn.begun; moves = made }

    by : (b : Bool) → cond b None (Some u) ≡ turn_shown (cond b None (Some r)) made
    by true = refl
    by false = refl

-- and the bus before it
ends-wire : (running : Option Running) (made : List Transfer) (conn : ℕ) (before now : Wire)
    → wire_before (turn_shown (running_without running conn) made) now (before_shown running before now) ≡ before_shown (running_without running conn) before now
ends-wire None made conn before now = refl
ends-wire (Some r) made conn before now = by (r.conn == conn)
  where
    by : (b : Bool) → wire_before (turn_shown (cond b None (Some r)) made) now before ≡ before_shown (cond b None (Some r)) before now
    by true = refl
    by false = refl

-- a connection's turn and its dial are over, with these tables at this moment
abbrev ended : InterleavedState → ℕ → Tables → ℕ → InterleavedState
ended f conn t m =
    state_of t m (without_dial f.dialed conn) (turn_left_by f.turn conn) (wire_before (turn_left_by f.turn conn) f.state.wire f.before) f.state.wire

-- a core that they are over in, as events know it
pub left-shown : {B : Type 0} (means : B → Means) (k : KernelState B) (bus : B) (t : Tables) (m conn : ℕ) → (means bus).wire ≡ (means k.bus).wire
    → interleaved_of means (record (left k conn) { bus = bus; tables = t; moment = m }) ≡ ended (interleaved_of means k) conn t m
left-shown means k bus t m conn wire =
    let w = (means k.bus).wire in
    let running = running_without k.running conn in
    let dialed = without_dial k.dialed conn in
    ap (λ x. state_of t m dialed (turn_shown running k.made) (before_shown running k.before x) x) wire
    ∙ ap (λ x. state_of t m dialed (turn_shown running k.made) x w) (sym (ends-wire k.running k.made conn k.before w))
    ∙ ap (λ x. state_of t m dialed x (wire_before x w (before_shown k.running k.before w)) w) (sym (ends-turn k.running k.made conn))

-- the turn under way is as it was, or it is over
left-or-over : (running : Option Running) (conn : ℕ) → (running_without running conn ≡ running) ⊎ (running_without running conn ≡ None)
left-or-over None conn = inr refl
left-or-over (Some r) conn = by (r.conn == conn)
  where
    by : (b : Bool) → (cond b None (Some r) ≡ Some r) ⊎ (cond b None (Some r) ≡ None)
    by true = inr refl
    by false = inl refl

-- that is what it leaves of the turn
pub left-leaves : {B : Type 0} (means : B → Means) (k : KernelState B) (bus : B) (t : Tables) (m conn : ℕ) → (means bus).wire ≡ (means k.bus).wire
    → LeavesTurn means k (record (left k conn) { bus = bus; tables = t; moment = m })
left-leaves means k bus t m conn wire = record { running = by (left-or-over k.running conn); before = refl; made = refl; wire = wire }
  where
    by : (running_without k.running conn ≡ k.running) ⊎ (running_without k.running conn ≡ None)
        → (running_without k.running conn ≡ k.running) × (k.room ≡ k.room) ⊎ (running_without k.running conn ≡ None)
    by (inl same) = inl (same, refl)
    by (inr over) = inr over

-- an event that ends a connection's turn and its dial
pub ends : {B : Type 0} (means : B → Means) (k : KernelState B) (bus : B) (t : Tables) (m conn : ℕ) (e : Event) → is_still e ≡ true → Keeps means k
    → (means bus).wire ≡ (means k.bus).wire → Step (interleaved_of means k) e (ended (interleaved_of means k) conn t m)
    → Steps means k e (record (left k conn) { bus = bus; tables = t; moment = m })
ends means k bus t m conn e still keeps wire does =
    steps means k (record (left k conn) { bus = bus; tables = t; moment = m }) e still keeps (left-leaves means k bus t m conn wire)
    (subst (Step (interleaved_of means k) e) (sym (left-shown means k bus t m conn wire)) does)

-- a connection goes
pub downs : {B : Type 0} (means : B → Means) (k : KernelState B) (bus : B) (conn : ℕ) → Keeps means k → means bus ≡ cut_means (means k.bus)
    → is_some (connection_at k.tables conn) ≡ true → Steps means k (Down conn) (record (left k conn) { bus = bus; tables = without_connection k.tables conn })
downs means k bus conn keeps cut lives =
    ends means k bus (without_connection k.tables conn) k.moment conn (Down conn) refl keeps (cut-wire means k bus cut) (record { lives = lives; leads = refl })

-- ---- a change of what hangs on the bus, and the start

-- the bus is another, with the same meaning, but for its list
pub tweaked : {B : Type 0} (means : B → Means) (k : KernelState B) (bus : B) → Keeps means k → means bus ≡ cut_means (means k.bus) → Keeps means (record k { bus = bus })
tweaked means k bus keeps cut = keeps-later means k bus k.moment (cut-wire means k bus cut) (omega arith) keeps

-- so it is as events know it
pub unseen : {B : Type 0} (means : B → Means) (k : KernelState B) (bus : B) → means bus ≡ cut_means (means k.bus) → interleaved_of means (record k { bus = bus }) ≡ interleaved_of means k
unseen means k bus cut =
    ap (λ x. state_of k.tables k.moment k.dialed (turn_shown k.running k.made) (before_shown k.running k.before x) x) (cut-wire means k bus cut)

-- no numbers are all different
distinct-none : IsDistinct {K = ℕ} (λ a b. a == b) []
distinct-none = IsDistinct-from_AllPairs {eq = λ a b. a == b} Decides-eqb [] (λ i j d before within. absurd (omega arith))

-- a core as it starts
pub first_keeps : {B : Type 0} (means : B → Means) (bus : B) (room : List ℕ) (abort_port : ℕ) → (means bus).wire ≡ first_wire
    → Keeps means (record {
      bus = bus;
      tables = first_tables abort_port;
      moment = 0;
      running = None;
      before = first_wire;
      made = [];
      room = room;
      dialed = [];
      last = None;
      began = false;
    })
first_keeps means bus room abort_port wire = record {
  holds = record {
    sound = record { turn_stands = refl; have_come = λ conn p at. absurd (none-some p at); tables = empty-sound abort_port };
    own = subst (λ (w : Wire). w.own ≤ ADDRESS_MAX) (sym wire) (omega arith);
    runs = λ r is. absurd (none-some r is);
    dials = record { each = All-nil (IsDialed (first_tables abort_port)); once = distinct-none; numbers = omega arith };
    few = omega arith;
  };
  is_part = λ u is. absurd (none-some u is);
}

-- ---- each call, by what its steps ensure

-- an event is allowed in a state as callers see it, and leads to a kernel that keeps what a core keeps
pub record Leads {B : Type 0} (means : B → Means) (f : InterleavedState) (e : Event) (new : KernelState B) : Type 0 where
  pub allowed : interleaved_step f e ≡ Some (interleaved_of means new)
  pub keeps : Keeps means new

-- the kernel that the steps of a call lead to
pub led : {B : Type 0} (means : B → Means) (k : KernelState B) (e : Event) (new next : KernelState B) → new ≡ next → Steps means k e next → Leads means (interleaved_of means k) e new
led means k e new next is s = subst (Leads means (interleaved_of means k) e) (sym is) (record { allowed = s.allowed; keeps = s.keeps })

-- a kernel with these tables, or with this bus
abbrev pub with_tables : {B : Type 0} → KernelState B → Tables → KernelState B
with_tables k t = record k { tables = t }

abbrev pub with_bus : {B : Type 0} → KernelState B → B → KernelState B
with_bus k bus = record k { bus = bus }

-- a kernel that is another, with tables that follow from it, is that other with these
retabled : {B : Type 0} (s k : KernelState B) (t : Tables) (f : KernelState B → Tables) → s ≡ k → t ≡ f s → with_tables s t ≡ with_tables k (f k)
retabled {B} s k t f seen is = ap (λ (x : Tables). with_tables s x) is ∙ ap (λ (x : KernelState B). with_tables x (f x)) seen

-- a connection is taken in the tables, and then the bus's list is cut
pub connects : {B : Type 0} (means : B → Means) (k s new : KernelState B) (old : CoreState B) (conn : ℕ) (r : Role) (t : Tables) → core_of means k ≡ old → Keeps means k → s ≡ k
    → (has_room s.tables r ≡ false → ⊥) → conn ≡ s.tables.next_connection → t ≡ with_connection s.tables r
    → new ≡ with_bus (with_tables s t) new.bus → means new.bus ≡ cut_means (means s.bus) → Leads means old.interleaved (Up conn r) new
connects {B} means k s new old conn r t view keeps seen full number up is cut =
    subst (λ (o : CoreState B). Leads means o.interleaved (Up conn r) new) view (at (cases_Bool (has_room k.tables r)))
  where
    cut-so : means new.bus ≡ cut_means (means k.bus)
    cut-so = cut ∙ ap (λ (x : KernelState B). cut_means (means x.bus)) seen

    new-is : new ≡ record k { bus = new.bus; tables = with_connection k.tables r }
    new-is = is ∙ ap (λ (x : KernelState B). with_bus x new.bus) (retabled s k t (λ x. with_connection x.tables r) seen up)

    number-is : conn ≡ k.tables.next_connection
    number-is = number ∙ ap (λ (x : KernelState B). x.tables.next_connection) seen

    at : (has_room k.tables r ≡ true) ⊎ (has_room k.tables r ≡ false) → Leads means (interleaved_of means k) (Up conn r) new
    at (inl room) = led means k (Up conn r) new _ new-is (ups means k new.bus conn r keeps cut-so number-is room)
    at (inr none) = absurd (full (ap (λ (x : KernelState B). has_room x.tables r) seen ∙ none))

-- the bus's list is cut, and then a connection goes
pub disconnects : {B : Type 0} (means : B → Means) (k mid new : KernelState B) (old : CoreState B) (conn : ℕ) → core_of means k ≡ old → Keeps means k
    → is_some (connection_at old.interleaved.state.tables conn) ≡ true → mid ≡ record k { bus = mid.bus } → means mid.bus ≡ cut_means (means k.bus)
    → new ≡ record (left mid conn) { tables = without_connection mid.tables conn } → Leads means old.interleaved (Down conn) new
disconnects {B} means k mid new old conn view keeps lives is cut gone = subst Seen view by lives
  where
    Seen : CoreState B → Type 0
    Seen o = is_some (connection_at o.interleaved.state.tables conn) ≡ true → Leads means o.interleaved (Down conn) new

    by : Seen (core_of means k)
    by lives =
        led means k (Down conn) new _
        (gone ∙ ap (λ (x : KernelState B). let after : KernelState B = record (left x conn) { tables = without_connection x.tables conn } in after) is)
        (downs means k mid.bus conn keeps cut lives)

-- a result isn't both a value and a refusal
pub never_both : {T E : Type 0} (r : Result T E) (v : T) (e : E) → r ≡ Ok v → r ≡ Err e → ⊥
never_both r v e is refused = cc

-- a connection that has no call has none once a moment was told
pub idle_still : {B : Type 0} (means : B → Means) (k mid s : KernelState B) (old : CoreState B) (conn now : ℕ) → core_of means k ≡ old
    → is_idle old.interleaved.state.tables conn ≡ true → mid ≡ record k { bus = mid.bus; moment = max k.moment now } → s ≡ mid → is_idle s.tables conn ≡ true
idle_still {B} means k mid s old conn now view idle kept seen =
    ap (λ (x : KernelState B). is_idle x.tables conn) (seen ∙ kept) ∙ ap (λ (o : CoreState B). is_idle o.interleaved.state.tables conn) view ∙ idle

-- a moment is told, and then a call arrives in the tables
pub arrives-so : {B : Type 0} (means : B → Means) (k mid s : KernelState B) (old : CoreState B) (conn : ℕ) (asked : Call) (now : ℕ) (t : Tables) → core_of means k ≡ old
    → Keeps means k → is_idle old.interleaved.state.tables conn ≡ true → may_wait asked ≡ true
    → mid ≡ record k { bus = mid.bus; moment = max k.moment now } → means mid.bus ≡ cut_means (means k.bus)
    → s ≡ mid → t ≡ with_pending s.tables conn (Some (arrived asked s.moment))
    → Leads means old.interleaved (Arrive conn asked (max old.interleaved.state.moment now)) (with_tables s t)
arrives-so {B} means k mid s old conn asked now t view keeps idle waits is cut seen came = subst Seen view by idle
  where
    Seen : CoreState B → Type 0
    Seen o = is_idle o.interleaved.state.tables conn ≡ true → Leads means o.interleaved (Arrive conn asked (max o.interleaved.state.moment now)) (with_tables s t)

    by : Seen (core_of means k)
    by idle =
        led means k (Arrive conn asked (max k.moment now)) (with_tables s t) _
        (retabled s _ t (λ x. with_pending x.tables conn (Some (arrived asked x.moment))) (seen ∙ is) came)
        (arrives means k mid.bus conn asked now keeps cut idle waits)

-- the bus's list is cut, and then calls are marked in the tables
pub aborts-so : {B : Type 0} (means : B → Means) (k mid s : KernelState B) (old : CoreState B) (conn lid : ℕ) (told : ErrorCode) (t : Tables) → core_of means k ≡ old → Keeps means k
    → lives_as old.interleaved.state.tables conn role.Abort ≡ true → mid ≡ record k { bus = mid.bus } → means mid.bus ≡ cut_means (means k.bus)
    → s ≡ mid → told ≡ abort_reply s.tables lid → t ≡ abort_tables s.tables lid → Leads means old.interleaved (Abort conn lid told) (with_tables s t)
aborts-so {B} means k mid s old conn lid told t view keeps lives is cut seen tells marks = subst Seen view by lives
  where
    Seen : CoreState B → Type 0
    Seen o = lives_as o.interleaved.state.tables conn role.Abort ≡ true → Leads means o.interleaved (Abort conn lid told) (with_tables s t)

    by : Seen (core_of means k)
    by lives =
        led means k (Abort conn lid told) (with_tables s t) _
        (retabled s _ t (λ x. abort_tables x.tables lid) (seen ∙ is) marks)
        (aborts means k mid.bus conn lid told keeps cut lives (tells ∙ ap (λ (x : KernelState B). abort_reply x.tables lid) (seen ∙ is)))

-- a moment is told, and then SRQ is sampled in the tables
pub samples-so : {B : Type 0} (means : B → Means) (srq : B → Bool) (k mid s : KernelState B) (old : CoreState B) (now : ℕ) (level : Bool) (t : Tables) → core_of means k ≡ old
    → Keeps means k → mid ≡ record k { bus = mid.bus; moment = max k.moment now } → means mid.bus ≡ cut_means (means k.bus)
    → s ≡ mid → level ≡ srq s.bus → t ≡ record s.tables { srq_state = sampled s.tables.srq_state level }
    → Leads means old.interleaved (Sample (max old.interleaved.state.moment now) (srq s.bus)) (with_tables s t)
samples-so {B} means srq k mid s old now level t view keeps is cut seen level-is sees = subst Seen view by
  where
    Seen : CoreState B → Type 0
    Seen o = Leads means o.interleaved (Sample (max o.interleaved.state.moment now) (srq s.bus)) (with_tables s t)

    behind : KernelState B → Bool → Tables
    behind x b = record x.tables { srq_state = sampled x.tables.srq_state b }

    by : Seen (core_of means k)
    by =
        subst (λ (b : B). Leads means (interleaved_of means k) (Sample (max k.moment now) (srq b)) (with_tables s t)) (sym (ap (λ (x : KernelState B). x.bus) (seen ∙ is)))
        (led means k (Sample (max k.moment now) (srq mid.bus)) (with_tables s t) _
        (retabled s _ t (λ x. behind x (srq x.bus)) (seen ∙ is) (sees ∙ ap (behind s) level-is))
        (samples means k mid.bus now (srq mid.bus) keeps cut))

-- the bus's list is cut, and then an interrupt call is taken from the tables
pub takes-so : {B : Type 0} (means : B → Means) (k mid s : KernelState B) (old : CoreState B) (conn chan : ℕ) (told : Given) (t : Tables) → core_of means k ≡ old → Keeps means k
    → is_some (connection_at old.interleaved.state.tables conn) ≡ true → mid ≡ record k { bus = mid.bus } → means mid.bus ≡ cut_means (means k.bus)
    → s ≡ mid → told ≡ given s.tables.srq_state conn chan → t ≡ record s.tables { srq_state = taken s.tables.srq_state conn chan }
    → Leads means old.interleaved (Take conn chan told) (with_tables s t)
takes-so {B} means k mid s old conn chan told t view keeps lives is cut seen gives takes_it = subst Seen view by lives
  where
    Seen : CoreState B → Type 0
    Seen o = is_some (connection_at o.interleaved.state.tables conn) ≡ true → Leads means o.interleaved (Take conn chan told) (with_tables s t)

    behind : KernelState B → Tables
    behind x = record x.tables { srq_state = taken x.tables.srq_state conn chan }

    by : Seen (core_of means k)
    by lives =
        led means k (Take conn chan told) (with_tables s t) _ (retabled s _ t behind (seen ∙ is) takes_it)
        (takes means k mid.bus conn chan told keeps cut lives (gives ∙ ap (λ (x : KernelState B). given x.tables.srq_state conn chan) (seen ∙ is)))

-- a change of what hangs on the bus is no event
pub record Tweaks {B : Type 0} (means : B → Means) (old : CoreState B) (new : KernelState B) : Type 0 where
  pub same : interleaved_of means new ≡ old.interleaved
  pub means_cut : means new.bus ≡ cut_means (means old.bus)
  pub keeps : Keeps means new

-- the bus's list is cut, and then what hangs on it is changed
pub tweaks : {B : Type 0} (means : B → Means) (k mid s : KernelState B) (old : CoreState B) (bus : B) → core_of means k ≡ old → Keeps means k
    → mid ≡ record k { bus = mid.bus } → means mid.bus ≡ cut_means (means k.bus) → s ≡ mid → means bus ≡ means s.bus → Tweaks means old (with_bus s bus)
tweaks {B} means k mid s old bus view keeps is cut seen same = subst (λ (o : CoreState B). Tweaks means o (with_bus s bus)) view (record {
  same = ap (interleaved_of means) new-is ∙ unseen means k bus cut-so;
  means_cut = cut-so;
  keeps = subst (Keeps means) (sym new-is) (tweaked means k bus keeps cut-so);
})
  where
    cut-so : means bus ≡ cut_means (means k.bus)
    cut-so = same ∙ ap (λ (x : KernelState B). means x.bus) seen ∙ cut

    new-is : with_bus s bus ≡ record k { bus = bus }
    new-is = ap (λ (x : KernelState B). with_bus x bus) (seen ∙ is)

-- a core that starts
pub starts : {B : Type 0} (means : B → Means) (k : KernelState B) (bus : B) (t : Tables) (abort_port : ℕ) → (means bus).wire ≡ first_wire → t ≡ first_tables abort_port
    → k ≡ record {
      bus = bus;
      tables = t;
      moment = 0;
      running = None;
      before = first_wire;
      made = [];
      room = k.room;
      dialed = [];
      last = None;
      began = false;
    }
    → Keeps means k
starts {B} means k bus t abort_port wire empty is = subst (Keeps means) (sym (is ∙ ap of empty)) (first_keeps means bus k.room abort_port wire)
  where
    of : Tables → KernelState B
    of x = record {
      bus = bus;
      tables = x;
      moment = 0;
      running = None;
      before = first_wire;
      made = [];
      room = k.room;
      dialed = [];
      last = None;
      began = false;
    }
