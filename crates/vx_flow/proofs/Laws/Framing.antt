-- Each event changes what `Frame` says, and leaves the rest.
use Rattle.std.proofs.Common.{◌≡◌, ◌≢◌, ℕ, Bool, true, false, cond, ◌==◌, List, [], ◌∷◌, Option, Some, None, Result, Ok, Err, refl, sym, ap, ◌∙◌, subst, arith, ◌||◌, ◌&&◌}
use Rattle.std.specs.Option.{option_map}
use Rattle.std.proofs.lemmas.Bool.{true≢false, eqb-true, ne_eqb, and_parts}
use Rattle.std.proofs.lemmas.Option.{none-some, same_Some}
use Rattle.std.specs.Prelude.{is_some, not}
use Rattle.std.specs.List.{filter, list_any}
use Rattle.std.proofs.lemmas.List.Folds.{list_any-append}
use Rattle.vx_lemmas.proofs.Laws.Conditions.{apart}
use Rattle.vx_lemmas.proofs.Laws.Lists.{is_some-find, find-filter, found_passes, none_found}
use Rattle.vx_flow.proofs.Laws.Kept.{found_is}
use Rattle.vx_calls.specs.declared.codes.ErrorCode.{ErrorCode}
use Rattle.vx_calls.specs.declared.targets.Target.{Target}
use Rattle.vx_calls.specs.Target.{target}
use Rattle.vx_calls.specs.Call.{Call}
use Rattle.vx_calls.specs.Call as call
use Rattle.vx_calls.specs.Reply.{Reply}
use Rattle.vx_rules.specs.SrqState.{SrqState}
use Rattle.vx_rules.specs.Table.{Table, Link, is_live}
use Rattle.vx_rules.specs.Locks.{holds, with_lock, Lock, without_lock}
use Rattle.vx_rules.specs.State.{Pending, Tables, role_at, pending_at, link_of, is_lock_of, without_connection}
use Rattle.vx_rules.specs.Calls.{link_named}
use Rattle.vx_rules.specs.Checks.{NamedLink, NoLink, DeadLink, OnLink, named_link, link_by_number}
use Rattle.vx_rules.specs.Effects.{create, locked, effect_on, effect}
use Rattle.vx_rules.specs.Decide.{BusInput}
use Rattle.vx_rules.specs.AtomicStep.{arrived, names, mark_call, marked, abort_tables}
use Rattle.vx_rules.proofs.Laws.{up-next, pending-same, role-others}
use Rattle.vx_rules.proofs.Laws.Slots.{sampled-next}
use Rattle.vx_rules.proofs.Laws.Rows.{pending-other, pending-up, pending-others, pending-marked, role-pending, role-up, role-same, role-marked, link-made_other, link-others, link-left}
use Rattle.vx_flow.specs.Event.{Event, Up, Down, Arrive, Answer, Abort, Sample, Take, Begin, Move, Dial}
use Rattle.vx_flow.specs.InterleavedState.{InterleavedState, turn_after}
use Rattle.vx_flow.specs.InterleavedStep.{wire_for, bus_input, interleaved_step}
use Rattle.vx_flow.specs.Does.{AnsweredBy, ByAbort, ByNoLink, ByCheck, ByBar, ByDialUp, ByDialDown, ByEffect, ByNoRole, ByFault, ByWhole, ByTimeout, Step}
use Rattle.vx_flow.specs.Frames.{mark_by, LeavesOthers, Frame, FrameLaw}
use Rattle.vx_flow.proofs.Laws.Stepping.{turn-answered, turn-down, does_law-holds}

-- ---- locks

-- a filter leaves whether one passes, where it keeps those that do
any-filter : (p keep : Lock → Bool) → ((k : Lock) → p k ≡ true → keep k ≡ true) → (locks : List Lock) → list_any p (filter keep locks) ≡ list_any p locks
any-filter p keep keeps locks = sym (is_some-find p (filter keep locks)) ∙ ap is_some (find-filter p keep keeps locks) ∙ is_some-find p locks

-- another link holds what it held where a lock goes
holds-without : (locks : List Lock) (m n : ℕ) → m ≢ n → holds (without_lock locks m) n ≡ holds locks n
holds-without locks m n ne = any-filter (λ k. k.link == n) (λ k. not (k.link == m)) (λ k e. ap not (apart n m (λ f. ne (sym f)) k.link e)) locks

-- and where one comes
holds-with : (locks : List Lock) (m n : ℕ) (named : Target) → m ≢ n → holds (with_lock locks m named) n ≡ holds locks n
holds-with locks m n named ne =
    list_any-append (λ (k : Lock). k.link == n) locks (record { link = m; target = named } ∷ [])
    ∙ ap (λ b. holds locks n || (b || false)) (ne_eqb m n ne)
    ∙ none (holds locks n)
  where
    none : (b : Bool) → (b || (false || false)) ≡ b
    none true = refl
    none false = refl

-- the link that a call names has its own number
named-number : (t : Tables) (conn : ℕ) (asked : Call) (l : Link) → named_link t conn asked ≡ OnLink l → link_of t conn l.number ≡ Some l
named-number t conn asked l = by (link_named asked) where
  by : (o : Option ℕ) → link_by_number t conn o ≡ OnLink l → link_of t conn l.number ≡ Some l
  by None h = cc
  by (Some lid) h =
      let found = found_is (link_of t conn lid) l h in
      let test = found_passes (λ k. (k.number == lid) && (k.connection == conn)) t.links.links l found in
      subst (λ n. link_of t conn n ≡ Some l) (sym (eqb-true l.number lid (and_parts (l.number == lid) (l.connection == conn) test).0)) found

-- a number that isn't one of its links' isn't that link's
not-it : (t : Tables) (conn n : ℕ) (l : Link) → link_of t conn l.number ≡ Some l → link_of t conn n ≡ None → l.number ≢ n
not-it t conn n l has none is = none-some l (sym (ap (link_of t conn) is ∙ none) ∙ has)

-- a link of another holds what it held where a connection goes
held-down : (t : Tables) (conn n : ℕ) → link_of t conn n ≡ None → holds (without_connection t conn).locks n ≡ holds t.locks n
held-down t conn n none =
    any-filter (λ k. k.link == n) (λ k. not (is_lock_of t.links.links conn k))
    (λ k e. ap not (none_found (λ l. (l.number == k.link) && (l.connection == conn)) t.links.links (ap (link_of t conn) (eqb-true k.link n e) ∙ none))) t.locks

-- ---- what an answer leaves of the tables

-- the tables themselves
leaves-all : (t : Tables) (conn : ℕ) → LeavesOthers t conn t
leaves-all t conn = record { connections = refl; arrivals = refl; next = refl; port = refl; others = λ m lid ne. refl; held = λ n none ne. refl; link_numbers = omega arith; channel_numbers = omega arith }

-- what an answer found leaves
abbrev FoundLeaves : Tables → ℕ → Option (Reply × Tables) → Type 0
FoundLeaves t conn None = Unit {0}
FoundLeaves t conn (Some d) = LeavesOthers t conn d.1

-- a link that is made, with its lock or without one
create-leaves : (t : Tables) (conn : ℕ) (lock : Bool) (named : Result Target ErrorCode) → FoundLeaves t conn (create t conn lock named)
create-leaves t conn lock (Err error) = tt
create-leaves t conn true (Ok named) =
    record { connections = refl; arrivals = refl; next = refl; port = refl; others = λ m lid ne. link-made_other t conn named m lid ne; held = λ n none ne. holds-with t.locks t.links.next n named (λ is. ne (sym is)); link_numbers = omega arith; channel_numbers = omega arith }
create-leaves t conn false (Ok named) =
    record { connections = refl; arrivals = refl; next = refl; port = refl; others = λ m lid ne. link-made_other t conn named m lid ne; held = λ n none ne. refl; link_numbers = omega arith; channel_numbers = omega arith }

-- a lock that is taken
locked-leaves : (t : Tables) (conn : ℕ) (l : Link) → link_of t conn l.number ≡ Some l → LeavesOthers t conn (locked t l)
locked-leaves t conn l has = by (holds t.locks l.number) where
  by : (b : Bool) → LeavesOthers t conn (cond b t (record t { locks = with_lock t.locks l.number l.target }))
  by true = leaves-all t conn
  by false = record {
    connections = refl;
    arrivals = refl;
    next = refl;
    port = refl;
    others = λ m lid ne. refl;
    held = λ n none ne. holds-with t.locks l.number n l.target (not-it t conn n l has none);
    link_numbers = omega arith;
    channel_numbers = omega arith;
  }

-- the effect of a call on a link
effect_on-leaves : (t : Tables) (conn : ℕ) (l : Link) (asked : Call) → link_of t conn l.number ≡ Some l → FoundLeaves t conn (effect_on t conn l asked)
effect_on-leaves t conn l (call.Lock lid flags lock_timeout) has = locked-leaves t conn l has
effect_on-leaves t conn l (call.Unlock lid) has =
    record { connections = refl; arrivals = refl; next = refl; port = refl; others = λ m lid ne. refl; held = λ n none ne. holds-without t.locks l.number n (not-it t conn n l has none); link_numbers = omega arith; channel_numbers = omega arith }
effect_on-leaves t conn l (call.EnableSrq lid enable handle) has =
    record { connections = refl; arrivals = refl; next = refl; port = refl; others = λ m lid ne. refl; held = λ n none ne. refl; link_numbers = omega arith; channel_numbers = omega arith }
effect_on-leaves t conn l (call.DestroyLink lid) has =
    record { connections = refl; arrivals = refl; next = refl; port = refl; others = λ m n ne. link-left t conn l.number m n ne; held = λ n none ne. holds-without t.locks l.number n (not-it t conn n l has none); link_numbers = omega arith; channel_numbers = omega arith }
effect_on-leaves t conn l _ has = tt

-- the effect of every call
effect-leaves : (t : Tables) (own conn : ℕ) (about : NamedLink) (asked : Call) → named_link t conn asked ≡ about → FoundLeaves t conn (effect t own conn about asked)
effect-leaves t own conn (OnLink l) asked is = effect_on-leaves t conn l asked (named-number t conn asked l is)
effect-leaves t own conn NoLink (call.CreateLink client lock lock_timeout device) is = create-leaves t conn lock (target device own)
effect-leaves t own conn NoLink call.DestroyIntr is =
    record { connections = refl; arrivals = refl; next = refl; port = refl; others = λ m lid ne. refl; held = λ n none ne. refl; link_numbers = omega arith; channel_numbers = omega arith }
effect-leaves t own conn NoLink _ is = tt
effect-leaves t own conn DeadLink asked is = tt

-- tables that stay
same-leaves : (t u : Tables) (conn : ℕ) → u ≡ t → LeavesOthers t conn u
same-leaves t u conn e = subst (LeavesOthers t conn) (sym e) (leaves-all t conn)

-- an answer by whichever line
pub line-leaves : (f : InterleavedState) (conn now : ℕ) (p : Pending) (o : BusInput) (told : Reply) (after : Tables) → AnsweredBy f conn now p o told after
    → LeavesOthers f.state.tables conn after
line-leaves f conn now p o told after (ByAbort marked still stops) = same-leaves f.state.tables after conn stops.same
line-leaves f conn now p o told after (ByNoLink unmarked dead still stops) = same-leaves f.state.tables after conn stops.same
line-leaves f conn now p o told after (ByCheck error unmarked lives checked still stops) = same-leaves f.state.tables after conn stops.same
line-leaves f conn now p o told after (ByBar bar unmarked checked kept waits still stops) = same-leaves f.state.tables after conn stops.same
line-leaves f conn now p o told after (ByDialUp clear d told_is after_is) =
    subst (LeavesOthers f.state.tables conn) (sym after_is)
    (record { connections = refl; arrivals = refl; next = refl; port = refl; others = λ m lid ne. refl; held = λ n none ne. refl; link_numbers = omega arith; channel_numbers = omega arith })
line-leaves f conn now p o told after (ByDialDown clear d told_is after_is) = same-leaves f.state.tables after conn after_is
line-leaves f conn now p o told after (ByEffect clear bus dial still given) =
    subst (FoundLeaves f.state.tables conn) given (effect-leaves f.state.tables (wire_for f conn).own conn (named_link f.state.tables conn p.call) p.call refl)
line-leaves f conn now p o told after (ByNoRole job clear has role still stops) = same-leaves f.state.tables after conn stops.same
line-leaves f conn now p o told after (ByFault clear broken stops) = same-leaves f.state.tables after conn stops.same
line-leaves f conn now p o told after (ByWhole clear done) = same-leaves f.state.tables after conn done.same
line-leaves f conn now p o told after (ByTimeout clear overdue stops) = same-leaves f.state.tables after conn stops.same

-- ---- each event

-- calls that nothing marks
unmarked : (o : Option Pending) → o ≡ option_map (λ p. p) o
unmarked None = refl
unmarked (Some p) = refl

-- a mark leaves the call
pub mark-call : (t : Tables) (e : Event) (p : Pending) → (mark_by t e p).call ≡ p.call
mark-call t (Abort conn lid told) p = by (is_live t.links lid) (names lid (link_named p.call)) where
  by : (lives named : Bool) → (cond lives (cond named (record p { aborted = true }) p) p).call ≡ p.call
  by true true = refl
  by true false = refl
  by false named = refl
mark-call t _ p = refl

-- a number that isn't Some of the other isn't the other
pub another : (n m : ℕ) → Some n ≢ Some m → n ≢ m
another n m ne is = ne (ap Some is)

-- an event of a connection is of one
of-one : {R : Type 0} (conn : ℕ) → Some conn ≡ None → R
of-one conn h = absurd (none-some conn (sym h))

-- what a device_abort leaves
record Marks (t u : Tables) : Type 0 where
  port : u.abort_port ≡ t.abort_port
  arrivals : u.arrivals ≡ t.arrivals
  next : u.next_connection ≡ t.next_connection
  links : u.links ≡ t.links
  locks : u.locks ≡ t.locks
  service : u.srq_state ≡ t.srq_state
  roles : (m : ℕ) → role_at u m ≡ role_at t m

abort-marks : (t : Tables) (lid : ℕ) → Marks t (abort_tables t lid)
abort-marks t lid = by (is_live t.links lid) where
  by : (b : Bool) → Marks t (cond b (marked t lid) t)
  by true = record { port = refl; arrivals = refl; next = refl; links = refl; locks = refl; service = refl; roles = λ m. role-marked t lid m }
  by false = record { port = refl; arrivals = refl; next = refl; links = refl; locks = refl; service = refl; roles = λ m. refl }

abort-calls : (t : Tables) (conn lid : ℕ) (told : ErrorCode) (m : ℕ) → pending_at (abort_tables t lid) m ≡ option_map (mark_by t (Abort conn lid told)) (pending_at t m)
abort-calls t conn lid told m = by (is_live t.links lid) where
  by : (b : Bool) → pending_at (cond b (marked t lid) t) m ≡ option_map (λ p. cond b (mark_call lid p) p) (pending_at t m)
  by true = pending-marked t lid m
  by false = unmarked (pending_at t m)

-- an event that does what it says changes this alone
pub step-frame : (e : Event) (f g : InterleavedState) → Step f e g → Frame f e g
step-frame (Up conn r) f g d =
    let t = f.state.tables in
    subst (Frame f (Up conn r)) (sym d.leads) (record {
      late = omega arith;
      moment_is = refl;
      turn_is = refl;
      wire_is = refl;
      before_is = refl;
      dialed_are = refl;
      tables = refl;
      port = refl;
      roles = λ m ne. role-up t r m (λ is. another conn m ne (d.number ∙ is));
      calls = λ m ne. pending-up t r m ∙ unmarked (pending_at t m);
      arrivals = λ h. refl;
      links = λ m lid ne. refl;
      held = λ c n is none ne. refl;
      all_links = λ h. refl;
      all_locks = λ h. refl;
      service = λ h. absurd (true≢false h);
      connection_numbers = omega arith;
      link_numbers = omega arith;
      channel_numbers = omega (arith, up-next t r);
    })
step-frame (Down conn) f g d =
    let t = f.state.tables in
    subst (Frame f (Down conn)) (sym d.leads) (record {
      late = omega arith;
      moment_is = refl;
      turn_is = sym (turn-down f.turn conn);
      wire_is = refl;
      before_is = refl;
      dialed_are = refl;
      tables = refl;
      port = refl;
      roles = λ m ne. role-others t conn m (another conn m ne);
      calls = λ m ne. pending-others t conn m (another conn m ne) ∙ unmarked (pending_at t m);
      arrivals = λ h. of-one conn h;
      links = λ m lid ne. link-others t conn m lid (another conn m ne);
      held = λ c n is none ne. held-down t conn n (ap (λ k. link_of t k n) (same_Some conn c is) ∙ none);
      all_links = λ h. of-one conn h;
      all_locks = λ h. of-one conn h;
      service = λ h. absurd (true≢false h);
      connection_numbers = omega arith;
      link_numbers = omega arith;
      channel_numbers = omega arith;
    })
step-frame (Arrive conn asked now) f g d =
    let t = f.state.tables in
    subst (Frame f (Arrive conn asked now)) (sym d.leads) (record {
      late = d.late;
      moment_is = refl;
      turn_is = refl;
      wire_is = refl;
      before_is = refl;
      dialed_are = refl;
      tables = refl;
      port = refl;
      roles = λ m ne. role-pending t conn m (Some (arrived asked now));
      calls = λ m ne. pending-other t conn m (Some (arrived asked now)) (another conn m ne) ∙ unmarked (pending_at t m);
      arrivals = λ h. of-one conn h;
      links = λ m lid ne. refl;
      held = λ c n is none ne. refl;
      all_links = λ h. refl;
      all_locks = λ h. refl;
      service = λ h. refl;
      connection_numbers = omega arith;
      link_numbers = omega arith;
      channel_numbers = omega arith;
    })
step-frame (Answer conn now failed dialed level told) f g d =
    let t = f.state.tables in
    let u = d.after in
    let leaves = line-leaves f conn now d.asked (bus_input f conn failed dialed level) told u d.line in
    subst (Frame f (Answer conn now failed dialed level told)) (sym d.leads) (record {
      late = d.late;
      moment_is = refl;
      turn_is = sym (turn-answered f.turn conn now failed dialed level told);
      wire_is = refl;
      before_is = refl;
      dialed_are = refl;
      tables = record { after = u; leaves = leaves; over_is = refl };
      port = leaves.port;
      roles = λ m ne. role-pending u conn m None ∙ role-same t u m leaves.connections;
      calls = λ m ne. pending-other u conn m None (another conn m ne) ∙ pending-same t u m leaves.connections ∙ unmarked (pending_at t m);
      arrivals = λ h. of-one conn h;
      links = λ m lid ne. leaves.others m lid (another conn m ne);
      held = λ c n is none ne. leaves.held n (ap (λ k. link_of t k n) (same_Some conn c is) ∙ none) ne;
      all_links = λ h. of-one conn h;
      all_locks = λ h. of-one conn h;
      service = λ h. absurd (true≢false h);
      connection_numbers = omega (arith, leaves.next);
      link_numbers = leaves.link_numbers;
      channel_numbers = leaves.channel_numbers;
    })
step-frame (Abort conn lid told) f g d =
    let t = f.state.tables in
    let marks = abort-marks t lid in
    subst (Frame f (Abort conn lid told)) (sym d.leads) (record {
      late = omega arith;
      moment_is = refl;
      turn_is = refl;
      wire_is = refl;
      before_is = refl;
      dialed_are = refl;
      tables = refl;
      port = marks.port;
      roles = λ m ne. marks.roles m;
      calls = λ m ne. abort-calls t conn lid told m;
      arrivals = λ h. marks.arrivals;
      links = λ m n ne. ap (λ x. link_of (record t { links = x }) m n) marks.links;
      held = λ c n is none ne. ap (λ locks. holds locks n) marks.locks;
      all_links = λ h. marks.links;
      all_locks = λ h. marks.locks;
      service = λ h. marks.service;
      connection_numbers = omega (arith, marks.next);
      link_numbers = omega (arith, ap (λ (x : Table). x.next) marks.links);
      channel_numbers = omega (arith, ap (λ (x : SrqState). x.next_channel) marks.service);
    })
step-frame (Sample now srq) f g d =
    let t = f.state.tables in
    subst (Frame f (Sample now srq)) (sym d.leads) (record {
      late = d.late;
      moment_is = refl;
      turn_is = refl;
      wire_is = refl;
      before_is = refl;
      dialed_are = refl;
      tables = refl;
      port = refl;
      roles = λ m ne. refl;
      calls = λ m ne. unmarked (pending_at t m);
      arrivals = λ h. refl;
      links = λ m lid ne. refl;
      held = λ c n is none ne. refl;
      all_links = λ h. refl;
      all_locks = λ h. refl;
      service = λ h. absurd (true≢false h);
      connection_numbers = omega arith;
      link_numbers = omega arith;
      channel_numbers = omega (arith, sampled-next t.srq_state srq);
    })
step-frame (Take conn chan told) f g d =
    let t = f.state.tables in
    subst (Frame f (Take conn chan told)) (sym d.leads) (record {
      late = omega arith;
      moment_is = refl;
      turn_is = refl;
      wire_is = refl;
      before_is = refl;
      dialed_are = refl;
      tables = refl;
      port = refl;
      roles = λ m ne. refl;
      calls = λ m ne. unmarked (pending_at t m);
      arrivals = λ h. refl;
      links = λ m lid ne. refl;
      held = λ c n is none ne. refl;
      all_links = λ h. refl;
      all_locks = λ h. refl;
      service = λ h. absurd (true≢false h);
      connection_numbers = omega arith;
      link_numbers = omega arith;
      channel_numbers = omega arith;
    })
step-frame (Begin conn now) f g d =
    let t = f.state.tables in
    subst (Frame f (Begin conn now)) (sym d.leads) (record {
      late = d.late;
      moment_is = refl;
      turn_is = refl;
      wire_is = refl;
      before_is = refl;
      dialed_are = refl;
      tables = refl;
      port = refl;
      roles = λ m ne. refl;
      calls = λ m ne. unmarked (pending_at t m);
      arrivals = λ h. refl;
      links = λ m lid ne. refl;
      held = λ c n is none ne. refl;
      all_links = λ h. refl;
      all_locks = λ h. refl;
      service = λ h. refl;
      connection_numbers = omega arith;
      link_numbers = omega arith;
      channel_numbers = omega arith;
    })
step-frame (Move conn moves) f g d =
    let t = f.state.tables in
    subst (Frame f (Move conn moves)) (sym d.leads) (record {
      late = omega arith;
      moment_is = refl;
      turn_is = ap (λ turn. turn_after turn (Move conn moves)) (sym d.under_way);
      wire_is = refl;
      before_is = refl;
      dialed_are = refl;
      tables = refl;
      port = refl;
      roles = λ m ne. refl;
      calls = λ m ne. unmarked (pending_at t m);
      arrivals = λ h. refl;
      links = λ m lid ne. refl;
      held = λ c n is none ne. refl;
      all_links = λ h. refl;
      all_locks = λ h. refl;
      service = λ h. refl;
      connection_numbers = omega arith;
      link_numbers = omega arith;
      channel_numbers = omega arith;
    })
step-frame (Dial conn now) f g d =
    let t = f.state.tables in
    subst (Frame f (Dial conn now)) (sym d.leads) (record {
      late = d.late;
      moment_is = refl;
      turn_is = refl;
      wire_is = refl;
      before_is = refl;
      dialed_are = refl;
      tables = refl;
      port = refl;
      roles = λ m ne. refl;
      calls = λ m ne. unmarked (pending_at t m);
      arrivals = λ h. refl;
      links = λ m lid ne. refl;
      held = λ c n is none ne. refl;
      all_links = λ h. refl;
      all_locks = λ h. refl;
      service = λ h. refl;
      connection_numbers = omega arith;
      link_numbers = omega arith;
      channel_numbers = omega arith;
    })

-- and so does each event that is allowed
pub frame_law-holds : FrameLaw
frame_law-holds f g e h = step-frame e f g ((does_law-holds f g e).0 h).step

-- what an event that is allowed has changed, and left
pub interleaved-frame : (f g : InterleavedState) (e : Event) → interleaved_step f e ≡ Some g → Frame f e g
interleaved-frame f g e h = frame_law-holds f g e h
