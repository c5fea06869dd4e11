-- The transfers of a call reach no address that another link's lock keeps.
use Rattle.std.proofs.Common.{◌≡◌, ◌≢◌, ◌≤◌, ◌==◌, ℕ, true, false, ◌⊎◌, inl, inr, List, [], ◌∷◌, ◌++◌, Option, Some, None, refl, sym, ap, ◌∙◌, subst}
use Rattle.std.specs.Prelude.{is_some, not, ◌&&◌}
use Rattle.std.specs.Option.{option_map, option_and_then}
use Rattle.std.specs.List.{find, All}
use Rattle.std.proofs.lemmas.Bool.{true≢false, and_parts, eqb-true, eqb-false, ne_eqb}
use Rattle.std.proofs.lemmas.Option.{cond_some}
use Rattle.std.proofs.lemmas.List.Elements.{All-nil, All-cons, All-tail, All-weaker}
use Rattle.vx_lemmas.proofs.Laws.Conditions.{chosen}
use Rattle.vx_lemmas.proofs.Laws.Lists.{found_passes, none_passes}
use Rattle.vx_calls.specs.declared.targets.Target.{Target}
use Rattle.vx_calls.specs.declared.targets.Target.TheVariants.{Interface, Device}
use Rattle.vx_calls.specs.Target.{conflict}
use Rattle.vx_calls.specs.Call.{Call}
use Rattle.vx_488.specs.declared.transfers.TheConstants.{ADDRESS_MAX}
use Rattle.vx_488.specs.declared.transfers.Addr.{Addr}
use Rattle.vx_488.specs.declared.transfers.Transfer.{Transfer}
use Rattle.vx_488.specs.declared.wire.Wire.{Wire}
use Rattle.vx_488.specs.Wire.{wire_after}
use Rattle.vx_488.specs.Heard.{reached}
use Rattle.vx_488.proofs.Laws.Appends.{reached-append}
use Rattle.vx_plan.specs.Tasks.{plan, IsTargetPlain}
use Rattle.vx_rules.specs.Table.{Link}
use Rattle.vx_rules.specs.Locks.{Lock, keeps_off, holder_of}
use Rattle.vx_rules.specs.Calls.{link_named, bytes_of}
use Rattle.vx_rules.specs.State.{Pending, Tables, State, connection_at, pending_at, link_of, without_connection}
use Rattle.vx_rules.specs.Checks.{OnLink, link_found, link_by_number, named_link}
use Rattle.vx_rules.specs.Lines.{lets_pass}
use Rattle.vx_rules.specs.Effects.{task_on}
use Rattle.vx_rules.specs.Decide.{BusInput, stand_on}
use Rattle.vx_rules.specs.Entry.{Entry, Up, Down, Arrive, Answer, Abort, Sample, Take}
use Rattle.vx_rules.specs.AtomicStep.{atomic_step, may_leave}
use Rattle.vx_rules.proofs.Laws.{bus-job}
use Rattle.vx_flow.specs.Event.{Move}
use Rattle.vx_flow.specs.InterleavedState.{Turn, InterleavedState, before_turn}
use Rattle.vx_flow.specs.InterleavedStep.{is_whole, is_on, goes_on, turn_stand, comes_in_turn, any_turn_step}
use Rattle.vx_flow.specs.Linearization.{linearization}
use Rattle.vx_flow.specs.Laws.{at_address, AreFree, link_called, ReachesFreely, EntriesFreeLaw, MovesFreelyLaw}
use Rattle.vx_flow.specs.Sound.{Stands, IsSound}
use Rattle.vx_flow.proofs.Laws.Later.{on-is}
use Rattle.vx_flow.proofs.Laws.Jobs.{own-stays, passes-parts}
use Rattle.vx_flow.proofs.Laws.Kept.{IsOpen, turn-stand, is-open}
use Rattle.vx_flow.proofs.Laws.Turning.{goes-parts, moved, in_turn}
use Rattle.vx_flow.proofs.Laws.Linearizing.{interleaved-linearizes}
use Rattle.vx_flow.proofs.Laws.Whom.{At, ended, reached-front}
use Rattle.vx_flow.proofs.Laws.Making.{MadePart, MadeAny, answer-parts, answer-made, leave-made}
use Rattle.vx_flow.proofs.Laws.Plain.{AllPlain, IsLinkPlain, found-has, IsPlain, legal-plain}
use Rattle.vx_flow.proofs.Laws.Reaching.{device-reaches}

-- ---- locks that don't keep a link off its target

none-found : (o : Option Lock) → option_map (λ k. k.link) o ≡ None → o ≡ None
none-found None h = refl
none-found (Some k) h = cc

-- another link's lock, which doesn't keep this one off, is on a target that doesn't conflict
lock-apart : (lid : ℕ) (target : Target) (k : Lock) (named : Option ℕ) → named ≡ Some lid → keeps_off lid target k ≡ false → named ≢ Some k.link → conflict k.target target ≡ false
lock-apart lid target k named is h other =
    sym (ap (λ b. not b && conflict k.target target) (ne_eqb k.link lid (λ e. other (is ∙ ap Some (sym e))))) ∙ h

device-apart : (a : Addr) (p : ℕ) (s : Option ℕ) (x : Target) → a.p ≡ p → conflict x (Device p s) ≡ false → conflict (at_address a) x ≡ false
device-apart a p s Interface at h = absurd (true≢false h)
device-apart a p s (Device q t) at h = ne_eqb a.p q (λ e. eqb-false q p h (sym e ∙ at))

interface-apart : (x : Target) → conflict x Interface ≡ false → ⊥
interface-apart Interface h = true≢false h
interface-apart (Device p s) h = true≢false h

-- this address is kept by no other link's lock
abbrev IsFree : Option ℕ → List Lock → Addr → Type 0
IsFree named locks a = All (λ k. named ≢ Some k.link → conflict (at_address a) k.target ≡ false) locks

none-keeps : (locks : List Lock) (lid : ℕ) (target : Target) → holder_of locks lid target ≡ None → All (λ k. keeps_off lid target k ≡ false) locks
none-keeps locks lid target h = none_passes (keeps_off lid target) locks (none-found (find (keeps_off lid target) locks) h)

free-device : (named : Option ℕ) (locks : List Lock) (lid p : ℕ) (s : Option ℕ) → named ≡ Some lid → holder_of locks lid (Device p s) ≡ None → (addresses : List Addr)
    → All (At p) addresses → AreFree named locks addresses
free-device named locks lid p s is free addresses at =
    All-weaker (At p) (IsFree named locks)
    (λ a here. All-weaker (λ k. keeps_off lid (Device p s) k ≡ false) (λ k. named ≢ Some k.link → conflict (at_address a) k.target ≡ false)
    (λ k off other. device-apart a p s k.target here (lock-apart lid (Device p s) k named is off other))
    locks (none-keeps locks lid (Device p s) free))
    addresses at

-- a call on the interface passes where no other link has a lock
free-interface : (named : Option ℕ) (locks : List Lock) (lid : ℕ) → named ≡ Some lid → holder_of locks lid Interface ≡ None → (addresses : List Addr) → AreFree named locks addresses
free-interface named locks lid is free [] = All-nil (IsFree named locks)
free-interface named locks lid is free (a ∷ rest) =
    All-cons (IsFree named locks) a rest
    (All-weaker (λ k. keeps_off lid Interface k ≡ false) (λ k. named ≢ Some k.link → conflict (at_address a) k.target ≡ false)
    (λ k off other. absurd (interface-apart k.target (lock-apart lid Interface k named is off other)))
    locks (none-keeps locks lid Interface free))
    (free-interface named locks lid is free rest)

-- ---- the transfers of a call

found_is : (o : Option Link) (l : Link) → link_found o ≡ OnLink l → o ≡ Some l
found_is None l h = cc
found_is (Some k) l h = cc

-- the link that a call is on is that of the number that it names
pub link-is : (t : Tables) (conn : ℕ) (asked : Call) (l : Link) → named_link t conn asked ≡ OnLink l → (lid : ℕ) × (link_named asked ≡ Some lid) × (link_of t conn lid ≡ Some l)
link-is t conn asked l h = by (link_named asked) refl h where
  by : (o : Option ℕ) → link_named asked ≡ o → link_by_number t conn o ≡ OnLink l → (lid : ℕ) × (link_named asked ≡ Some lid) × (link_of t conn lid ≡ Some l)
  by None e h = cc
  by (Some lid) e h = (lid, e, found_is (link_of t conn lid) l h)

number-is : (t : Tables) (conn lid : ℕ) (l : Link) → link_of t conn lid ≡ Some l → l.number ≡ lid
number-is t conn lid l h =
    eqb-true l.number lid (and_parts (l.number == lid) (l.connection == conn) (found_passes (λ k. (k.number == lid) && (k.connection == conn)) t.links.links l h)).0

made-free : (t : Tables) (w : Wire) (conn : ℕ) (p : Pending) (moves : List Transfer) → AllPlain t → w.own ≤ ADDRESS_MAX → MadePart t w conn p moves
    → AreFree (link_named p.call) t.locks (reached w moves)
made-free t w conn p moves all small m = by m.link.target refl where
  link : (lid : ℕ) × (link_named p.call ≡ Some lid) × (link_of t conn lid ≡ Some m.link)
  link = link-is t conn p.call m.link m.on_link

  named : link_named p.call ≡ Some m.link.number
  named = link.1 ∙ ap Some (sym (number-is t conn link.0 m.link link.2))

  here : IsTargetPlain m.link.target
  here = found-has IsLinkPlain (λ k. (k.number == link.0) && (k.connection == conn)) t.links.links m.link link.2 all

  on-device : (q : ℕ) (s : Option ℕ) → m.link.target ≡ Device q s → IsTargetPlain (Device q s) → All (At q) (reached w moves)
  on-device q s e plain =
      let end = ended (plan m.job (bytes_of p.call) w.polling w.own) moves m.on_plan in
      reached-front (At q) w moves end.0
      (device-reaches w q s plain.0 plain.1 small t w.own m.link p.call m.job (moves ++ end.0) e (subst (λ x. task_on x p.call ≡ Some m.job) e m.has_job) m.passes.checked end.1)

  by : (target : Target) → m.link.target ≡ target → AreFree (link_named p.call) t.locks (reached w moves)
  by Interface e =
      free-interface (link_named p.call) t.locks m.link.number named (subst (λ x. holder_of t.locks m.link.number x ≡ None) e m.passes.free) (reached w moves)
  by (Device q s) e =
      free-device (link_named p.call) t.locks m.link.number q s named (subst (λ x. holder_of t.locks m.link.number x ≡ None) e m.passes.free) (reached w moves)
      (on-device q s e (subst IsTargetPlain e here))

-- ---- entries

none-free : (named : Option ℕ) (locks : List Lock) (w : Wire) (moves : List Transfer) → moves ≡ [] → AreFree named locks (reached w moves)
none-free named locks w moves e = subst (λ x. AreFree named locks (reached w x)) (sym e) (All-nil (IsFree named locks))

asked-free : (s : State) (conn : ℕ) (p : Pending) (moves : List Transfer) → IsPlain s → pending_at s.tables conn ≡ Some p → MadeAny s.tables s.wire conn p moves
    → AreFree (link_called s conn) s.tables.locks (reached s.wire moves)
asked-free s conn p moves plain at (inl e) = none-free (link_called s conn) s.tables.locks s.wire moves e
asked-free s conn p moves plain at (inr m) =
    subst (λ o. AreFree (option_and_then (λ (q : Pending). link_named q.call) o) s.tables.locks (reached s.wire moves)) (sym at)
    (made-free s.tables s.wire conn p moves plain.links plain.own m)

left-free : (s : State) (conn : ℕ) (moves : List Transfer) → IsPlain s
    → (moves ≡ []) ⊎ ((p : Pending) × (pending_at s.tables conn ≡ Some p) × MadePart s.tables s.wire conn p moves)
    → AreFree (link_called s conn) s.tables.locks (reached s.wire moves)
left-free s conn moves plain (inl e) = none-free (link_called s conn) s.tables.locks s.wire moves e
left-free s conn moves plain (inr m) = asked-free s conn m.0 moves plain m.1 (inr m.2)

entry-free : (e : Entry) (s t : State) → IsPlain s → atomic_step s e ≡ Some t → ReachesFreely s e
entry-free (Up conn r) s t plain h = tt
entry-free (Down conn moves) s t plain h =
    let parts = cond_some (is_some (connection_at s.tables conn) && may_leave s.tables s conn moves (pending_at s.tables conn))
    (record s { tables = without_connection s.tables conn; wire = wire_after s.wire moves }) t h in
    left-free s conn moves plain (leave-made s conn moves (pending_at s.tables conn)
    (and_parts (is_some (connection_at s.tables conn)) (may_leave s.tables s conn moves (pending_at s.tables conn)) parts.0).1)
entry-free (Arrive conn asked now) s t plain h = tt
entry-free (Answer conn now begun moves failed dialed level told) s t plain h =
    let o : BusInput = record { begun = begun; moves = moves; failed = failed; dialed = dialed; level = level } in
    let a = answer-parts s t conn now o told h in
    asked-free s conn a.asked moves plain a.at (answer-made s.tables s.wire conn a.asked now o a.decided a.fits a.found)
entry-free (Abort conn lid told) s t plain h = tt
entry-free (Sample now srq) s t plain h = tt
entry-free (Take conn chan told) s t plain h = tt

pub entries-hold : EntriesFreeLaw
entries-hold abort_port earlier e s t legal h = entry-free e s t (legal-plain abort_port earlier s legal) h

-- ---- the moves of a turn

all-back : (P : Addr → Type 0) (xs ys : List Addr) → All P (xs ++ ys) → All P ys
all-back P [] ys h = h
all-back P (x ∷ xs) ys h = all-back P xs ys (All-tail P x (xs ++ ys) h)

-- what a turn makes is made with what it made before
more-free : (t : Tables) (before now : Wire) (moment : ℕ) (u : Turn) (moves : List Transfer) (s : Stands t before now moment u) → AllPlain t → before.own ≤ ADDRESS_MAX
    → MadePart t before u.connection s.asked (u.moves ++ moves) → AreFree (link_named s.asked.call) t.locks (reached now moves)
more-free t before now moment u moves s all small m =
    let free = made-free t before u.connection s.asked (u.moves ++ moves) all small m in
    let behind = all-back (IsFree (link_named s.asked.call) t.locks) (reached before u.moves) (reached (wire_after before u.moves) moves)
    (subst (AreFree (link_named s.asked.call) t.locks) (reached-append before u.moves moves) free) in
    subst (λ w. AreFree (link_named s.asked.call) t.locks (reached w moves)) (sym s.made) behind

move-free : (s : State) (turn : Option Turn) (before : Wire) (dialed : List ℕ) (g : InterleavedState) (conn : ℕ) (moves : List Transfer)
    → IsSound (in_turn s turn before dialed) → AllPlain s.tables → before.own ≤ ADDRESS_MAX → IsOpen (in_turn s turn before dialed)
    → any_turn_step (in_turn s turn before dialed) (Move conn moves) ≡ Some g → AreFree (link_called s conn) s.tables.locks (reached s.wire moves)
move-free s None before dialed g conn moves sound all small more h = cc
move-free s (Some u) before dialed g conn moves sound all small more h =
    let t = s.tables in
    let f = in_turn s (Some u) before dialed in
    let parts = cond_some ((u.connection == conn) && goes_on s conn (pending_at t conn) && is_on (turn_stand f u (u.moves ++ moves))) (moved s u before dialed moves) g h in
    let tests = and_parts ((u.connection == conn) && goes_on s conn (pending_at t conn)) (is_on (turn_stand f u (u.moves ++ moves))) parts.0 in
    let first = and_parts (u.connection == conn) (goes_on s conn (pending_at t conn)) tests.0 in
    let same : u.connection ≡ conn = eqb-true u.connection conn first.0 in
    let stands : Stands t before s.wire s.moment u = sound.turn_stands in
    let goes = goes-parts s u.connection (pending_at t u.connection) stands.asked stands.call_at
    (subst (λ c. goes_on s c (pending_at t c) ≡ true) (sym same) first.1) in
    let open-yet = sym (ap is_whole (turn-stand t before s.wire s.moment u stands u.moves)) ∙ more u refl in
    let own : s.wire.own ≡ before.own = ap (λ w. w.own) stands.made ∙ own-stays before stands.asked.call stands.job u.moves stands.on_plan open-yet in
    let made : MadePart t before u.connection stands.asked (u.moves ++ moves) = record {
      link = stands.link;
      job = stands.job;
      on_link = stands.on_link;
      has_job = stands.has_job;
      on_plan = on-is (stand_on before stands.asked.call stands.job (u.moves ++ moves))
          (sym (ap is_on (turn-stand t before s.wire s.moment u stands (u.moves ++ moves))) ∙ tests.1);
      passes = passes-parts t before.own u.connection stands.asked stands.link stands.on_link (bus-job stands.link.target stands.asked.call stands.job stands.has_job)
          (subst (λ o. lets_pass t o u.connection stands.asked ≡ true) own goes.1);
    } in
    subst (λ c. AreFree (option_and_then (λ (q : Pending). link_named q.call) (pending_at t c)) t.locks (reached s.wire moves)) same
    (subst (λ o. AreFree (option_and_then (λ (q : Pending). link_named q.call) o) t.locks (reached s.wire moves)) (sym stands.call_at)
    (more-free t before s.wire s.moment u moves stands all small made))

pub moves-hold : MovesFreelyLaw
moves-hold abort_port h f g conn moves is step =
    let kept = interleaved-linearizes abort_port h f is in
    let plain = legal-plain abort_port (linearization h) (before_turn f kept.moment) kept.reaches in
    let parts = chosen (comes_in_turn f (Move conn moves) f.turn) (any_turn_step f (Move conn moves)) g step in
    move-free f.state f.turn f.before f.dialed g conn moves kept.sound plain.links plain.own (is-open f (Move conn moves) parts.0 (λ n. refl)) parts.1
