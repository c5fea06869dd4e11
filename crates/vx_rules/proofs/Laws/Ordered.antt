-- Along the arrivals of a gateway of one thread the moments at which the calls came don't fall.
use Rattle.std.proofs.Common.{◌≡◌, ◌≢◌, ◌≤◌, ◌<◌, ◌==◌, ℕ, Bool, true, false, cond, not, ◌⊎◌, inl, inr, List, [], ◌∷◌, ◌++◌, length, get_or, Option, Some, None, Result, Ok, Err, refl, sym, ap, subst, ◌∙◌, arith}
use Rattle.std.specs.Option.{option_map, IfSome}
use Rattle.std.specs.List.{All, AllPairs}
use Rattle.std.proofs.lemmas.Bool.{and_parts, cases_eq, leb-true}
use Rattle.std.proofs.lemmas.Option.{same_Some, none-some, cond_some, option_and_then_some}
use Rattle.std.proofs.lemmas.List.Kept.{AllPairs-filter}
use Rattle.std.proofs.lemmas.List.Quantifiers.{all_pairs_push}
use Rattle.vx_lemmas.proofs.Laws.Conditions.{chosen, other-number}
use Rattle.vx_lemmas.proofs.Laws.Options.{mapped}
use Rattle.vx_lemmas.proofs.Laws.Lists.{All-kept}
use Rattle.vx_calls.specs.declared.calls.Role.TheVariants as role
use Rattle.vx_calls.specs.declared.codes.ErrorCode.{ErrorCode}
use Rattle.vx_calls.specs.declared.targets.Target.{Target}
use Rattle.vx_calls.specs.Target.{target}
use Rattle.vx_calls.specs.Call.{Call}
use Rattle.vx_calls.specs.Call as call
use Rattle.vx_calls.specs.Reply.{Reply}
use Rattle.vx_488.specs.declared.wire.Wire.{Wire}
use Rattle.vx_488.specs.Wire.{wire_after}
use Rattle.vx_rules.specs.Table.{Link, is_live}
use Rattle.vx_rules.specs.Locks.{holds, with_lock}
use Rattle.vx_rules.specs.SrqState.{sampled, taken}
use Rattle.vx_rules.specs.State.{Pending, Tables, State, first, pending_at, arrival_at, has_come, without_arrival, with_pending, with_connection, without_connection}
use Rattle.vx_rules.specs.Calls.{link_named, is_bus_call, asks_dial}
use Rattle.vx_rules.specs.Checks.{NamedLink, NoLink, DeadLink, OnLink, named_link}
use Rattle.vx_rules.specs.Lines.{Admission, Refused, Passed, first_lines}
use Rattle.vx_rules.specs.Effects.{create, locked, effect_on, effect, settle}
use Rattle.vx_rules.specs.Decide.{BusInput, decide, by_lines, dialed_answer, settles}
use Rattle.vx_rules.specs.Entry.{Entry, Up, Down, Arrive, Answer, Abort, Sample, Take}
use Rattle.vx_rules.specs.AtomicStep.{atomic_step, answer, answer_to, answered, if_reply, arrived, names, mark_call, marked, abort_tables}
use Rattle.vx_rules.specs.Lists.{along}
use Rattle.vx_rules.specs.Legal.{legal_state}
use Rattle.vx_rules.specs.Sound.{IsSound}
use Rattle.vx_rules.specs.Laws.{CameBefore}
use Rattle.vx_rules.proofs.Laws.Rows.{pending-other, pending-up, pending-gone, pending-others, pending-marked, pending-put, pending-over}
use Rattle.vx_rules.proofs.Laws.{lives-role, pending-same}
use Rattle.vx_rules.proofs.Laws.Arriving.{come-none, idle-new}
use Rattle.vx_rules.proofs.Laws.Walks.{atomic-sound, along-none}
use Rattle.vx_rules.proofs.Laws.Keeping.{first-sound}

-- ---- what an answer leaves

-- the connections and the arrivals are the same
pub record SameCalls (t u : Tables) : Type 0 where
  pub connections : u.connections ≡ t.connections
  pub arrivals : u.arrivals ≡ t.arrivals

-- they are in what was found
abbrev pub FoundSame : Tables → Option (Reply × Tables) → Type 0
FoundSame t found = IfSome found (λ x. SameCalls t x.1)

all-same : (t : Tables) → SameCalls t t
all-same t = record { connections = refl; arrivals = refl }

create-same : (t : Tables) (conn : ℕ) (lock : Bool) (named : Result Target ErrorCode) → FoundSame t (create t conn lock named)
create-same t conn lock (Err error) = tt
create-same t conn true (Ok named) = record { connections = refl; arrivals = refl }
create-same t conn false (Ok named) = record { connections = refl; arrivals = refl }

locked-same : (t : Tables) (l : Link) → SameCalls t (locked t l)
locked-same t l = by (holds t.locks l.number) where
  by : (b : Bool) → SameCalls t (cond b t (record t { locks = with_lock t.locks l.number l.target }))
  by true = all-same t
  by false = record { connections = refl; arrivals = refl }

effect_on-same : (t : Tables) (conn : ℕ) (l : Link) (asked : Call) → FoundSame t (effect_on t conn l asked)
effect_on-same t conn l (call.Lock lid flags lock_timeout) = locked-same t l
effect_on-same t conn l (call.Unlock lid) = record { connections = refl; arrivals = refl }
effect_on-same t conn l (call.EnableSrq lid enable handle) = record { connections = refl; arrivals = refl }
effect_on-same t conn l (call.DestroyLink lid) = record { connections = refl; arrivals = refl }
effect_on-same t conn l _ = tt

-- the effect of a call leaves them
pub effect-same : (t : Tables) (own conn : ℕ) (about : NamedLink) (asked : Call) → FoundSame t (effect t own conn about asked)
effect-same t own conn (OnLink l) asked = effect_on-same t conn l asked
effect-same t own conn NoLink (call.CreateLink client lock lock_timeout device) = create-same t conn lock (target device own)
effect-same t own conn NoLink call.DestroyIntr = record { connections = refl; arrivals = refl }
effect-same t own conn NoLink _ = tt
effect-same t own conn DeadLink asked = tt

-- and so does a dial that was made
pub settle-same : (t : Tables) (conn : ℕ) (asked : Call) (up : Bool) → FoundSame t (settle t conn asked up)
settle-same t conn (call.CreateIntr host port prog vers family) true = record { connections = refl; arrivals = refl }
settle-same t conn (call.CreateIntr host port prog vers family) false = all-same t
settle-same t conn _ up = tt

either-same : (t : Tables) (b : Bool) (x y : Option (Reply × Tables)) → FoundSame t x → FoundSame t y → FoundSame t (cond b x y)
either-same t true x y this that = this
either-same t false x y this that = that

given-same : (t : Tables) (o : Option Reply) → FoundSame t (option_map (λ given. (given, t)) o)
given-same t None = tt
given-same t (Some given) = all-same t

dialed-same : (t : Tables) (conn : ℕ) (p : Pending) (o : BusInput) (d : Option Bool) → FoundSame t (dialed_answer t conn p o d)
dialed-same t conn p o None = tt
dialed-same t conn p o (Some up) = either-same t _ (settle t conn p.call up) None (settle-same t conn p.call up) tt

lines-same : (t : Tables) (w : Wire) (conn : ℕ) (p : Pending) (now : ℕ) (o : BusInput) (l : Admission) → FoundSame t (by_lines t w conn p now o l)
lines-same t w conn p now o (Refused error) = either-same t _ (Some (_, t)) None (all-same t) tt
lines-same t w conn p now o Passed =
    either-same t (asks_dial p.call) _ _ (dialed-same t conn p o o.dialed)
    (either-same t (is_bus_call p.call) _ _ (given-same t _) (either-same t _ _ None (effect-same t w.own conn (named_link t conn p.call) p.call) tt))
lines-same t w conn p now o _ = tt

-- an answer leaves the connections and the arrivals, while its call isn't over yet
pub decide-same : (t : Tables) (w : Wire) (conn : ℕ) (p : Pending) (now : ℕ) (o : BusInput) (d : Reply × Tables) → decide t w conn p now o ≡ Some d → SameCalls t d.1
decide-same t w conn p now o d h = subst (FoundSame t) h (lines-same t w conn p now o (first_lines t w.own conn (settles o) p now))

-- ---- the order of the moments

-- every call came by this moment, and no call came before one that stands before it
pub record InOrder (t : Tables) (moment : ℕ) : Type 0 where
  pub come : (n x : ℕ) → arrival_at t n ≡ Some x → x ≤ moment
  pub ordered : AllPairs (CameBefore t) t.arrivals

-- the order of some whose calls came at the same moments
pairs-same : (t u : Tables) (ns : List ℕ) → All (λ n. arrival_at u n ≡ arrival_at t n) ns → AllPairs (CameBefore t) ns → AllPairs (CameBefore u) ns
pairs-same t u ns same ordered i j d before h = λ x y at_i at_j.
    ordered i j d before h x y (sym (same i d (omega (arith, before, h))) ∙ at_i) (sym (same j d h) ∙ at_j)

-- where no call comes or goes
stays-ordered : (t u : Tables) (moment now : ℕ) → u.arrivals ≡ t.arrivals → ((n : ℕ) → arrival_at u n ≡ arrival_at t n) → moment ≤ now → InOrder t moment → InOrder u now
stays-ordered t u moment now same at late k = record {
  come = λ n x e. let before = k.come n x (sym (at n) ∙ e) in omega (arith, before, late);
  ordered = subst (AllPairs (CameBefore u)) (sym same) (pairs-same t u t.arrivals (λ i d h. at _) k.ordered);
}

-- where the call of a connection goes
goes-ordered : (t u : Tables) (conn moment now : ℕ) → u.arrivals ≡ without_arrival t.arrivals conn → arrival_at u conn ≡ None
    → ((n : ℕ) → conn ≢ n → arrival_at u n ≡ arrival_at t n) → moment ≤ now → InOrder t moment → InOrder u now
goes-ordered t u conn moment now gone none others late k = record {
  come = λ n x e. by n x e (cases_eq conn n);
  ordered =
      subst (AllPairs (CameBefore u)) (sym gone)
      (pairs-same t u (without_arrival t.arrivals conn)
      (All-kept (λ n. n ≡ n) (λ n. arrival_at u n ≡ arrival_at t n) (λ n. not (n == conn)) t.arrivals (λ n other same. others n (other-number n conn other)) (λ i d h. refl))
      (AllPairs-filter (CameBefore t) (λ n. not (n == conn)) t.arrivals k.ordered));
}
  where
    by : (n x : ℕ) → arrival_at u n ≡ Some x → (conn ≡ n) ⊎ (conn ≡ n → ⊥) → x ≤ now
    by n x e (inl same) = absurd (none-some x (sym none ∙ ap (arrival_at u) same ∙ e))
    by n x e (inr ne) = let before = k.come n x (sym (others n ne) ∙ e) in omega (arith, before, late)

-- where a call comes at the moment that is reached
comes-ordered : (t u : Tables) (conn moment now : ℕ) → has_come t.arrivals conn ≡ false → u.arrivals ≡ t.arrivals ++ conn ∷ [] → arrival_at u conn ≡ Some now
    → ((n : ℕ) → conn ≢ n → arrival_at u n ≡ arrival_at t n) → moment ≤ now → InOrder t moment → InOrder u now
comes-ordered t u conn moment now none more here others late k = record {
  come = λ n x e. by n x e (cases_eq conn n);
  ordered =
      subst (AllPairs (CameBefore u)) (sym more)
      (all_pairs_push (CameBefore u) t.arrivals conn (pairs-same t u t.arrivals (λ i d h. others _ (other i d h)) k.ordered)
      (λ i d h x y at_i at_conn.
      let before = k.come _ x (sym (others _ (other i d h)) ∙ at_i) in
      let is : now ≡ y = same_Some now y (sym here ∙ at_conn) in
      omega (arith, before, late, is)));
}
  where
    other : (i d : ℕ) → i < length t.arrivals → conn ≢ get_or t.arrivals i d
    other i d h same = come-none t.arrivals conn none i d h (sym same)

    by : (n x : ℕ) → arrival_at u n ≡ Some x → (conn ≡ n) ⊎ (conn ≡ n → ⊥) → x ≤ now
    by n x e (inl same) = let is : now ≡ x = same_Some now x (sym here ∙ ap (arrival_at u) same ∙ e) in omega (arith, is)
    by n x e (inr ne) = let before = k.come n x (sym (others n ne) ∙ e) in omega (arith, before, late)

-- ---- each entry

arrival-is : (t u : Tables) (n : ℕ) → pending_at u n ≡ pending_at t n → arrival_at u n ≡ arrival_at t n
arrival-is t u n e = ap (option_map (λ (p : Pending). p.arrival)) e

-- where the connections stay, the moments do
arrival-same : (t u : Tables) (n : ℕ) → u.connections ≡ t.connections → arrival_at u n ≡ arrival_at t n
arrival-same t u n e = arrival-is t u n (pending-same t u n e)

-- a mark leaves the moment
arrival-marked : (t : Tables) (lid n : ℕ) → arrival_at (marked t lid) n ≡ arrival_at t n
arrival-marked t lid n = ap (option_map (λ (p : Pending). p.arrival)) (pending-marked t lid n) ∙ by (pending_at t n) where
  mark : (b : Bool) (p : Pending) → (cond b (record p { aborted = true }) p).arrival ≡ p.arrival
  mark true p = refl
  mark false p = refl

  by : (o : Option Pending) → option_map (λ (p : Pending). p.arrival) (option_map (mark_call lid) o) ≡ option_map (λ (p : Pending). p.arrival) o
  by None = refl
  by (Some p) = ap Some (mark (names lid (link_named p.call)) p)

-- the state behind an entry
atomic-ordered : (s t : State) (e : Entry) → IsSound s.tables → InOrder s.tables s.moment → atomic_step s e ≡ Some t → InOrder t.tables t.moment
atomic-ordered s t (Up conn r) sound k h =
    let parts = cond_some _ (record s { tables = with_connection s.tables r }) t h in
    subst (λ u. InOrder u.tables u.moment) parts.1
    (stays-ordered s.tables (with_connection s.tables r) s.moment s.moment refl (λ n. arrival-is s.tables (with_connection s.tables r) n (pending-up s.tables r n)) (omega arith) k)
atomic-ordered s t (Down conn moves) sound k h =
    let u : Tables = without_connection s.tables conn in
    let parts = cond_some _ (record s { tables = u; wire = wire_after s.wire moves }) t h in
    subst (λ v. InOrder v.tables v.moment) parts.1
    (goes-ordered s.tables u conn s.moment s.moment refl (ap (option_map (λ (p : Pending). p.arrival)) (pending-gone s.tables conn))
    (λ n ne. arrival-is s.tables u n (pending-others s.tables conn n ne)) (omega arith) k)
atomic-ordered s t (Arrive conn asked now) sound k h =
    let u : Tables = with_pending s.tables conn (Some (arrived asked now)) in
    let parts = cond_some _ (record s { tables = u; moment = now }) t h in
    let tests = and_parts _ _ (and_parts _ _ parts.0).0 in
    let idle = and_parts _ _ tests.1 in
    let none : has_come s.tables.arrivals conn ≡ false = idle-new s.tables conn sound.waiting tests.1 in
    subst (λ v. InOrder v.tables v.moment) parts.1
    (comes-ordered s.tables u conn s.moment now none (ap (λ b. cond b s.tables.arrivals (s.tables.arrivals ++ conn ∷ [])) none)
    (ap (option_map (λ (p : Pending). p.arrival)) (pending-put s.tables conn (Some (arrived asked now)) role.Core (lives-role s.tables conn role.Core idle.0)))
    (λ n ne. arrival-is s.tables u n (pending-other s.tables conn n (Some (arrived asked now)) ne)) (leb-true s.moment now tests.0) k)
atomic-ordered s t (Answer conn now begun moves failed dialed level told) sound k h =
    let o : BusInput = record { begun = begun; moves = moves; failed = failed; dialed = dialed; level = level } in
    let parts = chosen _ _ t h in
    let late = leb-true s.moment now (and_parts _ _ parts.0).0 in
    option_and_then_some (if_reply told) (answer s conn now o) t parts.1 (λ result e f.
    option_and_then_some (answer_to s conn now o) (pending_at s.tables conn) result e (λ p here made.
    let found = mapped (answered s conn now o.moves) (decide s.tables s.wire conn p now o) result made in
    let there : (answered s conn now o.moves found.0).1 ≡ t = ap (λ x. x.1) found.2 ∙ (cond_some _ result.1 t f).1 in
    let same = decide-same s.tables s.wire conn p now o found.0 found.1 in
    let u : Tables = with_pending found.0.1 conn None in
    subst (λ v. InOrder v.tables v.moment) there
    (goes-ordered s.tables u conn s.moment now (ap (λ ns. without_arrival ns conn) same.arrivals) (ap (option_map (λ (p : Pending). p.arrival)) (pending-over found.0.1 conn))
    (λ n ne. arrival-is found.0.1 u n (pending-other found.0.1 conn n None ne) ∙ arrival-same s.tables found.0.1 n same.connections) late k)))
atomic-ordered s t (Abort conn lid told) sound k h =
    subst (λ v. InOrder v.tables v.moment) (cond_some _ (record s { tables = abort_tables s.tables lid }) t h).1 (by (is_live s.tables.links lid))
  where
    by : (b : Bool) → InOrder (cond b (marked s.tables lid) s.tables) s.moment
    by true = stays-ordered s.tables (marked s.tables lid) s.moment s.moment refl (arrival-marked s.tables lid) (omega arith) k
    by false = k
atomic-ordered s t (Sample now srq) sound k h =
    let u : Tables = record s.tables { srq_state = sampled s.tables.srq_state srq } in
    let parts = cond_some _ (record s { tables = u; moment = now }) t h in
    subst (λ v. InOrder v.tables v.moment) parts.1
    (stays-ordered s.tables u s.moment now refl (λ n. refl) (leb-true s.moment now parts.0) k)
atomic-ordered s t (Take conn chan told) sound k h =
    let u : Tables = record s.tables { srq_state = taken s.tables.srq_state conn chan } in
    subst (λ v. InOrder v.tables v.moment) (cond_some _ (record s { tables = u }) t h).1 (stays-ordered s.tables u s.moment s.moment refl (λ n. refl) (omega arith) k)

-- ---- each history

along-ordered : (o : Option State) (history : List Entry) (t : State) → IfSome o (λ s. IsSound s.tables × InOrder s.tables s.moment) → along atomic_step o history ≡ Some t
    → InOrder t.tables t.moment
along-ordered None history t both h = absurd (along-none history t h)
along-ordered (Some s) [] t both h = subst (λ u. InOrder u.tables u.moment) (same_Some s t h) both.1
along-ordered (Some s) (e ∷ es) t both h =
    along-ordered (atomic_step s e) es t (next (atomic_step s e) (λ u is. (atomic-sound s u e both.0 is, atomic-ordered s u e both.0 both.1 is))) h
  where
    next : (o : Option State) → ((u : State) → o ≡ Some u → IsSound u.tables × InOrder u.tables u.moment) → IfSome o (λ u. IsSound u.tables × InOrder u.tables u.moment)
    next None f = tt
    next (Some u) f = f u refl

-- every state of a history has them in order
pub legal-ordered : (abort_port : ℕ) (history : List Entry) (s : State) → legal_state abort_port history ≡ Some s → InOrder s.tables s.moment
legal-ordered abort_port history s h =
    along-ordered (Some (first abort_port)) history s
    (first-sound abort_port, record { come = λ n x e. absurd (none-some x e); ordered = λ i j d before inside. absurd (omega arith) }) h
