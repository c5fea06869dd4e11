-- What holds of the tables stays along the order of answers and along a history.
use Rattle.std.proofs.Common.{◌≡◌, ℕ, Bool, true, false, cond, not, ◌&&◌, ◌==◌, List, [], ◌∷◌, Option, Some, None, Result, Ok, Err, refl, sym, ap, subst, ◌∙◌, arith}
use Rattle.std.specs.List.{find, list_any}
use Rattle.std.specs.Option.{option_map, option_and_then, IfSome}
use Rattle.std.proofs.lemmas.Bool.{false≢true, and_parts, and_from, and_right, or_left, or_right, eqb-true, false_from_ne_true}
use Rattle.std.proofs.lemmas.Bool.Decides.{Decides-eqb}
use Rattle.std.proofs.lemmas.Option.{same_Some, cond_some, option_and_then_some}
use Rattle.std.proofs.lemmas.List.Folds.{list_any_none, list_any-append}
use Rattle.vx_lemmas.proofs.Laws.Conditions.{chosen}
use Rattle.vx_lemmas.proofs.Laws.Options.{mapped, unmapped}
use Rattle.vx_lemmas.proofs.Laws.Lists.{found_passes, none_passes, found_among, none_found}
use Rattle.vx_calls.specs.declared.codes.ErrorCode.{ErrorCode}
use Rattle.vx_calls.specs.declared.codes.ErrorCode.TheVariants as code
use Rattle.vx_calls.specs.declared.targets.Target.{Target}
use Rattle.vx_calls.specs.Target.{target, conflict}
use Rattle.vx_calls.specs.Call.{Call}
use Rattle.vx_calls.specs.Call as call
use Rattle.vx_calls.specs.Reply.{Reply}
use Rattle.vx_488.specs.declared.wire.Wire.{Wire}
use Rattle.vx_488.specs.Wire.{wire_after}
use Rattle.vx_rules.specs.Table.{Link, is_full, is_live}
use Rattle.vx_rules.proofs.Laws.Numbers.{next_free}
use Rattle.vx_rules.specs.SrqState.{with_new_channel, sampled, taken}
use Rattle.vx_rules.specs.Locks.{Lock, holds, keeps_off, is_blocked, holder_of, with_lock}
use Rattle.vx_rules.specs.State.{Pending, Tables, State, first, link_of, pending_at, with_pending, with_link, without_connection, with_connection}
use Rattle.vx_rules.specs.Calls.{link_named, is_bus_call, asks_dial}
use Rattle.vx_rules.specs.Checks.{NamedLink, NoLink, DeadLink, OnLink, named_link, link_by_number, link_found, check, check_create}
use Rattle.vx_rules.specs.Lines.{Bar, Admission, Refused, Passed, kept_off, named_request, holder_against, bar_by, lock_lines, checked_lines, first_lines}
use Rattle.vx_rules.specs.Effects.{create, locked, locked_link, effect_on, effect, settle}
use Rattle.vx_rules.specs.Decide.{BusInput, decide, by_lines, dialed_answer, settles}
use Rattle.vx_rules.specs.Entry.{Entry, Up, Down, Arrive, Answer, Abort, Sample, Take}
use Rattle.vx_rules.specs.AtomicStep.{atomic_step, answer, answer_to, answered, if_reply, arrived, abort_tables, marked}
use Rattle.vx_rules.specs.Lists.{along}
use Rattle.vx_rules.specs.Legal.{legal_state}
use Rattle.vx_rules.specs.Sound.{IsSound, IsHeld, owns}
use Rattle.vx_rules.proofs.Laws.Keeping.{first-sound, with_link-sound, with_lock-sound, without_lock-sound, without_link-sound, without_connection-sound, with_channel-sound, with_new_channel-sound, taken-sound, sampled-sound, with_enable-sound, with_connection-sound, with_pending-sound, ended-sound, marked-sound}

-- nothing bars a call where no lock keeps it off and no other call is before it
pub unbarred : (holder first : Option ℕ) → bar_by holder first ≡ None → (holder ≡ None) × (first ≡ None)
unbarred (Some link) first h = cc
unbarred None None h = (refl, refl)
unbarred None (Some conn) h = cc

-- the first lines let a call pass: no mark, no check and no lock is against it, and no other call stands in line before it
pub record Passes (aborted : Bool) (checked : Option ErrorCode) (holder first : Option ℕ) : Type 0 where
  pub unmarked : aborted ≡ false
  pub checks : checked ≡ None
  pub locks : holder ≡ None
  pub first_come : first ≡ None

pub passed-says : (p : Pending) (now : ℕ) (aborted : Bool) (checked : Option ErrorCode) (holder first : Option ℕ)
    → cond aborted (Refused code.Abort) (checked_lines p now checked (bar_by holder first)) ≡ Passed → Passes aborted checked holder first
passed-says p now true checked holder first h = cc
passed-says p now false (Some error) holder first h = cc
passed-says p now false None holder first h = by (bar_by holder first) refl h
  where
    kept : (bar : Bar) (b : Bool) → kept_off bar b ≡ Passed → ⊥
    kept bar true e = cc
    kept bar false e = cc

    by : (bar : Option Bar) → bar_by holder first ≡ bar → lock_lines p now bar ≡ Passed → Passes false None holder first
    by None is e = let none = unbarred holder first is in record { unmarked = refl; checks = refl; locks = none.0; first_come = none.1 }
    by (Some bar) is e = absurd (kept bar _ e)

-- the link that a call is about is its connection's and lives
pub record IsOn (t : Tables) (conn : ℕ) (l : Link) : Type 0 where
  pub found : find (λ k. (k.number == l.number) && (k.connection == conn)) t.links.links ≡ Some l
  pub live : is_live t.links l.number ≡ true
  pub owned : owns t.links.links l.number conn ≡ true

found-on : (t : Tables) (conn lid : ℕ) (o : Option Link) → link_of t conn lid ≡ o → (l : Link) → link_found o ≡ OnLink l → IsOn t conn l
found-on t conn lid None e l h = cc
found-on t conn lid (Some k) e l h =
    let same : k ≡ l = cc in
    let found : link_of t conn lid ≡ Some l = e ∙ ap Some same in
    let passes = and_parts _ _ (found_passes (λ m. (m.number == lid) && (m.connection == conn)) t.links.links l found) in
    let self = (Decides-eqb l.number l.number).1 refl in
    record {
      found = subst (λ n. find (λ m. (m.number == n) && (m.connection == conn)) t.links.links ≡ Some l) (sym (eqb-true l.number lid passes.0)) found;
      live = found_among (λ m. (m.number == lid) && (m.connection == conn)) (λ m. m.number == l.number) t.links.links l found self;
      owned = found_among (λ m. (m.number == lid) && (m.connection == conn)) (λ m. (m.number == l.number) && (m.connection == conn)) t.links.links l found (and_from _ _ self passes.1);
    }

number-on : (t : Tables) (conn : ℕ) (o : Option ℕ) (l : Link) → link_by_number t conn o ≡ OnLink l → IsOn t conn l
number-on t conn None l h = cc
number-on t conn (Some lid) l h = found-on t conn lid (link_of t conn lid) refl l h

pub named-on : (t : Tables) (conn : ℕ) (asked : Call) (l : Link) → named_link t conn asked ≡ OnLink l → IsOn t conn l
named-on t conn asked l h = number-on t conn (link_named asked) l h

-- a lock that link 0 isn't kept off by keeps no link off that isn't made yet
free-next : (t : Tables) (named : Target) (k : Lock) → IsSound t → IsHeld t k → keeps_off 0 named k ≡ false → keeps_off t.links.next named k ≡ false
free-next t named k s live free = at (k.link == 0) refl free
  where
    given : (n : ℕ) → (n == 0) ≡ true → is_live t.links n ≡ true → false ≡ true
    given n zero live = sym (list_any_none (λ l. l.number == n) t.links.links (λ i d h. false_from_ne_true _ (λ e.
        let above = (s.numbered.given i d h).0 in let is = eqb-true _ n e in let nought = eqb-true n 0 zero in absurd (omega (arith, above, is, nought))))) ∙ live

    at : (b : Bool) → (k.link == 0) ≡ b → (not b && conflict k.target named) ≡ false → keeps_off t.links.next named k ≡ false
    at true zero e = absurd (false≢true (given k.link zero live))
    at false other e = and_right (not (k.link == t.links.next)) _ e

-- a link that is made takes its lock
pub made-free : (t : Tables) (named : Target) → IsSound t → holder_of t.locks 0 named ≡ None → is_blocked t.locks t.links.next named ≡ false
made-free t named s none =
    list_any_none (keeps_off t.links.next named) t.locks (λ i d h. free-next t named _ s (s.held i d h) (none_passes (keeps_off 0 named) t.locks (unmapped (λ k. k.link) _ none) i d h))

pub made-none : (t : Tables) → IsSound t → holds t.locks t.links.next ≡ false
made-none t s = list_any_none (λ k. k.link == t.links.next) t.locks (λ i d h. false_from_ne_true _ (λ e.
    false≢true (sym (next_free t.links s.numbered) ∙ ap (is_live t.links) (sym (eqb-true _ t.links.next e)) ∙ s.held i d h)))

pub made-live : (t : Tables) (conn : ℕ) (named : Target) → is_live (with_link t conn named).links t.links.next ≡ true
made-live t conn named =
    list_any-append (λ l. l.number == t.links.next) t.links.links _ ∙ or_right (list_any (λ l. l.number == t.links.next) t.links.links) _ (or_left _ _ ((Decides-eqb t.links.next t.links.next).1 refl))

pub create-sound : (t : Tables) (conn : ℕ) (lock : Bool) (named : Target) → IsSound t → is_full t.links ≡ false
    → (lock ≡ true → holder_of t.locks 0 named ≡ None) → IsSound (locked_link t lock named (with_link t conn named))
create-sound t conn false named s room free = with_link-sound t conn named s room
create-sound t conn true named s room free =
    with_lock-sound (with_link t conn named) t.links.next named (with_link-sound t conn named s room) (made-live t conn named) (made-none t s) (made-free t named s (free refl))

-- what was found keeps the tables sound
abbrev pub Keeps : Option (Reply × Tables) → Type 0
Keeps found = IfSome found (λ x. IsSound x.1)

pub not_full : (b : Bool) → cond b (Some code.NoResources) None ≡ None → b ≡ false
not_full true h = cc
not_full false h = refl

created-keeps : (t : Tables) (own conn : ℕ) (lock : Bool) (named : Result Target ErrorCode) → IsSound t → check_create t named ≡ None
    → ((u : Target) → named ≡ Ok u → lock ≡ true → holder_of t.locks 0 u ≡ None) → Keeps (create t conn lock named)
created-keeps t own conn lock (Err error) s checks free = tt
created-keeps t own conn lock (Ok u) s checks free = create-sound t conn lock u s (not_full (is_full t.links) checks) (free u refl)

-- the lock of a link that is made
pub asked-free : (t : Tables) (o : Result Target ErrorCode) → option_and_then (λ c. holder_of t.locks c.link c.target) (named_request o) ≡ None
    → (u : Target) → o ≡ Ok u → holder_of t.locks 0 u ≡ None
asked-free t (Err error) h u e = cc
asked-free t (Ok v) h u e = let same : v ≡ u = cc in subst (λ w. holder_of t.locks 0 w ≡ None) same h

pub locked-sound : (t : Tables) (l : Link) → IsSound t → is_live t.links l.number ≡ true → holder_of t.locks l.number l.target ≡ None → IsSound (locked t l)
locked-sound t l s live free = at (holds t.locks l.number) refl
  where
    at : (b : Bool) → holds t.locks l.number ≡ b → IsSound (cond b t (record t { locks = with_lock t.locks l.number l.target }))
    at true e = s
    at false e = with_lock-sound t l.number l.target s live e (none_found (keeps_off l.number l.target) t.locks (unmapped (λ k. k.link) _ free))

on-keeps : (t : Tables) (own conn : ℕ) (l : Link) (asked : Call) → IsSound t → IsOn t conn l → holder_against t own (OnLink l) asked ≡ None → Keeps (effect_on t conn l asked)
on-keeps t own conn l (call.Lock lid flags lock_timeout) s on free = locked-sound t l s on.live free
on-keeps t own conn l (call.Unlock lid) s on free = without_lock-sound t l.number s
on-keeps t own conn l (call.EnableSrq lid enable handle) s on free = with_enable-sound t _ s on.owned
on-keeps t own conn l (call.DestroyLink lid) s on free = without_link-sound t conn l.number s
on-keeps t own conn l _ s on free = tt

none-keeps : (t : Tables) (own conn : ℕ) (settling : Bool) (asked : Call) → IsSound t → check t own conn settling NoLink asked ≡ None
    → holder_against t own NoLink asked ≡ None → Keeps (effect t own conn NoLink asked)
none-keeps t own conn settling (call.CreateLink client true lock_timeout device) s checks free =
    created-keeps t own conn true (target device own) s checks (λ u e l. asked-free t (target device own) free u e)
none-keeps t own conn settling (call.CreateLink client false lock_timeout device) s checks free =
    created-keeps t own conn false (target device own) s checks (λ u e l. absurd (false≢true l))
none-keeps t own conn settling call.DestroyIntr s checks free = with_channel-sound t conn None s
none-keeps t own conn settling _ s checks free = tt

about-keeps : (t : Tables) (own conn : ℕ) (settling : Bool) (about : NamedLink) (asked : Call) → IsSound t → ((l : Link) → about ≡ OnLink l → IsOn t conn l)
    → check t own conn settling about asked ≡ None → holder_against t own about asked ≡ None → Keeps (effect t own conn about asked)
about-keeps t own conn settling NoLink asked s on checks free = none-keeps t own conn settling asked s checks free
about-keeps t own conn settling DeadLink asked s on checks free = tt
about-keeps t own conn settling (OnLink l) asked s on checks free = on-keeps t own conn l asked s (on l refl) free

-- the effect of a call that passes
pub effect-keeps : (t : Tables) (own conn : ℕ) (settling : Bool) (asked : Call) → IsSound t
    → check t own conn settling (named_link t conn asked) asked ≡ None → holder_against t own (named_link t conn asked) asked ≡ None
    → Keeps (effect t own conn (named_link t conn asked) asked)
effect-keeps t own conn settling asked s checks free = about-keeps t own conn settling (named_link t conn asked) asked s (named-on t conn asked) checks free

-- the effect of a dial
up-keeps : (t : Tables) (conn prog vers : ℕ) (up : Bool) (made lost : Reply) → IsSound t
    → Keeps (cond up (Some (made, record t { srq_state = with_new_channel t.srq_state conn prog vers })) (Some (lost, t)))
up-keeps t conn prog vers true made lost s = with_new_channel-sound t conn prog vers s
up-keeps t conn prog vers false made lost s = s

pub settle-keeps : (t : Tables) (conn : ℕ) (asked : Call) (up : Bool) → IsSound t → Keeps (settle t conn asked up)
settle-keeps t conn (call.CreateIntr host port prog vers family) up s = up-keeps t conn prog vers up _ _ s
settle-keeps t conn _ up s = tt

-- the answer of a call
either : (b : Bool) (x y : Option (Reply × Tables)) → Keeps x → Keeps y → Keeps (cond b x y)
either true x y this that = this
either false x y this that = that

unchanged : (t : Tables) (o : Option Reply) → IsSound t → Keeps (option_map (λ given. (given, t)) o)
unchanged t None s = tt
unchanged t (Some given) s = s

dialed-keeps : (t : Tables) (conn : ℕ) (p : Pending) (o : BusInput) (d : Option Bool) → IsSound t → Keeps (dialed_answer t conn p o d)
dialed-keeps t conn p o None s = tt
dialed-keeps t conn p o (Some up) s = either (not o.failed && not o.level) (settle t conn p.call up) None (settle-keeps t conn p.call up s) tt

by_lines-keeps : (t : Tables) (w : Wire) (conn : ℕ) (p : Pending) (now : ℕ) (o : BusInput) (lines : Admission) → IsSound t
    → (lines ≡ Passed → Keeps (effect t w.own conn (named_link t conn p.call) p.call)) → Keeps (by_lines t w conn p now o lines)
by_lines-keeps t w conn p now o (Refused error) s passed = either _ (Some (_, t)) None s tt
by_lines-keeps t w conn p now o Passed s passed =
    either (asks_dial p.call) _ _ (dialed-keeps t conn p o o.dialed s)
    (either (is_bus_call p.call) _ _ (unchanged t _ s) (either _ _ None (passed refl) tt))
by_lines-keeps t w conn p now o _ s passed = tt

pub decide-keeps : (t : Tables) (w : Wire) (conn : ℕ) (p : Pending) (now : ℕ) (o : BusInput) → IsSound t → Keeps (decide t w conn p now o)
decide-keeps t w conn p now o s =
    by_lines-keeps t w conn p now o (first_lines t w.own conn (settles o) p now) s (λ passed.
    let says = passed-says p now p.aborted _ _ _ passed in
    effect-keeps t w.own conn (settles o) p.call s says.checks says.locks)

-- each entry
kept_at : (found : Option (Reply × Tables)) (x : Reply × Tables) → Keeps found → found ≡ Some x → IsSound x.1
kept_at None x k e = cc
kept_at (Some y) x k e = subst (λ z. IsSound z.1) (same_Some y x e) k

answered-sound : (s t : State) (conn now : ℕ) (o : BusInput) (told : Reply) → IsSound s.tables → option_and_then (if_reply told) (answer s conn now o) ≡ Some t → IsSound t.tables
answered-sound s t conn now o told sound h =
    option_and_then_some (if_reply told) (answer s conn now o) t h (λ result e f.
    option_and_then_some (answer_to s conn now o) (pending_at s.tables conn) result e (λ p here made.
    let found = mapped (answered s conn now o.moves) (decide s.tables s.wire conn p now o) result made in
    let there : (answered s conn now o.moves found.0).1 ≡ t = ap (λ x. x.1) found.2 ∙ (cond_some _ result.1 t f).1 in
    subst (λ u. IsSound u.tables) there (ended-sound found.0.1 conn (kept_at _ found.0 (decide-keeps s.tables s.wire conn p now o sound) found.1))))

abort-sound : (t : Tables) (lid : ℕ) → IsSound t → IsSound (abort_tables t lid)
abort-sound t lid s = at (is_live t.links lid)
  where
    at : (b : Bool) → IsSound (cond b (marked t lid) t)
    at true = marked-sound t lid s
    at false = s

pub atomic-sound : (s t : State) (e : Entry) → IsSound s.tables → atomic_step s e ≡ Some t → IsSound t.tables
atomic-sound s t (Up conn r) sound h =
    let parts = cond_some _ (record s { tables = with_connection s.tables r }) t h in
    subst (λ u. IsSound u.tables) parts.1 (with_connection-sound s.tables r (and_parts _ _ parts.0).1 sound)
atomic-sound s t (Down conn moves) sound h =
    subst (λ u. IsSound u.tables) (cond_some _ (record s { tables = without_connection s.tables conn; wire = wire_after s.wire moves }) t h).1 (without_connection-sound s.tables conn sound)
atomic-sound s t (Arrive conn asked now) sound h =
    let parts = cond_some _ (record s { tables = with_pending s.tables conn (Some (arrived asked now)); moment = now }) t h in
    let idle = (and_parts _ _ (and_parts _ _ parts.0).0).1 in
    let core = (and_parts _ _ idle).0 in
    subst (λ u. IsSound u.tables) parts.1 (with_pending-sound s.tables conn (Some (arrived asked now)) sound (λ some. core))
atomic-sound s t (Answer conn now begun moves failed dialed level told) sound h =
    answered-sound s t conn now (record { begun = begun; moves = moves; failed = failed; dialed = dialed; level = level }) told sound (chosen _ _ t h).1
atomic-sound s t (Abort conn lid told) sound h =
    subst (λ u. IsSound u.tables) (cond_some _ (record s { tables = abort_tables s.tables lid }) t h).1 (abort-sound s.tables lid sound)
atomic-sound s t (Sample now srq) sound h =
    subst (λ u. IsSound u.tables) (cond_some _ (record s { tables = record s.tables { srq_state = sampled s.tables.srq_state srq }; moment = now }) t h).1 (sampled-sound s.tables srq sound)
atomic-sound s t (Take conn chan told) sound h =
    subst (λ u. IsSound u.tables) (cond_some _ (record s { tables = record s.tables { srq_state = taken s.tables.srq_state conn chan } }) t h).1 (taken-sound s.tables conn chan sound)

-- each history
pub along-none : (history : List Entry) (t : State) → along atomic_step None history ≡ Some t → ⊥
along-none [] t h = cc
along-none (e ∷ es) t h = along-none es t h

pub along-sound : (o : Option State) (history : List Entry) (t : State) → IfSome o (λ s. IsSound s.tables) → along atomic_step o history ≡ Some t → IsSound t.tables
along-sound None history t sound h = absurd (along-none history t h)
along-sound (Some s) [] t sound h = subst (λ u. IsSound u.tables) (same_Some s t h) sound
along-sound (Some s) (e ∷ es) t sound h = along-sound (atomic_step s e) es t (next (atomic_step s e) (λ u. atomic-sound s u e sound)) h
  where
    next : (o : Option State) → ((u : State) → o ≡ Some u → IsSound u.tables) → IfSome o (λ u. IsSound u.tables)
    next None f = tt
    next (Some u) f = f u refl

pub legal-sound : (abort_port : ℕ) (history : List Entry) (s : State) → legal_state abort_port history ≡ Some s → IsSound s.tables
legal-sound abort_port history s h = along-sound (Some (first abort_port)) history s (first-sound abort_port) h
