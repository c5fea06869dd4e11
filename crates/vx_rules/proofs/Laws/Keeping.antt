-- What holds of the tables stays at each change of them.
use Rattle.std.proofs.Common.{◌≡◌, ◌≢◌, ◌<◌, ◌≤◌, ℕ, Bool, true, false, cond, not, ◌||◌, ◌&&◌, ◌==◌, List, [], ◌∷◌, map, Option, Some, None, is_some, refl, sym, ap, subst, ◌∙◌, arith, lit≤}
use Rattle.std.specs.Prelude.{nat_lt}
use Rattle.std.specs.List.{filter, list_any, All}
use Rattle.std.proofs.lemmas.Bool.{eq-eqb, false≢true, and_parts, and_left, or_left, or_right, eqb-true, false_from_ne_true, not_from_false}
use Rattle.std.proofs.lemmas.Bool.Decides.{Decides-eqb}
use Rattle.std.proofs.lemmas.List.Elements.{All-cons, All-head, All-tail, All-push, All-weaker, All-map, All-filter}
use Rattle.std.proofs.lemmas.List.Folds.{list_any-append}
use Rattle.std.proofs.lemmas.List.Filters.{length-filter_both}
use Rattle.std.proofs.lemmas.List.Kept.{AllPairs-filter}
use Rattle.std.specs.Option.{option_map}
use Rattle.vx_calls.specs.declared.calls.Role.{Role}
use Rattle.vx_calls.specs.declared.calls.Role.TheVariants as role
use Rattle.vx_calls.specs.declared.targets.Target.{Target}
use Rattle.vx_calls.specs.declared.limits.TheConstants.{ROLE_MAX}
use Rattle.vx_rules.specs.Table.{Link, Table, IsNumbered, is_full, is_live}
use Rattle.vx_rules.proofs.Laws.Numbers.{Rises, numbered-with_link}
use Rattle.vx_rules.specs.Locks.{holds, is_blocked, with_lock, without_lock}
use Rattle.vx_rules.proofs.Laws.Apart.{Apart, apart-with_lock, apart-without_lock}
use Rattle.vx_rules.specs.SrqState.{SrqState, ChannelSlot, Channel, Enable, LinksRise, with_channel, with_new_channel, with_enable, enable_put, sampled, taken, slot_with, slot_taken, risen_slot}
use Rattle.vx_rules.proofs.Laws.Slots.{slot_with-stays, slot_taken-stays}
use Rattle.vx_rules.proofs.Laws.Rising.{Precedes, rise_put}
use Rattle.vx_rules.specs.State.{Pending, Connection, Tables, first_tables, same_role, with_pending, with_connection, without_connection, with_link, without_link, is_lock_of, connection_at, has_role_of, lives_as, has_room}
use Rattle.vx_rules.specs.AtomicStep.{marked, mark_on}
use Rattle.vx_rules.specs.Sound.{IsSound, IsHeld, IsOwned, IsAdded, IsAsked, has_slot}
use Rattle.vx_lemmas.proofs.Laws.Lists.{any_kept, found_holds, All-kept}
use Rattle.vx_rules.proofs.Laws.Lists.{All-update}
use Rattle.vx_rules.proofs.Laws.Counting.{count-called, count-marks, count-down, count-up}
use Rattle.vx_rules.proofs.Laws.Arriving.{mapped_some, once-with, waiting-with, waiting-up, waiting-gone, waiting-marked}

-- a gateway as it starts
pub first-sound : (abort_port : ℕ) → IsSound (first_tables abort_port)
first-sound abort_port = record {
  numbered = record {
    rising = λ i j d before h. absurd (omega arith);
    given = λ k d h. absurd (omega arith);
    few = omega arith;
    first = omega arith;
    last = lit≤ tt;
  };
  apart = λ i j d before h. absurd (omega arith);
  held = λ k d h. absurd (omega arith);
  owned = λ k d h. absurd (omega arith);
  in_order = λ i j d before h. absurd (omega arith);
  added = λ k d h. absurd (omega arith);
  asked = λ k d h. absurd (omega arith);
  few = omega arith;
  once = λ i j d before h. absurd (omega arith);
  waiting = λ conn. refl;
}

-- links that a filter leaves stay in order
numbered-filter : (t : Table) (p : Link → Bool) → IsNumbered t → IsNumbered (record t { links = filter p t.links })
numbered-filter t p n = record {
  rising = AllPairs-filter Rises p t.links n.rising;
  given = All-filter p (λ l. (0 < l.number) × (l.number < t.next)) t.links n.given;
  few = omega (arith, n.few, length-filter_both (λ l. not (p l)) p (λ l. twice (p l)) t.links);
  first = n.first;
  last = n.last;
}
  where
    twice : (b : Bool) → b ≡ not (not b)
    twice true = refl
    twice false = refl

-- one link more
pub with_link-sound : (t : Tables) (conn : ℕ) (named : Target) → IsSound t → is_full t.links ≡ false → IsSound (with_link t conn named)
with_link-sound t conn named s room = record {
  numbered = numbered-with_link t.links conn named s.numbered room;
  apart = s.apart;
  held = All-weaker (IsHeld t) (IsHeld (with_link t conn named)) (λ k h. list_any-append (λ l. l.number == k.link) t.links.links _ ∙ or_left _ _ h) t.locks s.held;
  owned = All-weaker (IsOwned t) (IsOwned (with_link t conn named))
      (λ e h. list_any-append (λ l. (l.number == e.link) && (l.connection == e.connection)) t.links.links _ ∙ or_left _ _ h) t.srq_state.enables s.owned;
  in_order = s.in_order;
  added = s.added;
  asked = s.asked;
  few = s.few;
  once = s.once;
  waiting = s.waiting;
}

-- a link that lives takes a lock
pub with_lock-sound : (t : Tables) (lid : ℕ) (named : Target) → IsSound t → is_live t.links lid ≡ true → holds t.locks lid ≡ false
    → is_blocked t.locks lid named ≡ false → IsSound (record t { locks = with_lock t.locks lid named })
with_lock-sound t lid named s live none free = record {
  numbered = s.numbered;
  apart = apart-with_lock t.locks lid named s.apart none free;
  held = All-push (IsHeld t) t.locks (record { link = lid; target = named }) s.held live;
  owned = s.owned;
  in_order = s.in_order;
  added = s.added;
  asked = s.asked;
  few = s.few;
  once = s.once;
  waiting = s.waiting;
}

-- a link's lock goes
pub without_lock-sound : (t : Tables) (lid : ℕ) → IsSound t → IsSound (record t { locks = without_lock t.locks lid })
without_lock-sound t lid s = record {
  numbered = s.numbered;
  apart = apart-without_lock t.locks lid s.apart;
  held = All-filter (λ k. not (k.link == lid)) (IsHeld t) t.locks s.held;
  owned = s.owned;
  in_order = s.in_order;
  added = s.added;
  asked = s.asked;
  few = s.few;
  once = s.once;
  waiting = s.waiting;
}

-- a number that passes one test fails the other where the two numbers differ
not_both : (n lid m conn k : ℕ) → not (k == lid) ≡ true → (n == k) ≡ true → not ((n == lid) && (m == conn)) ≡ true
not_both n lid m conn k other same =
    not_from_false _ (and_left _ _ (false_from_ne_true (n == lid) (λ e. false≢true (sym (ap not (eq-eqb k lid (sym (eqb-true n k same) ∙ eqb-true n lid e))) ∙ other))))

not_both-owned : (n lid m conn k o : ℕ) → not (k == lid) ≡ true → ((n == k) && (m == o)) ≡ true → not ((n == lid) && (m == conn)) ≡ true
not_both-owned n lid m conn k o other same = not_both n lid m conn k other (and_parts _ _ same).0

-- a link goes
pub without_link-sound : (t : Tables) (conn lid : ℕ) → IsSound t → IsSound (without_link t conn lid)
without_link-sound t conn lid s = record {
  numbered = numbered-filter t.links (λ l. not ((l.number == lid) && (l.connection == conn))) s.numbered;
  apart = apart-without_lock t.locks lid s.apart;
  held = All-kept (IsHeld t) (IsHeld (without_link t conn lid)) (λ k. not (k.link == lid)) t.locks
      (λ k other live. any_kept (λ l. l.number == k.link) (λ l. not ((l.number == lid) && (l.connection == conn))) t.links.links
      (λ l same. not_both l.number lid l.connection conn k.link other same) live) s.held;
  owned = All-kept (IsOwned t) (IsOwned (without_link t conn lid)) (λ e. not (e.link == lid)) t.srq_state.enables
      (λ e other live. any_kept (λ l. (l.number == e.link) && (l.connection == e.connection)) (λ l. not ((l.number == lid) && (l.connection == conn))) t.links.links
      (λ l same. not_both-owned l.number lid l.connection conn e.link e.connection other same) live) s.owned;
  in_order = AllPairs-filter Precedes (λ e. not (e.link == lid)) t.srq_state.enables s.in_order;
  added = s.added;
  asked = s.asked;
  few = s.few;
  once = s.once;
  waiting = s.waiting;
}

-- a link that lives and isn't the connection's still lives where the connection's links are gone
others_live : (xs : List Link) (n conn : ℕ) → not (list_any (λ l. (l.number == n) && (l.connection == conn)) xs) ≡ true → list_any (λ l. l.number == n) xs ≡ true
    → list_any (λ l. l.number == n) (filter (λ l. not (l.connection == conn)) xs) ≡ true
others_live [] n conn none live = live
others_live (x ∷ xs) n conn none live = at (x.number == n) refl (x.connection == conn) none live (λ a b. others_live xs n conn a b)
  where
    at : (b : Bool) → (x.number == n) ≡ b → (c : Bool) → not ((b && c) || list_any (λ l. (l.number == n) && (l.connection == conn)) xs) ≡ true → (b || list_any (λ l. l.number == n) xs) ≡ true
        → (not (list_any (λ l. (l.number == n) && (l.connection == conn)) xs) ≡ true → list_any (λ l. l.number == n) xs ≡ true
        → list_any (λ l. l.number == n) (filter (λ l. not (l.connection == conn)) xs) ≡ true)
        → list_any (λ l. l.number == n) (cond (not c) (x ∷ filter (λ l. not (l.connection == conn)) xs) (filter (λ l. not (l.connection == conn)) xs)) ≡ true
    at true is true none live rest = absurd (false≢true none)
    at true is false none live rest = or_left _ _ is
    at false is true none live rest = rest none live
    at false is false none live rest = or_right (x.number == n) _ (rest none live)

other_owner : (m conn o : ℕ) → not (o == conn) ≡ true → (m == o) ≡ true → not (m == conn) ≡ true
other_owner m conn o other same = subst (λ k. not (k == conn) ≡ true) (sym (eqb-true m o same)) other

-- a connection goes
pub without_connection-sound : (t : Tables) (conn : ℕ) → IsSound t → IsSound (without_connection t conn)
without_connection-sound t conn s = record {
  numbered = numbered-filter t.links (λ l. not (l.connection == conn)) s.numbered;
  apart = AllPairs-filter Apart (λ k. not (is_lock_of t.links.links conn k)) t.locks s.apart;
  held = All-kept (IsHeld t) (IsHeld (without_connection t conn)) (λ k. not (is_lock_of t.links.links conn k)) t.locks
      (λ k other live. others_live t.links.links k.link conn other live) s.held;
  owned = All-kept (IsOwned t) (IsOwned (without_connection t conn)) (λ e. not (e.connection == conn)) t.srq_state.enables
      (λ e other live. any_kept (λ l. (l.number == e.link) && (l.connection == e.connection)) (λ l. not (l.connection == conn)) t.links.links
      (λ l same. other_owner l.connection conn e.connection other (and_parts _ _ same).1) live) s.owned;
  in_order = AllPairs-filter Precedes (λ e. not (e.connection == conn)) t.srq_state.enables s.in_order;
  added = All-kept (IsAdded t) (IsAdded (without_connection t conn)) (λ c. not (c.number == conn)) t.connections
      (λ c other was core. any_kept (λ p. p.connection == c.number) (λ p. not (p.connection == conn)) t.srq_state.slots
      (λ p same. other_owner p.connection conn c.number other same) (was core)) s.added;
  asked = All-filter (λ c. not (c.number == conn)) IsAsked t.connections s.asked;
  few = omega (arith, s.few, count-down t conn);
  once = AllPairs-filter (λ a b. a ≢ b) (λ n. not (n == conn)) t.arrivals s.once;
  waiting = waiting-gone t conn s.waiting;
}

-- a state of service requests with the same enables and connections
pub same_srq_state-sound : (t : Tables) (d : SrqState) → IsSound t → d.enables ≡ t.srq_state.enables → ((n : ℕ) → has_slot d n ≡ has_slot t.srq_state n) → IsSound (record t { srq_state = d })
same_srq_state-sound t d s enables slots = record {
  numbered = s.numbered;
  apart = s.apart;
  held = s.held;
  owned = subst (All (IsOwned t)) (sym enables) s.owned;
  in_order = subst LinksRise (sym enables) s.in_order;
  added = All-weaker (IsAdded t) (IsAdded (record t { srq_state = d })) (λ c was core. slots c.number ∙ was core) t.connections s.added;
  asked = s.asked;
  few = s.few;
  once = s.once;
  waiting = s.waiting;
}

-- slots that are changed stay their connections'
ports_stay : (f : ChannelSlot → ChannelSlot) → ((p : ChannelSlot) → (f p).connection ≡ p.connection) → (ps : List ChannelSlot) (n : ℕ) → list_any (λ p. p.connection == n) (map f ps) ≡ list_any (λ p. p.connection == n) ps
ports_stay f same [] n = refl
ports_stay f same (p ∷ ps) n = ap (λ m. (m == n) || list_any (λ q. q.connection == n) (map f ps)) (same p) ∙ ap (λ b. (p.connection == n) || b) (ports_stay f same ps n)

pub with_channel-sound : (t : Tables) (conn : ℕ) (channel : Option Channel) → IsSound t → IsSound (record t { srq_state = with_channel t.srq_state conn channel })
with_channel-sound t conn channel s = same_srq_state-sound t (with_channel t.srq_state conn channel) s refl (ports_stay (slot_with conn channel) (slot_with-stays conn channel) t.srq_state.slots)

pub with_new_channel-sound : (t : Tables) (conn program version : ℕ) → IsSound t → IsSound (record t { srq_state = with_new_channel t.srq_state conn program version })
with_new_channel-sound t conn program version s =
    same_srq_state-sound t (with_new_channel t.srq_state conn program version) s refl (ports_stay (slot_with conn _) (slot_with-stays conn _) t.srq_state.slots)

pub taken-sound : (t : Tables) (conn number : ℕ) → IsSound t → IsSound (record t { srq_state = taken t.srq_state conn number })
taken-sound t conn number s = same_srq_state-sound t (taken t.srq_state conn number) s refl (ports_stay (slot_taken conn number) (slot_taken-stays conn number) t.srq_state.slots)

pub sampled-sound : (t : Tables) (level : Bool) → IsSound t → IsSound (record t { srq_state = sampled t.srq_state level })
sampled-sound t level s = at (level && not t.srq_state.level)
  where
    at : (b : Bool) → IsSound (record t { srq_state = cond b (record t.srq_state { slots = map (risen_slot t.srq_state.enables) t.srq_state.slots; level = level }) (record t.srq_state { level = level }) })
    at true = same_srq_state-sound t (record t.srq_state { slots = map (risen_slot t.srq_state.enables) t.srq_state.slots; level = level }) s refl (ports_stay (risen_slot t.srq_state.enables) (λ p. refl) t.srq_state.slots)
    at false = same_srq_state-sound t (record t.srq_state { level = level }) s refl (λ n. refl)

-- an enable comes to its place
All-enable_put : (P : Enable → Type 0) (e : Enable) (es : List Enable) → P e → All P es → All P (enable_put e es)
All-enable_put P e [] here all = All-cons P e [] here all
All-enable_put P e (f ∷ fs) here all = at (nat_lt e.link f.link) (e.link == f.link) (All-enable_put P e fs here (All-tail P f fs all))
  where
    at : (below same : Bool) → All P (enable_put e fs) → All P (cond below (e ∷ f ∷ fs) (cond same (e ∷ fs) (f ∷ enable_put e fs)))
    at true same rest = All-cons P e (f ∷ fs) here all
    at false true rest = All-cons P e fs here (All-tail P f fs all)
    at false false rest = All-cons P f (enable_put e fs) (All-head P f fs all) rest

pub with_enable-sound : (t : Tables) (e : Enable) → IsSound t → IsOwned t e → IsSound (record t { srq_state = with_enable t.srq_state e })
with_enable-sound t e s owned = record {
  numbered = s.numbered;
  apart = s.apart;
  held = s.held;
  owned = All-enable_put (IsOwned t) e t.srq_state.enables owned s.owned;
  in_order = rise_put e t.srq_state.enables s.in_order;
  added = s.added;
  asked = s.asked;
  few = s.few;
  once = s.once;
  waiting = s.waiting;
}

-- a connection more
pub with_connection-sound : (t : Tables) (r : Role) → has_room t r ≡ true → IsSound t → IsSound (with_connection t r)
with_connection-sound t role.Core room s =
    let new : Connection = record { number = t.next_connection; role = role.Core; pending = None } in
    record {
      numbered = s.numbered;
      apart = s.apart;
      held = s.held;
      owned = s.owned;
      in_order = s.in_order;
      added = All-push (IsAdded (with_connection t role.Core)) t.connections new
          (All-weaker (IsAdded t) (IsAdded (with_connection t role.Core)) (λ c was core. list_any-append (λ p. p.connection == c.number) t.srq_state.slots _ ∙ or_left _ _ (was core)) t.connections s.added)
          (λ core. list_any-append (λ p. p.connection == t.next_connection) t.srq_state.slots _ ∙ or_right (list_any (λ p. p.connection == t.next_connection) t.srq_state.slots) _ (or_left _ _ ((Decides-eqb t.next_connection t.next_connection).1 refl)));
      asked = All-push IsAsked t.connections new s.asked (λ h. absurd (false≢true h));
      few = count-up t role.Core room s.few;
      once = s.once;
      waiting = waiting-up t role.Core s.waiting;
    }
with_connection-sound t role.Abort room s =
    let new : Connection = record { number = t.next_connection; role = role.Abort; pending = None } in
    record {
      numbered = s.numbered;
      apart = s.apart;
      held = s.held;
      owned = s.owned;
      in_order = s.in_order;
      added = All-push (IsAdded t) t.connections new s.added (λ core. absurd (false≢true core));
      asked = All-push IsAsked t.connections new s.asked (λ h. absurd (false≢true h));
      few = count-up t role.Abort room s.few;
      once = s.once;
      waiting = waiting-up t role.Abort s.waiting;
    }

-- a connection that lives in a role is of this role
pub core-is : (o : Option Connection) (c : Connection) → has_role_of role.Core o ≡ true → o ≡ Some c → same_role c.role role.Core ≡ true
core-is None c h e = cc
core-is (Some k) c h e = let same : k ≡ c = cc in subst (λ x. same_role x.role role.Core ≡ true) same h

core-role : (o : Option Connection) → has_role_of role.Core o ≡ true → option_map (λ (c : Connection). c.role) o ≡ Some role.Core
core-role None h = absurd (false≢true h)
core-role (Some c) h = by c.role h where
  by : (r : Role) → same_role r role.Core ≡ true → ◌≡◌ {A = Option Role} (Some r) (Some role.Core)
  by role.Core h = refl
  by role.Abort h = absurd (false≢true h)

-- a call of a core connection comes, or a call goes
pub with_pending-sound : (t : Tables) (conn : ℕ) (p : Option Pending) → IsSound t
    → (is_some p ≡ true → lives_as t conn role.Core ≡ true) → IsSound (with_pending t conn p)
with_pending-sound t conn p s core = record {
  numbered = s.numbered;
  apart = s.apart;
  held = s.held;
  owned = s.owned;
  in_order = s.in_order;
  added = All-update (IsAdded t) (λ c. c.number == conn) (λ c. record c { pending = p }) t.connections (λ c found. found_holds (IsAdded t) (λ k. k.number == conn) t.connections c s.added found) s.added;
  asked = All-update IsAsked (λ c. c.number == conn) (λ c. record c { pending = p }) t.connections (λ c found some. core-is (connection_at t conn) c (core some) found) s.asked;
  few = subst (λ n. n ≤ ROLE_MAX) (sym (count-called t conn p)) s.few;
  once = once-with t.arrivals conn p s.once;
  waiting = waiting-with t conn p role.Core (λ some. core-role (connection_at t conn) (core some)) s.waiting;
}

pub ended-sound : (t : Tables) (conn : ℕ) → IsSound t → IsSound (with_pending t conn None)
ended-sound t conn s = with_pending-sound t conn None s (λ none. absurd (false≢true none))

-- calls are marked
pub marked-sound : (t : Tables) (lid : ℕ) → IsSound t → IsSound (marked t lid)
marked-sound t lid s = record {
  numbered = s.numbered;
  apart = s.apart;
  held = s.held;
  owned = s.owned;
  in_order = s.in_order;
  added = All-map (IsAdded t) (mark_on lid) t.connections (λ k d h. s.added k d h);
  asked = All-map IsAsked (mark_on lid) t.connections (λ k d h some. s.asked k d h (sym (mapped_some _ _) ∙ some));
  few = subst (λ n. n ≤ ROLE_MAX) (sym (count-marks t lid)) s.few;
  once = s.once;
  waiting = waiting-marked t lid s.waiting;
}
