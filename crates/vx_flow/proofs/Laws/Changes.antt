-- What the answer of another connection's call leaves of a turn's call.
use Rattle.std.proofs.Common.{◌≡◌, ◌≢◌, ◌≤◌, ◌==◌, ℕ, Bool, true, false, cond, ◌⊎◌, inl, inr, List, [], ◌∷◌, Option, Some, None, Result, Ok, Err, refl, sym, ap, ◌∙◌, subst, arith}
use Rattle.std.specs.Prelude.{not, ◌&&◌}
use Rattle.std.specs.Option.{option_map}
use Rattle.std.proofs.lemmas.Bool.{cases_eq, or_left, eqb-true, ne_eqb}
use Rattle.std.proofs.lemmas.Option.{none-some, same_Some}
use Rattle.vx_calls.specs.declared.codes.ErrorCode.{ErrorCode}
use Rattle.vx_calls.specs.declared.targets.Target.{Target}
use Rattle.vx_calls.specs.Target.{conflict, target}
use Rattle.vx_calls.specs.Call.{Call}
use Rattle.vx_calls.specs.Call as call
use Rattle.vx_calls.specs.Reply.{Reply}
use Rattle.vx_488.specs.declared.wire.Wire.{Wire}
use Rattle.vx_rules.specs.Table.{Link}
use Rattle.vx_rules.specs.Locks.{Lock, holds, holder_of, with_lock}
use Rattle.vx_rules.specs.Calls.{is_bus_call, is_lock_call, asks_dial}
use Rattle.vx_rules.specs.State.{Pending, Tables, pending_at, link_of, with_pending, without_arrival}
use Rattle.vx_rules.specs.Checks.{NamedLink, NoLink, DeadLink, OnLink, named_link}
use Rattle.vx_rules.specs.Lines.{Admission, Passed, named_request, lock_request, first_lines_in}
use Rattle.vx_rules.specs.Effects.{task_of, create, locked, effect_on, effect, settle}
use Rattle.vx_rules.specs.Decide.{BusInput, is_quiet, bus_answer, dialed_answer, settles, decide_in}
use Rattle.vx_rules.proofs.Laws.{pending-same}
use Rattle.vx_rules.proofs.Laws.Ordered.{SameCalls, FoundSame, effect-same, settle-same}
use Rattle.vx_flow.specs.InterleavedStep.{on_conflict}
use Rattle.vx_flow.specs.Sound.{request_on, HaveCome}
use Rattle.vx_flow.proofs.Laws.Ahead.{ahead-stays, left-shrinks, held-kept}
use Rattle.std.proofs.lemmas.List.Folds.{list_any-append}
use Rattle.vx_rules.proofs.Laws.Rows.{pending-other, pending-here, link-made, link-made_other, link-left}
use Rattle.vx_flow.proofs.Laws.Kept.{Stays}
use Rattle.vx_flow.proofs.Laws.ByLines.{Gives, ByRefusal, ByPassing, gives}
use Rattle.vx_flow.proofs.Laws.Ending.{holder-filter, holder-with}

-- What a change by a connection's call leaves of the calls and the links of the others, and of the locks of one of these links and
-- against it.
pub record Leaves (t u : Tables) (conn other : ℕ) (l : Link) : Type 0 where
  pub connections : u.connections ≡ t.connections
  pub arrivals : u.arrivals ≡ t.arrivals
  pub others : (n lid : ℕ) → conn ≢ n → link_of u n lid ≡ link_of t n lid
  pub held : holds t.locks l.number ≡ true → holds u.locks l.number ≡ true
  pub links : (lid : ℕ) → link_of t other lid ≡ Some l → link_of u other lid ≡ Some l
  pub locks : holder_of t.locks l.number l.target ≡ None → holder_of u.locks l.number l.target ≡ None

leaves-all : (t : Tables) (conn other : ℕ) (l : Link) → Leaves t t conn other l
leaves-all t conn other l = record { connections = refl; arrivals = refl; others = λ n lid ne. refl; held = λ h. h; links = λ lid h. h; locks = λ h. h }

-- a link that holds a lock does so where one more is granted
held-with : (locks : List Lock) (lid n : ℕ) (target : Target) → holds locks lid ≡ true → holds (with_lock locks n target) lid ≡ true
held-with locks lid n target h =
    list_any-append (λ k. k.link == lid) locks (record { link = n; target = target } ∷ []) ∙ or_left (holds locks lid) _ h

-- what an answer found leaves
abbrev FoundLeaves : Tables → ℕ → ℕ → Link → Option (Reply × Tables) → Type 0
FoundLeaves t conn other l None = Unit {0}
FoundLeaves t conn other l (Some d) = Leaves t d.1 conn other l

-- ---- effects

-- a lock that is taken beside a link isn't on a target that conflicts with the link's
create-leaves : (t : Tables) (conn other : ℕ) (l : Link) (lock : Bool) (named : Result Target ErrorCode) (d : Reply × Tables)
    → (lock && on_conflict (named_request named) (Some l.target)) ≡ false → create t conn lock named ≡ Some d → Leaves t d.1 conn other l
create-leaves t conn other l lock (Err error) d apart h = cc
create-leaves t conn other l true (Ok named) d apart h =
    subst (FoundLeaves t conn other l) h (record {
      connections = refl;
      arrivals = refl;
      others = λ n lid ne. link-made_other t conn named n lid ne;
      held = λ e. held-with t.locks l.number t.links.next named e;
      links = λ lid e. link-made t conn named other lid l e;
      locks = λ e. holder-with t.locks t.links.next l.number named l.target apart e;
    })
create-leaves t conn other l false (Ok named) d apart h =
    subst (FoundLeaves t conn other l) h (record {
      connections = refl;
      arrivals = refl;
      others = λ n lid ne. link-made_other t conn named n lid ne;
      held = λ e. e;
      links = λ lid e. link-made t conn named other lid l e;
      locks = λ e. e;
    })

locked-leaves : (t : Tables) (k : Link) (conn other : ℕ) (l : Link) → conflict k.target l.target ≡ false → Leaves t (locked t k) conn other l
locked-leaves t k conn other l apart = by (holds t.locks k.number) where
  by : (b : Bool) → Leaves t (cond b t (record t { locks = with_lock t.locks k.number k.target })) conn other l
  by true = leaves-all t conn other l
  by false = record { connections = refl; arrivals = refl; others = λ n lid ne. refl; held = λ h. held-with t.locks l.number k.number k.target h; links = λ lid h. h; locks = λ h. holder-with t.locks k.number l.number k.target l.target apart h }

-- the lock of a link isn't one of another number
lock-apart : (n m : ℕ) → n ≢ m → (k : Lock) → (k.link == m) ≡ true → not (k.link == n) ≡ true
lock-apart n m ne k e = ap not (ne_eqb k.link n (λ same. ne (sym same ∙ eqb-true k.link m e)))

effect_on-leaves : (t : Tables) (own conn other : ℕ) (l k : Link) (asked : Call) → conn ≢ other → k.number ≢ l.number
    → (is_lock_call asked && on_conflict (lock_request own (OnLink k) asked) (Some l.target)) ≡ false → FoundLeaves t conn other l (effect_on t conn k asked)
effect_on-leaves t own conn other l k (call.Lock lid flags lock_timeout) ne two apart = locked-leaves t k conn other l apart
effect_on-leaves t own conn other l k (call.Unlock lid) ne two apart =
    record { connections = refl; arrivals = refl; others = λ n m f. refl; held = λ h. held-kept t.locks (λ j. not (j.link == k.number)) l.number (lock-apart k.number l.number two) h; links = λ n h. h; locks = λ h. holder-filter (λ j. not (j.link == k.number)) t.locks l.number l.target h }
effect_on-leaves t own conn other l k (call.EnableSrq lid enable handle) ne two apart = record { connections = refl; arrivals = refl; others = λ n m f. refl; held = λ h. h; links = λ n h. h; locks = λ h. h }
effect_on-leaves t own conn other l k (call.DestroyLink lid) ne two apart = record {
  connections = refl;
  arrivals = refl;
  others = λ n m f. link-left t conn k.number n m f;
  held = λ h. held-kept t.locks (λ j. not (j.link == k.number)) l.number (lock-apart k.number l.number two) h;
  links = λ n h. link-left t conn k.number other n ne ∙ h;
  locks = λ h. holder-filter (λ j. not (j.link == k.number)) t.locks l.number l.target h;
}
effect_on-leaves t own conn other l k _ ne two apart = tt

found-leaves : (t : Tables) (conn other : ℕ) (l : Link) (o : Option (Reply × Tables)) (d : Reply × Tables) → o ≡ Some d → FoundLeaves t conn other l o → Leaves t d.1 conn other l
found-leaves t conn other l o d h leaves = subst (FoundLeaves t conn other l) h leaves

-- so does the effect of every call of another connection
pub effect-leaves : (t : Tables) (own conn other : ℕ) (l : Link) (about : NamedLink) (asked : Call) (d : Reply × Tables) → conn ≢ other
    → ((k : Link) → about ≡ OnLink k → k.number ≢ l.number)
    → (is_lock_call asked && on_conflict (lock_request own about asked) (Some l.target)) ≡ false → effect t own conn about asked ≡ Some d → Leaves t d.1 conn other l
effect-leaves t own conn other l (OnLink k) asked d ne two apart h =
    found-leaves t conn other l (effect_on t conn k asked) d h (effect_on-leaves t own conn other l k asked ne (two k refl) apart)
effect-leaves t own conn other l NoLink (call.CreateLink client true lock_timeout device) d ne two apart h =
    create-leaves t conn other l true (target device own) d apart h
effect-leaves t own conn other l NoLink (call.CreateLink client false lock_timeout device) d ne two apart h =
    create-leaves t conn other l false (target device own) d apart h
effect-leaves t own conn other l NoLink call.DestroyIntr d ne two apart h =
    found-leaves t conn other l (effect t own conn NoLink call.DestroyIntr) d h
    (record { connections = refl; arrivals = refl; others = λ n lid f. refl; held = λ e. e; links = λ n e. e; locks = λ e. e })
effect-leaves t own conn other l NoLink asked d ne two apart h = cc
effect-leaves t own conn other l DeadLink asked d ne two apart h = cc

-- ---- dials

settle-leaves : (t : Tables) (conn other : ℕ) (l : Link) (asked : Call) (up : Bool) → FoundLeaves t conn other l (settle t conn asked up)
settle-leaves t conn other l (call.CreateIntr host port prog vers family) true =
    record { connections = refl; arrivals = refl; others = λ n lid f. refl; held = λ h. h; links = λ n h. h; locks = λ h. h }
settle-leaves t conn other l (call.CreateIntr host port prog vers family) false = leaves-all t conn other l
settle-leaves t conn other l _ up = tt

-- ---- what an answer changes

-- A decided answer changes nothing, or it is that of a settled dial, or the effect of a call that passed the
-- first lines and needs no bus.
pub data Found (t : Tables) (w : Wire) (conn : ℕ) (p : Pending) (l : Admission) (d : Reply × Tables) : Type 0 where
  Same : d.1 ≡ t → Found t w conn p l d
  Settled : (up : Bool) → settle t conn p.call up ≡ Some d → Found t w conn p l d
  Effected : l ≡ Passed → is_bus_call p.call ≡ false → effect t w.own conn (named_link t conn p.call) p.call ≡ Some d → Found t w conn p l d

-- the walk down the lines, from the last ones up
settled-found : (t : Tables) (w : Wire) (conn : ℕ) (p : Pending) (l : Admission) (d : Reply × Tables) (interleaved : Bool) (up : Bool) → cond interleaved (settle t conn p.call up) None ≡ Some d
    → Found t w conn p l d
settled-found t w conn p l d true up h = Settled up h
settled-found t w conn p l d false up h = cc

dialed-found : (t : Tables) (w : Wire) (conn : ℕ) (p : Pending) (l : Admission) (o : BusInput) (d : Reply × Tables) (up : Option Bool) → dialed_answer t conn p o up ≡ Some d
    → Found t w conn p l d
dialed-found t w conn p l o d None h = cc
dialed-found t w conn p l o d (Some up) h = settled-found t w conn p l d (not o.failed && not o.level) up h

bus-found : (t : Tables) (w : Wire) (conn : ℕ) (p : Pending) (l : Admission) (d : Reply × Tables) (r : Option Reply) → option_map (λ given. (given, t)) r ≡ Some d → Found t w conn p l d
bus-found t w conn p l d None h = cc
bus-found t w conn p l d (Some r) h = Same (ap (λ x. x.1) (sym (same_Some (r, t) d h)))

passed-found : (t : Tables) (w : Wire) (conn : ℕ) (p : Pending) (l : Admission) (d : Reply × Tables) (asks bus quiet : Bool) (x : Option (Reply × Tables)) (r : Option Reply)
    → l ≡ Passed → is_bus_call p.call ≡ bus → (x ≡ Some d → Found t w conn p l d)
    → cond asks x (cond bus (option_map (λ given. (given, t)) r) (cond quiet (effect t w.own conn (named_link t conn p.call) p.call) None)) ≡ Some d
    → Found t w conn p l d
passed-found t w conn p l d true bus quiet x r passed is dial h = dial h
passed-found t w conn p l d false true quiet x r passed is dial h = bus-found t w conn p l d r h
passed-found t w conn p l d false false true x r passed is dial h = Effected passed is h
passed-found t w conn p l d false false false x r passed is dial h = cc

lines-found : (t : Tables) (w : Wire) (conn : ℕ) (p : Pending) (now : ℕ) (o : BusInput) (d : Reply × Tables) (l : Admission) → Gives t w conn p now o d l → Found t w conn p l d
lines-found t w conn p now o d l (ByRefusal error refused quiet told) = Same (ap (λ x. x.1) (sym told))
lines-found t w conn p now o d l (ByPassing passed answers) =
    passed-found t w conn p l d (asks_dial p.call) (is_bus_call p.call) (is_quiet o) (dialed_answer t conn p o o.dialed)
    (bus_answer w p now o (task_of (named_link t conn p.call) p.call)) passed refl (dialed-found t w conn p l o d o.dialed) answers

pub decide-found : (t : Tables) (busy : Option ℕ) (w : Wire) (conn : ℕ) (p : Pending) (now : ℕ) (o : BusInput) (d : Reply × Tables) → decide_in t busy w conn p now o ≡ Some d
    → Found t w conn p (first_lines_in t busy w.own conn (settles o) p now) d
decide-found t busy w conn p now o d h =
    let lines = first_lines_in t busy w.own conn (settles o) p now in
    lines-found t w conn p now o d lines (gives t w conn p now o d lines h)

-- it leaves the connections, and the links and locks that another connection's turn rests on
pub found-connections : (t : Tables) (w : Wire) (conn : ℕ) (p : Pending) (l : Admission) (d : Reply × Tables) → Found t w conn p l d → d.1.connections ≡ t.connections
found-connections t w conn p l d (Same e) = ap (λ u. u.connections) e
found-connections t w conn p l d (Settled up h) =
    let same : SameCalls t d.1 = subst (FoundSame t) h (settle-same t conn p.call up) in
    same.connections
found-connections t w conn p l d (Effected passed bus h) =
    let same : SameCalls t d.1 = subst (FoundSame t) h (effect-same t w.own conn (named_link t conn p.call) p.call) in
    same.connections

pub found-apart : (t : Tables) (w : Wire) (conn other : ℕ) (p : Pending) (lines : Admission) (l : Link) (d : Reply × Tables) → conn ≢ other
    → ((k : Link) → named_link t conn p.call ≡ OnLink k → k.number ≢ l.number)
    → (lines ≡ Passed → (is_lock_call p.call && on_conflict (lock_request w.own (named_link t conn p.call) p.call) (Some l.target)) ≡ false)
    → Found t w conn p lines d → Leaves t d.1 conn other l
found-apart t w conn other p lines l d ne two apart (Same e) = subst (λ u. Leaves t u conn other l) (sym e) (leaves-all t conn other l)
found-apart t w conn other p lines l d ne two apart (Settled up h) = found-leaves t conn other l (settle t conn p.call up) d h (settle-leaves t conn other l p.call up)
found-apart t w conn other p lines l d ne two apart (Effected passed bus h) =
    effect-leaves t w.own conn other l (named_link t conn p.call) p.call d ne two (apart passed) h

-- ---- the call is over

-- the calls of others stay as they were
pub over-stays : (t u : Tables) (conn other : ℕ) (l : Link) (p : Pending) → conn ≢ other → pending_at t other ≡ Some p → Leaves t u conn other l
    → Stays t (with_pending u conn None) other l p
over-stays t u conn other l p ne at leaves = record {
  aborted = p.aborted;
  call_at = pending-other u conn other None ne ∙ pending-same t u other leaves.connections ∙ at;
  links = leaves.links;
  locks = leaves.locks;
  ahead = λ at h.
      ahead-stays t (with_pending u conn None) other at (request_on l)
      (left-shrinks t (with_pending u conn None) conn other ne (ap (λ ns. without_arrival ns conn) leaves.arrivals) leaves.others
      (λ n f. pending-other u conn n None f ∙ pending-same t u n leaves.connections))
      leaves.held h;
}

pub over-come : (t u : Tables) (conn before now : ℕ) → u.connections ≡ t.connections → HaveCome t before → before ≤ now → HaveCome (with_pending u conn None) now
over-come t u conn before now same come le m p at = by (cases_eq conn m) where
  by : (conn ≡ m) ⊎ (conn ≡ m → ⊥) → p.arrival ≤ now
  by (inl e) =
      absurd (none-some p (pending-here u conn None p (ap (pending_at (with_pending u conn None)) e ∙ at)))
  by (inr ne) =
      let earlier = come m p (sym (pending-same t u m same) ∙ sym (pending-other u conn m None ne) ∙ at) in omega arith
