-- The addresses of a legal history: those of live links, and the gateway's own, are at most 30, and no live link is to a device
-- at the gateway's own.
use Rattle.std.proofs.Common.{◌≡◌, ◌≢◌, ◌≤◌, ◌==◌, ℕ, Bool, true, false, cond, ◌⊎◌, inl, inr, List, [], ◌∷◌, ◌++◌, Option, Some, None, Result, Ok, Err, refl, sym, ap, ◌∙◌, subst, arith}
use Rattle.std.specs.Prelude.{is_some, nat_le, not, ◌&&◌, length}
use Rattle.std.specs.Option.{option_map}
use Rattle.std.specs.List.{find, list_any, All}
use Rattle.std.proofs.lemmas.Bool.{cases_Bool, true≢false, and_parts, or_parts, not-true, leb-true, eqb-false}
use Rattle.std.proofs.lemmas.Option.{cond_some, none-some, same_Some}
use Rattle.std.proofs.lemmas.List.Elements.{All-nil, All-cons, All-head, All-tail, All-push, All-filter, All-weaker}
use Rattle.vx_lemmas.proofs.Laws.Conditions.{passes}
use Rattle.vx_calls.specs.declared.calls.Role.TheVariants as role
use Rattle.vx_calls.specs.declared.codes.ErrorCode.{ErrorCode}
use Rattle.vx_calls.specs.declared.codes.ErrorCode.TheVariants as code
use Rattle.vx_calls.specs.ErrorCode.{same_error}
use Rattle.vx_calls.specs.declared.targets.Target.{Target}
use Rattle.vx_calls.specs.declared.targets.Target.TheVariants.{Interface, Device}
use Rattle.vx_calls.specs.Target.{comma_parts, is_name, is_number, is_gateway, is_address, number_value, device_at, behind, target_of_parts, target, IsReachable}
use Rattle.vx_calls.specs.Call.{Call}
use Rattle.vx_calls.specs.Call as call
use Rattle.vx_calls.specs.Reply.{Reply}
use Rattle.vx_488.specs.declared.transfers.TheConstants.{ADDRESS_MAX}
use Rattle.vx_488.specs.declared.transfers.Transfer.{Transfer}
use Rattle.vx_488.specs.declared.transfers.Transfer.TheVariants as transfer
use Rattle.vx_488.specs.declared.wire.Wire.{Wire}
use Rattle.vx_488.specs.Wire.{step, wire_after}
use Rattle.vx_plan.specs.declared.tasks.Task.{Task}
use Rattle.vx_plan.specs.declared.tasks.Task.TheVariants as task
use Rattle.vx_plan.specs.Plan.{Off, stand}
use Rattle.vx_plan.specs.Tasks.{plan, is_own_task, IsTargetPlain}
use Rattle.vx_plan.proofs.Laws.{own-job, reachable-plain, own_stays-law}
use Rattle.vx_rules.specs.Table.{Link, Table, is_live, is_at, uses_address}
use Rattle.vx_rules.specs.Locks.{holds, with_lock}
use Rattle.vx_rules.specs.SrqState.{sampled, taken}
use Rattle.vx_rules.specs.Lists.{along}
use Rattle.vx_rules.specs.State.{Pending, Tables, State, first, connection_at, pending_at, lives_as, is_idle, has_room, with_pending, with_connection, without_connection}
use Rattle.vx_rules.specs.Calls.{is_bus_call, bytes_of}
use Rattle.vx_rules.specs.Docmd.{Command, BusAddress, command_of, number_in, has_length, takes_number, takes_input, command_task}
use Rattle.vx_rules.specs.Checks.{NamedLink, NoLink, DeadLink, OnLink, named_link, is_interface, check_command, check_on}
use Rattle.vx_rules.specs.Effects.{task_on, create, locked, effect_on, effect, settle}
use Rattle.vx_rules.specs.Lines.{Admission, first_lines}
use Rattle.vx_rules.specs.Decide.{BusInput, settles}
use Rattle.vx_rules.specs.Entry.{Entry, Up, Down, Arrive, Answer, Abort, Sample, Take}
use Rattle.vx_rules.specs.AtomicStep.{atomic_step, may_wait, arrived, marked, abort_reply, abort_tables, may_leave}
use Rattle.vx_rules.specs.Legal.{legal_state}
use Rattle.vx_rules.proofs.Laws.{bus-job}
use Rattle.vx_rules.proofs.Laws.Lists.{along-none}
use Rattle.vx_flow.proofs.Laws.Changes.{Found, Same, Settled, Effected, decide-found}
use Rattle.vx_flow.proofs.Laws.Whom.{just-front}
use Rattle.vx_flow.proofs.Laws.Making.{MadePart, MadeAny, answer-parts, answer-made, leave-made}

-- ---- what a device text names

-- a device that a gateway with this own address can reach
abbrev FoundReachable : ℕ → Result Target ErrorCode → Type 0
FoundReachable own (Ok t) = IsReachable own t
FoundReachable own (Err e) = Unit {0}

chosen-reachable : (own : ℕ) (b : Bool) (x : Result Target ErrorCode) (e : ErrorCode) → (b ≡ true → FoundReachable own x) → FoundReachable own (cond b x (Err e))
chosen-reachable own true x e h = h refl
chosen-reachable own false x e h = tt

device-reachable : (own p : ℕ) (s : Option ℕ) → FoundReachable own (device_at own p s)
device-reachable own p None =
    chosen-reachable own (is_address p && not (p == own)) (Ok (Device p None)) code.InvalidAddress
    (λ e. let both = and_parts (is_address p) (not (p == own)) e in (leb-true p ADDRESS_MAX both.0, eqb-false p own (not-true (p == own) both.1)))
device-reachable own p (Some s) =
    chosen-reachable own (is_address p && not (p == own) && is_address s) (Ok (Device p (Some s))) code.InvalidAddress
    (λ e. let both = and_parts (is_address p && not (p == own)) (is_address s) e in
    let first = and_parts (is_address p) (not (p == own)) both.0 in
    (leb-true p ADDRESS_MAX first.0, eqb-false p own (not-true (p == own) first.1), leb-true s ADDRESS_MAX both.1))

behind-reachable : (own : ℕ) (name : List ℕ) (x : Result Target ErrorCode) → FoundReachable own x → FoundReachable own (behind name x)
behind-reachable own name x h = chosen-reachable own (is_gateway name) x code.NotAccessible (λ e. h)

parts-reachable : (own : ℕ) (parts : List (List ℕ)) → FoundReachable own (target_of_parts own parts)
parts-reachable own [] = tt
parts-reachable own (name ∷ []) = chosen-reachable own (is_name name) (behind name (Ok Interface)) code.Syntax (λ e. behind-reachable own name (Ok Interface) tt)
parts-reachable own (name ∷ p ∷ []) =
    let found = device_at own (number_value p) None in
    chosen-reachable own (is_name name && is_number p) (behind name found) code.Syntax
    (λ e. behind-reachable own name found (device-reachable own (number_value p) None))
parts-reachable own (name ∷ p ∷ s ∷ []) =
    let found = device_at own (number_value p) (Some (number_value s)) in
    chosen-reachable own (is_name name && is_number p && is_number s) (behind name found) code.Syntax
    (λ e. behind-reachable own name found (device-reachable own (number_value p) (Some (number_value s))))
parts-reachable own (name ∷ p ∷ s ∷ q ∷ rest) = tt

target-reachable : (text : List ℕ) (own : ℕ) → FoundReachable own (target text own)
target-reachable text own = parts-reachable own (comma_parts text)

-- ---- the links

abbrev pub IsLinkPlain : Link → Type 0
IsLinkPlain l = IsTargetPlain l.target

abbrev pub AllPlain : Tables → Type 0
AllPlain t = All IsLinkPlain t.links.links

-- the link is to the interface, or to a device that a gateway with this own address can reach
abbrev pub IsLinkReachable : ℕ → Link → Type 0
IsLinkReachable own l = IsReachable own l.target

abbrev pub AllReachable : ℕ → List Link → Type 0
AllReachable own links = All (IsLinkReachable own) links

-- what is found in a list has what all of it has
pub found-has : {X : Type 0} (P : X → Type 0) (q : X → Bool) (xs : List X) (x : X) → find q xs ≡ Some x → All P xs → P x
found-has P q [] x h all = cc
found-has P q (y ∷ xs) x h all = by (q y) h (λ e. found-has P q xs x e (All-tail P y xs all)) where
  by : (b : Bool) → cond b (Some y) (find q xs) ≡ Some x → (find q xs ≡ Some x → P x) → P x
  by true h rest = subst P (same_Some y x h) (All-head P y xs all)
  by false h rest = rest h

abbrev FoundHas : ℕ → Option (Reply × Tables) → Type 0
FoundHas own None = Unit {0}
FoundHas own (Some d) = AllReachable own d.1.links.links

create-has : (own : ℕ) (t : Tables) (conn : ℕ) (lock : Bool) (named : Result Target ErrorCode) → AllReachable own t.links.links → FoundReachable own named
    → FoundHas own (create t conn lock named)
create-has own t conn lock (Err error) all named = tt
create-has own t conn true (Ok target) all named =
    All-push (IsLinkReachable own) t.links.links (record { number = t.links.next; connection = conn; target = target }) all named
create-has own t conn false (Ok target) all named =
    All-push (IsLinkReachable own) t.links.links (record { number = t.links.next; connection = conn; target = target }) all named

locked-has : (own : ℕ) (t : Tables) (l : Link) → AllReachable own t.links.links → AllReachable own (locked t l).links.links
locked-has own t l all = by (holds t.locks l.number) where
  by : (b : Bool) → AllReachable own (cond b t (record t { locks = with_lock t.locks l.number l.target })).links.links
  by true = all
  by false = all

effect_on-has : (own : ℕ) (t : Tables) (conn : ℕ) (l : Link) (asked : Call) → AllReachable own t.links.links → FoundHas own (effect_on t conn l asked)
effect_on-has own t conn l (call.Lock lid flags lock_timeout) all = locked-has own t l all
effect_on-has own t conn l (call.Unlock lid) all = all
effect_on-has own t conn l (call.EnableSrq lid enable handle) all = all
effect_on-has own t conn l (call.DestroyLink lid) all =
    All-filter (λ k. not ((k.number == l.number) && (k.connection == conn))) (IsLinkReachable own) t.links.links all
effect_on-has own t conn l _ all = tt

effect-has : (own : ℕ) (t : Tables) (conn : ℕ) (about : NamedLink) (asked : Call) → AllReachable own t.links.links → FoundHas own (effect t own conn about asked)
effect-has own t conn (OnLink l) asked all = effect_on-has own t conn l asked all
effect-has own t conn NoLink (call.CreateLink client lock lock_timeout device) all = create-has own t conn lock (target device own) all (target-reachable device own)
effect-has own t conn NoLink call.DestroyIntr all = all
effect-has own t conn NoLink _ all = tt
effect-has own t conn DeadLink asked all = tt

-- a settled dial leaves the links
abbrev FoundLeaves : Tables → Option (Reply × Tables) → Type 0
FoundLeaves t None = Unit {0}
FoundLeaves t (Some d) = d.1.links ≡ t.links

settle-leaves : (t : Tables) (conn : ℕ) (asked : Call) (up : Bool) → FoundLeaves t (settle t conn asked up)
settle-leaves t conn (call.CreateIntr host port prog vers family) true = refl
settle-leaves t conn (call.CreateIntr host port prog vers family) false = refl
settle-leaves t conn _ up = tt

-- an answer makes only links to what the gateway can reach
found-reachable : (t : Tables) (w : Wire) (conn : ℕ) (p : Pending) (l : Admission) (d : Reply × Tables) → Found t w conn p l d → AllReachable w.own t.links.links
    → AllReachable w.own d.1.links.links
found-reachable t w conn p l d (Same e) all = subst (λ (u : Tables). AllReachable w.own u.links.links) (sym e) all
found-reachable t w conn p l d (Settled up h) all =
    let same : d.1.links ≡ t.links = subst (FoundLeaves t) h (settle-leaves t conn p.call up) in
    subst (λ (u : Table). AllReachable w.own u.links) (sym same) all
found-reachable t w conn p l d (Effected passed bus h) all = subst (FoundHas w.own) h (effect-has w.own t conn (named_link t conn p.call) p.call all)

-- that of a bus call leaves the links
found-leaves : (t : Tables) (w : Wire) (conn : ℕ) (p : Pending) (l : Admission) (d : Reply × Tables) → Found t w conn p l d → is_bus_call p.call ≡ true → d.1.links ≡ t.links
found-leaves t w conn p l d (Same e) bus = ap (λ (u : Tables). u.links) e
found-leaves t w conn p l d (Settled up h) bus = subst (FoundLeaves t) h (settle-leaves t conn p.call up)
found-leaves t w conn p l d (Effected passed other h) bus = absurd (true≢false (sym bus ∙ other))

-- ---- the own address

-- what holds of the own address that a job takes, where it takes one
abbrev pub OwnHas : (ℕ → Type 0) → Task → Type 0
OwnHas P (task.Own n) = P n
OwnHas P _ = Unit {0}

-- what holds of each address up to 30 that no live link uses
abbrev OfUnused : (ℕ → Type 0) → Table → Type 0
OfUnused P links = (n : ℕ) → n ≤ ADDRESS_MAX → uses_address links n ≡ false → P n

command-has : (P : ℕ → Type 0) (t : Tables) (own : ℕ) (big : Bool) (bytes : List ℕ) (c : Command) → OfUnused P t.links
    → check_command t own big bytes (Some c) ≡ None → OwnHas P (command_task c big bytes)
command-has P t own big bytes BusAddress unused h =
    let n = number_in big bytes in
    let both = and_parts (has_length BusAddress (length bytes)) (takes_number BusAddress own t.links n) (passes (takes_input BusAddress own t.links big bytes) code.Parameter h) in
    let number = and_parts (nat_le n ADDRESS_MAX) (not (uses_address t.links n)) both.1 in
    unused n (leb-true n ADDRESS_MAX number.0) (not-true (uses_address t.links n) number.1)
command-has P t own big bytes _ unused h = tt

-- a job that a call is, whose checks pass, takes no own address above 30, and none that a live link uses
own-has : (P : ℕ → Type 0) (t : Tables) (own : ℕ) (l : Link) (asked : Call) (job : Task) → OfUnused P t.links → task_on l.target asked ≡ Some job
    → check_on t own l asked ≡ None → OwnHas P job
own-has P t own l (call.Write lid io_timeout lock_timeout flags bytes) job unused e h = subst (OwnHas P) (same_Some _ job e) tt
own-has P t own l (call.Read lid request io_timeout lock_timeout flags term) job unused e h = subst (OwnHas P) (same_Some _ job e) tt
own-has P t own l (call.ReadStb generic) job unused e h = subst (OwnHas P) (same_Some (task.Stb l.target) job e) tt
own-has P t own l (call.Trigger generic) job unused e h = subst (OwnHas P) (same_Some (task.Trigger l.target) job e) tt
own-has P t own l (call.Clear generic) job unused e h = subst (OwnHas P) (same_Some (task.Clear l.target) job e) tt
own-has P t own l (call.Remote generic) job unused e h = subst (OwnHas P) (same_Some (task.Remote l.target) job e) tt
own-has P t own l (call.Local generic) job unused e h = subst (OwnHas P) (same_Some (task.Local l.target) job e) tt
own-has P t own l (call.Docmd lid flags io_timeout lock_timeout cmd big size bytes) job unused e h = by (is_interface l.target) (command_of cmd) e h where
  by : (b : Bool) (o : Option Command) → option_map (λ c. command_task c big bytes) o ≡ Some job → cond b (check_command t own big bytes o) (Some code.NotSupported) ≡ None
      → OwnHas P job
  by false o e h = cc
  by true None e h = cc
  by true (Some c) e h = subst (OwnHas P) (same_Some (command_task c big bytes) job e) (command-has P t own big bytes c unused h)
own-has P t own l _ job unused e h = cc

own-front : (P : ℕ → Type 0) (n : ℕ) (ts more : List Transfer) (w : Wire) → P w.own → P n → ts ++ more ≡ transfer.Own n ∷ [] → P (wire_after w ts).own
own-front P n [] more w h new e = h
own-front P n (t ∷ []) more w h new e = let same : t ≡ transfer.Own n = cc in subst (λ x. P (step w x).own) (sym same) new
own-front P n (t ∷ u ∷ us) more w h new e = cc

-- a list on the plan of such a job leaves an own address of which the same holds, where that holds of the one before
pub own-after : (P : ℕ → Type 0) (job : Task) (bytes : List ℕ) (polling : Bool) (own : ℕ) (ts : List Transfer) (w : Wire) → P w.own → OwnHas P job
    → stand (plan job bytes polling own) ts ≢ Off → P (wire_after w ts).own
own-after P job bytes polling own ts w h has on = by (cases_Bool (is_own_task job)) where
  new : (n : ℕ) → OwnHas P (task.Own n) → stand (plan (task.Own n) bytes polling own) ts ≢ Off → P (wire_after w ts).own
  new n has on = let end = just-front (transfer.Own n ∷ []) ts on in own-front P n ts end.0 w h has end.1

  by : (is_own_task job ≡ true) ⊎ (is_own_task job ≡ false) → P (wire_after w ts).own
  by (inl e) =
      let is = own-job job e in
      new is.0 (subst (OwnHas P) is.1 has) (subst (λ j. stand (plan j bytes polling own) ts ≢ Off) is.1 on)
  by (inr e) = subst P (sym (own_stays-law job bytes polling own ts w e on)) h

made-own : (P : ℕ → Type 0) (t : Tables) (w : Wire) (conn : ℕ) (p : Pending) (moves : List Transfer) → OfUnused P t.links → P w.own → MadePart t w conn p moves
    → P (wire_after w moves).own
made-own P t w conn p moves unused h m =
    own-after P m.job (bytes_of p.call) w.polling w.own moves w h (own-has P t w.own m.link p.call m.job unused m.has_job m.passes.checked) m.on_plan

any-own : (P : ℕ → Type 0) (t : Tables) (w : Wire) (conn : ℕ) (p : Pending) (moves : List Transfer) → OfUnused P t.links → P w.own → MadeAny t w conn p moves
    → P (wire_after w moves).own
any-own P t w conn p moves unused h (inl e) = subst (λ m. P (wire_after w m).own) (sym e) h
any-own P t w conn p moves unused h (inr m) = made-own P t w conn p moves unused h m

-- an address that no link uses can be the own one
unused-reachable : (n own : ℕ) (t : Target) → is_at n t ≡ false → IsReachable own t → IsReachable n t
unused-reachable n own Interface apart h = tt
unused-reachable n own (Device p None) apart h = (h.0, eqb-false p n apart)
unused-reachable n own (Device p (Some s)) apart h = (h.0, eqb-false p n apart, h.2)

all-unused : (n own : ℕ) (links : List Link) → list_any (λ l. is_at n l.target) links ≡ false → AllReachable own links → AllReachable n links
all-unused n own [] none all = All-nil (IsLinkReachable n)
all-unused n own (l ∷ ls) none all =
    let both = or_parts (is_at n l.target) (list_any (λ k. is_at n k.target) ls) none in
    All-cons (IsLinkReachable n) l ls (unused-reachable n own l.target both.0 (All-head (IsLinkReachable own) l ls all))
    (all-unused n own ls both.1 (All-tail (IsLinkReachable own) l ls all))

-- ---- along a history

-- The gateway can reach the devices of all live links, whose addresses are plain; its own address is at most 30.
pub record IsPlain (s : State) : Type 0 where
  pub links : AllPlain s.tables
  pub own : s.wire.own ≤ ADDRESS_MAX
  pub reachable : AllReachable s.wire.own s.tables.links.links

is-plain : (s : State) → s.wire.own ≤ ADDRESS_MAX → AllReachable s.wire.own s.tables.links.links → IsPlain s
is-plain s own reachable = record {
  links = All-weaker (IsLinkReachable s.wire.own) IsLinkPlain (λ l h. reachable-plain s.wire.own l.target h) s.tables.links.links reachable;
  own = own;
  reachable = reachable;
}

abort-links : (t : Tables) (lid : ℕ) → (abort_tables t lid).links ≡ t.links
abort-links t lid = by (is_live t.links lid) where
  by : (b : Bool) → (cond b (marked t lid) t).links ≡ t.links
  by true = refl
  by false = refl

leave-own : (P : ℕ → Type 0) (s : State) (conn : ℕ) (moves : List Transfer) → OfUnused P s.tables.links → P s.wire.own
    → (moves ≡ []) ⊎ ((p : Pending) × (pending_at s.tables conn ≡ Some p) × MadePart s.tables s.wire conn p moves) → P (wire_after s.wire moves).own
leave-own P s conn moves unused h (inl e) = subst (λ m. P (wire_after s.wire m).own) (sym e) h
leave-own P s conn moves unused h (inr m) = made-own P s.tables s.wire conn m.0 moves unused h m.2

-- the own address behind an answer, with the links behind it
answer-reachable : (t : Tables) (w : Wire) (conn : ℕ) (p : Pending) (l : Admission) (d : Reply × Tables) (moves : List Transfer) → Found t w conn p l d
    → AllReachable w.own t.links.links → MadeAny t w conn p moves → AllReachable (wire_after w moves).own d.1.links.links
answer-reachable t w conn p l d moves found all (inl e) =
    subst (λ m. AllReachable (wire_after w m).own d.1.links.links) (sym e) (found-reachable t w conn p l d found all)
answer-reachable t w conn p l d moves found all (inr m) =
    let same = found-leaves t w conn p l d found (bus-job m.link.target p.call m.job m.has_job) in
    subst (λ (u : Table). AllReachable (wire_after w moves).own u.links) (sym same)
    (made-own (λ n. AllReachable n t.links.links) t w conn p moves (λ n le none. all-unused n w.own t.links.links none all) all m)

atomic-plain : (e : Entry) (s t : State) → IsPlain s → atomic_step s e ≡ Some t → IsPlain t
atomic-plain (Up conn r) s t plain h =
    let parts = cond_some ((conn == s.tables.next_connection) && has_room s.tables r) (record s { tables = with_connection s.tables r }) t h in
    subst IsPlain parts.1 (record { links = plain.links; own = plain.own; reachable = plain.reachable })
atomic-plain (Down conn moves) s t plain h =
    let parts = cond_some (is_some (connection_at s.tables conn) && may_leave s.tables s conn moves (pending_at s.tables conn))
    (record s { tables = without_connection s.tables conn; wire = wire_after s.wire moves }) t h in
    let leaves = (and_parts (is_some (connection_at s.tables conn)) (may_leave s.tables s conn moves (pending_at s.tables conn)) parts.0).1 in
    let made = leave-made s conn moves (pending_at s.tables conn) leaves in
    let links = s.tables.links.links in
    subst IsPlain parts.1 (is-plain (record s { tables = without_connection s.tables conn; wire = wire_after s.wire moves })
    (leave-own (λ n. n ≤ ADDRESS_MAX) s conn moves (λ n le none. le) plain.own made)
    (All-filter (λ l. not (l.connection == conn)) (IsLinkReachable (wire_after s.wire moves).own) links
    (leave-own (λ n. AllReachable n links) s conn moves (λ n le none. all-unused n s.wire.own links none plain.reachable) plain.reachable made)))
atomic-plain (Arrive conn asked now) s t plain h =
    let parts = cond_some (nat_le s.moment now && is_idle s.tables conn && may_wait asked)
    (record s { tables = with_pending s.tables conn (Some (arrived asked now)); moment = now }) t h in
    subst IsPlain parts.1 (record { links = plain.links; own = plain.own; reachable = plain.reachable })
atomic-plain (Answer conn now begun moves failed dialed level told) s t plain h =
    let o : BusInput = record { begun = begun; moves = moves; failed = failed; dialed = dialed; level = level } in
    let a = answer-parts s t conn now o told h in
    let made = answer-made s.tables s.wire conn a.asked now o a.decided a.fits a.found in
    subst IsPlain a.is (is-plain (record { tables = with_pending a.decided.1 conn None; wire = wire_after s.wire moves; moment = now })
    (any-own (λ n. n ≤ ADDRESS_MAX) s.tables s.wire conn a.asked moves (λ n le none. le) plain.own made)
    (answer-reachable s.tables s.wire conn a.asked (first_lines s.tables s.wire.own conn (settles o) a.asked now) a.decided moves
    (decide-found s.tables None s.wire conn a.asked now o a.decided a.found) plain.reachable made))
atomic-plain (Abort conn lid told) s t plain h =
    let parts = cond_some (lives_as s.tables conn role.Abort && same_error (abort_reply s.tables lid) told) (record s { tables = abort_tables s.tables lid }) t h in
    subst IsPlain parts.1 (is-plain (record s { tables = abort_tables s.tables lid }) plain.own
    (subst (λ (u : Table). AllReachable s.wire.own u.links) (sym (abort-links s.tables lid)) plain.reachable))
atomic-plain (Sample now srq) s t plain h =
    let parts = cond_some (nat_le s.moment now) (record s { tables = record s.tables { srq_state = sampled s.tables.srq_state srq }; moment = now }) t h in
    subst IsPlain parts.1 (record { links = plain.links; own = plain.own; reachable = plain.reachable })
atomic-plain (Take conn chan told) s t plain h =
    let parts = cond_some _ (record s { tables = record s.tables { srq_state = taken s.tables.srq_state conn chan } }) t h in
    subst IsPlain parts.1 (record { links = plain.links; own = plain.own; reachable = plain.reachable })

along-plain : (h : List Entry) (s t : State) → IsPlain s → along atomic_step (Some s) h ≡ Some t → IsPlain t
along-plain [] s t plain h = subst IsPlain (same_Some s t h) plain
along-plain (e ∷ es) s t plain h = by (atomic_step s e) refl h (along-plain es) where
  by : (o : Option State) → atomic_step s e ≡ o → along atomic_step o es ≡ Some t → ((s t : State) → IsPlain s → along atomic_step (Some s) es ≡ Some t → IsPlain t) → IsPlain t
  by None is h rest = absurd (none-some t (sym (along-none atomic_step es) ∙ h))
  by (Some mid) is h rest = rest mid t (atomic-plain e s mid plain is) h

pub legal-plain : (abort_port : ℕ) (history : List Entry) (s : State) → legal_state abort_port history ≡ Some s → IsPlain s
legal-plain abort_port history s h =
    along-plain history (first abort_port) s (is-plain (first abort_port) (omega arith) (All-nil (IsLinkReachable (first abort_port).wire.own))) h
