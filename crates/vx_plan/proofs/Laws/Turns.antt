-- One more transfer of a turn, how many it may make, and whether it keeps the own address.
use Rattle.std.proofs.Common.{◌≡◌, ◌≢◌, ℕ, suc, ◌+◌, ◌-◌, ◌≤◌, min, Bool, true, false, not, cond, ◌||◌, ◌==◌, List, [], ◌∷◌, ◌++◌, map, length, Option, Some, None, refl, sym, ap, subst, ◌∙◌, arith, length-append}
use Rattle.std.specs.Prelude.{if◌then◌else◌, ⊤}
use Rattle.std.specs.List.{count_by, list_any}
use Rattle.std.proofs.lemmas.List.{length-map}
use Rattle.std.proofs.lemmas.Bool.{false≢true, true≢false, eqb-false, or_parts, or_from}
use Rattle.std.proofs.lemmas.Option.{none-some, same_Some}
use Rattle.vx_calls.specs.declared.limits.TheConstants.{READ_MAX, WRITE_MAX}
use Rattle.vx_calls.specs.declared.targets.Target.{Target}
use Rattle.vx_calls.specs.declared.targets.Target.TheVariants.{Interface, Device}
use Rattle.vx_488.specs.declared.transfers.Transfer.{Transfer}
use Rattle.vx_488.specs.declared.transfers.Transfer.TheVariants.{Cmd, Put, Got, Ren, Atn, Ifc, Own}
use Rattle.vx_488.specs.declared.wire.Wire.{Wire}
use Rattle.vx_488.specs.declared.wire.Pending.{Pending}
use Rattle.vx_488.specs.declared.wire.Pending.TheVariants as pending
use Rattle.vx_488.specs.declared.commands.Command.{Command}
use Rattle.vx_488.specs.declared.commands.Command.TheVariants as command
use Rattle.vx_488.specs.Command.{command_of}
use Rattle.vx_488.specs.Wire.{talks_elsewhere, on_secondary, on_take_control, on_command, step, wire_after}
use Rattle.vx_plan.specs.declared.tasks.TheConstants.{TURN_MAX}
use Rattle.vx_plan.specs.declared.tasks.Task.{Task}
use Rattle.vx_plan.specs.declared.tasks.Task.TheVariants as task
use Rattle.vx_plan.specs.declared.tasks.Place.{Place}
use Rattle.vx_plan.specs.Transfers.{is_own, got_of}
use Rattle.vx_plan.specs.Plan.{Slot, This, AnyByte, Reading, Plan, ends_with, is_stop, fits, left_after_one, left_after, Part, Off, stand_of}
use Rattle.vx_plan.specs.Tasks.{ended_poll, secondary_part, unl, spe, spd, unt, mla, mta, listener, talker, puts, just, reading, command_list, remote_list, plan, is_own_task, sdc, dcl, get, gtl}
use Rattle.vx_plan.specs.Results.{last_got}
use Rattle.vx_plan.specs.Places.{carries_data, last_after}
use Rattle.vx_plan.specs.Laws.{PlaceGoesOnLaw, BoundLaw, PartBoundLaw, SteadyLaw, OwnStaysLaw}
use Rattle.vx_plan.proofs.Laws.Parts.{left_after-append, same_transfer-is}
use Rattle.vx_plan.proofs.Laws.Walks.{off-stays, one-goes}
use Rattle.vx_plan.proofs.Laws.Counts.{count-behind, last_got-behind, length-puts}

-- ---- one more transfer

more-step : (b : Bool) (n : ℕ) → (if b then n else n + 1) ≡ n + cond (not b) 1 0
more-step true n = omega arith
more-step false n = refl

more-moved : (b : Bool) (n : ℕ) → (if b then n + 1 else n) ≡ n + cond b 1 0
more-moved true n = refl
more-moved false n = omega arith

-- a transfer that fits what is wanted next brings a turn to the place with this transfer
pub place-goes_on : PlaceGoesOnLaw
place-goes_on task bytes ts left place t r h =
    let next = one-goes left.front left.reading t h in
    let carries = carries_data task t in
    let stepped : (if carries then place.step else place.step + 1) ≡ count_by (λ t. not (carries_data task t)) (ts ++ t ∷ []) =
    more-step carries place.step ∙ ap (λ (p : Place). p.step + cond (not carries) 1 0) r.at ∙ sym (count-behind (λ t. not (carries_data task t)) ts t) in
    let moved : (if carries then place.moved + 1 else place.moved) ≡ count_by (carries_data task) (ts ++ t ∷ []) =
    more-moved carries place.moved ∙ ap (λ (p : Place). p.moved + cond carries 1 0) r.at ∙ sym (count-behind (carries_data task) ts t) in
    let last : last_after place.last (got_of t) ≡ last_got (ts ++ t ∷ []) =
    ap (λ (p : Place). last_after p.last (got_of t)) r.at ∙ sym (last_got-behind ts t) in (
      next.0,
      next.1,
      record {
        sent = r.sent;
        goes = left_after-append (Some (plan task bytes place.polling place.own)) ts (t ∷ []) ∙ ap (λ l. left_after l (t ∷ [])) r.goes ∙ next.1;
        at =
            ap (λ (n : ℕ). record { polling = place.polling; own = place.own; step = n; moved = if carries then place.moved + 1 else place.moved; last = last_after place.last (got_of t) }) stepped
            ∙ ap (λ (n : ℕ). record { polling = place.polling; own = place.own; step = count_by (λ t. not (carries_data task t)) (ts ++ t ∷ []); moved = n; last = last_after place.last (got_of t) }) moved
            ∙ ap (λ (l : Option (ℕ × Bool)). record { polling = place.polling; own = place.own; step = count_by (λ t. not (carries_data task t)) (ts ++ t ∷ []); moved = count_by (carries_data task) (ts ++ t ∷ []); last = l }) last;
      },
    )

-- ---- how many transfers are left

-- a list that doesn't leave a plan leaves something
pub stands-some : (o : Option Plan) → stand_of o ≢ Off → (left : Plan) × (o ≡ Some left)
stands-some None h = absurd (h refl)
stands-some (Some left) h = (left, refl)

-- the most bytes that are still to be got
abbrev pub most_of : Option Reading → ℕ
most_of None = 0
most_of (Some r) = r.most

-- at most so many transfers are left
abbrev pub room : Plan → ℕ
room p = length p.front + most_of p.reading

-- a read is of one byte at least
abbrev pub IsSome : Option Reading → Type 0
IsSome None = ⊤
IsSome (Some r) = 1 ≤ r.most

-- a plan on which less is left
abbrev pub Less : Plan → Plan → Type 0
Less left p = IsSome left.reading × (suc (room left) ≤ room p)

room-read : (r : Reading) (b : ℕ) (end : Bool) (left : Plan) (e : Bool) → 1 ≤ r.most → ends_with r b end ≡ e
    → ◌≡◌ {A = Option Plan} (Some (record { front = []; reading = if e then None else Some (record r { most = r.most - 1 }) })) (Some left)
    → Less left (record { front = []; reading = Some r })
room-read r b end left true some e h = subst (λ (l : Plan). Less l (record { front = []; reading = Some r })) (same_Some _ _ h) (tt, omega arith)
room-read r b end left false some e h =
    let last = eqb-false r.most 1 (or_parts (end || is_stop r.stop b) (r.most == 1) e).1 in
    subst (λ (l : Plan). Less l (record { front = []; reading = Some r })) (same_Some _ _ h) (omega arith, omega arith)

room-slot : (slot : Slot) (slots : List Slot) (reading : Option Reading) (left : Plan) (e : Bool) → IsSome reading
    → ◌≡◌ {A = Option Plan} (if e then Some (record { front = slots; reading = reading }) else None) (Some left)
    → Less left (record { front = slot ∷ slots; reading = reading })
room-slot slot slots reading left true some h =
    subst (λ (l : Plan). Less l (record { front = slot ∷ slots; reading = reading })) (same_Some _ _ h) (some, omega arith)
room-slot slot slots reading left false some h = absurd (none-some left h)

-- a transfer leaves less
pub room-one : (slots : List Slot) (reading : Option Reading) (t : Transfer) (left : Plan) → IsSome reading
    → left_after_one (record { front = slots; reading = reading }) t ≡ Some left → Less left (record { front = slots; reading = reading })
room-one [] None t left some h = absurd (none-some left h)
room-one [] (Some r) (Got b end) left some h = room-read r b end left (ends_with r b end) some refl h
room-one [] (Some r) _ left some h = absurd (none-some left h)
room-one (slot ∷ slots) reading t left some h = room-slot slot slots reading left (fits slot t) some h

pub room-left : (p : Plan) (ts : List Transfer) (left : Plan) → IsSome p.reading → left_after (Some p) ts ≡ Some left
    → IsSome left.reading × (length ts + room left ≤ room p)
room-left p [] left some h =
    subst (λ (l : Plan). IsSome l.reading × (0 + room l ≤ room p)) (same_Some _ _ h) (some, omega arith)
room-left p (t ∷ ts) left some h = by (left_after_one p t) refl h (λ q. room-left q ts left) where
  by : (o : Option Plan) → left_after_one p t ≡ o → left_after o ts ≡ Some left
      → ((q : Plan) → IsSome q.reading → left_after (Some q) ts ≡ Some left → IsSome left.reading × (length ts + room left ≤ room q))
      → IsSome left.reading × (length (t ∷ ts) + room left ≤ room p)
  by None e h more = absurd (off-stays ts left h)
  by (Some q) e h more =
      let one = room-one p.front p.reading t q some e in
      let rest = more q one.0 h in
      (rest.0, omega (arith, one.1, rest.1))

-- ---- how many there are at first

pub length-ended : (polling : Bool) → length (ended_poll polling) ≤ 1
length-ended true = omega arith
length-ended false = omega arith

-- a secondary address takes one command byte at most
pub length-secondary : (s : Option ℕ) → length (secondary_part s) ≤ 1
length-secondary None = omega arith
length-secondary (Some s) = omega arith

length-command : (t : Target) (device interface : Transfer) (polling : Bool) → length (command_list t device interface polling) ≤ TURN_MAX
length-command Interface device interface polling = omega arith
length-command (Device p None) device interface true = omega arith
length-command (Device p None) device interface false = omega arith
length-command (Device p (Some s)) device interface true = omega arith
length-command (Device p (Some s)) device interface false = omega arith

length-remote : (t : Target) (polling : Bool) → length (remote_list t polling) ≤ TURN_MAX
length-remote Interface polling = omega arith
length-remote (Device p None) true = omega arith
length-remote (Device p None) false = omega arith
length-remote (Device p (Some s)) true = omega arith
length-remote (Device p (Some s)) false = omega arith

abbrev Roomy : Plan → Type 0
Roomy p = IsSome p.reading × (room p ≤ TURN_MAX)

room-just : (ts : List Transfer) → length ts ≤ TURN_MAX → Roomy (just ts)
room-just ts h = (tt, omega (arith, length-map ts This))

room-reading : (fixed : List Transfer) (max : ℕ) (stop : Option ℕ) → length fixed ≤ 5 → Roomy (reading fixed max stop)
room-reading fixed max stop h = by (max == 0) refl where
  by : (e : Bool) → (max == 0) ≡ e → Roomy (if e then just [] else record { front = map This fixed; reading = Some (record { most = min max READ_MAX; stop = stop }) })
  by true e = (tt, omega arith)
  by false e =
      let some = eqb-false max 0 e in
      (omega arith, omega (arith, length-map fixed This))

-- the plan of each job is no longer than a turn may be
pub room-plan : (task : Task) (bytes : List ℕ) (polling : Bool) (own : ℕ) → length bytes ≤ WRITE_MAX → Roomy (plan task bytes polling own)
room-plan (task.Write Interface len end) bytes polling own h = room-just (puts end bytes) (omega (arith, length-puts end bytes))
room-plan (task.Write (Device p s) len end) bytes polling own h =
    room-just (ended_poll polling ++ unl ∷ mta own ∷ listener p s ++ puts end bytes)
    (omega (
      arith,
      length-append (ended_poll polling ++ unl ∷ mta own ∷ listener p s) (puts end bytes),
      length-append (ended_poll polling) (unl ∷ mta own ∷ listener p s),
      length-puts end bytes,
      length-ended polling,
      length-secondary s,
    ))
room-plan (task.Read Interface max stop) bytes polling own h = room-reading [] max stop (omega arith)
room-plan (task.Read (Device p s) max stop) bytes polling own h =
    room-reading (ended_poll polling ++ unl ∷ mla own ∷ talker p s) max stop
    (omega (arith, length-append (ended_poll polling) (unl ∷ mla own ∷ talker p s), length-ended polling, length-secondary s))
room-plan (task.Stb Interface) bytes polling own h = (tt, omega arith)
room-plan (task.Stb (Device p s)) bytes polling own h =
    let front = ended_poll polling ++ unl ∷ mla own ∷ spe ∷ talker p s in (
      tt,
      omega (
        arith,
        length-append (map This front) (AnyByte ∷ This spd ∷ This unt ∷ []),
        length-map front This,
        length-append (ended_poll polling) (unl ∷ mla own ∷ spe ∷ talker p s),
        length-ended polling,
        length-secondary s,
      ),
    )
room-plan (task.Clear t) bytes polling own h = room-just (command_list t sdc dcl polling) (length-command t sdc dcl polling)
room-plan (task.Trigger t) bytes polling own h = room-just (command_list t get get polling) (length-command t get get polling)
room-plan (task.Remote t) bytes polling own h = room-just (remote_list t polling) (length-remote t polling)
room-plan (task.Local t) bytes polling own h = room-just (command_list t gtl (Ren false) polling) (length-command t gtl (Ren false) polling)
room-plan (task.Commands len) bytes polling own h = room-just (map Cmd bytes) (omega (arith, length-map bytes Cmd))
room-plan (task.Status selector) bytes polling own h = (tt, omega arith)
room-plan (task.Atn on) bytes polling own h = (tt, omega arith)
room-plan (task.Ren on) bytes polling own h = (tt, omega arith)
room-plan (task.Pass p) bytes polling own h = (tt, omega arith)
room-plan (task.Own p) bytes polling own h = (tt, omega arith)
room-plan task.Ifc bytes polling own h = (tt, omega arith)

-- a list that does not leave its plan has at most as many transfers as a turn may
pub bound-law : BoundLaw
bound-law task bytes polling own ts short h =
    let p = plan task bytes polling own in
    let some = stands-some (left_after (Some p) ts) h in
    let first = room-plan task bytes polling own short in
    omega (arith, first.1, (room-left p ts some.0 first.0 some.1).1)

-- something is left of a part
part-room : (slots : List Slot) (reading : Option Reading) → IsSome reading → stand_of (Some (record { front = slots; reading = reading })) ≡ Part
    → 1 ≤ room (record { front = slots; reading = reading })
part-room [] None some h = cc
part-room [] (Some r) some h = omega arith
part-room (slot ∷ slots) reading some h = omega arith

part-some : (o : Option Plan) → stand_of o ≡ Part → (left : Plan) × (o ≡ Some left) × (stand_of (Some left) ≡ Part)
part-some None h = cc
part-some (Some left) h = (left, refl, h)

-- and one that is a part has fewer
pub part-bound-law : PartBoundLaw
part-bound-law task bytes polling own ts short h =
    let p = plan task bytes polling own in
    let some = part-some (left_after (Some p) ts) h in
    let first = room-plan task bytes polling own short in
    let rest = room-left p ts some.0 first.0 some.1 in
    omega (arith, first.1, rest.1, part-room some.0.front some.0.reading rest.0 some.2)

-- ---- what no transfer of a list is

-- a slot that such a transfer fits, where a byte got is one or not
abbrev pub slot_bad : (Transfer → Bool) → Bool → Slot → Bool
slot_bad bad any (This t) = bad t
slot_bad bad any AnyByte = any

abbrev read_bad : Bool → Option Reading → Bool
read_bad any None = false
read_bad any (Some r) = any

-- no such transfer fits the plan anywhere
abbrev pub Clean : (Transfer → Bool) → Bool → Plan → Type 0
Clean bad any p = (list_any (slot_bad bad any) p.front ≡ false) × (read_bad any p.reading ≡ false)

module _ (bad : Transfer → Bool) (any : Bool) (of_got : (b : ℕ) (end : Bool) → bad (Got b end) ≡ any) where
  clean-fits : (slot : Slot) (t : Transfer) → slot_bad bad any slot ≡ false → fits slot t ≡ true → bad t ≡ false
  clean-fits (This a) t none h = ap bad (same_transfer-is a t h) ∙ none
  clean-fits AnyByte (Got b end) none h = of_got b end ∙ none
  clean-fits AnyByte _ none h = absurd (false≢true h)

  clean-read : (r : Reading) (left : Plan) (e : Bool) → any ≡ false
      → ◌≡◌ {A = Option Plan} (Some (record { front = []; reading = if e then None else Some (record r { most = r.most - 1 }) })) (Some left)
      → Clean bad any left
  clean-read r left true none h = subst (Clean bad any) (same_Some _ _ h) (refl, refl)
  clean-read r left false none h = subst (Clean bad any) (same_Some _ _ h) (refl, none)

  clean-slot : (slot : Slot) (slots : List Slot) (reading : Option Reading) (t : Transfer) (left : Plan) (e : Bool) → fits slot t ≡ e
      → Clean bad any (record { front = slot ∷ slots; reading = reading })
      → ◌≡◌ {A = Option Plan} (if e then Some (record { front = slots; reading = reading }) else None) (Some left)
      → (bad t ≡ false) × Clean bad any left
  clean-slot slot slots reading t left true e none h =
      let parts = or_parts (slot_bad bad any slot) (list_any (slot_bad bad any) slots) none.0 in
      (clean-fits slot t parts.0 e, subst (Clean bad any) (same_Some _ _ h) (parts.1, none.1))
  clean-slot slot slots reading t left false e none h = absurd (none-some left h)

  clean-one : (slots : List Slot) (reading : Option Reading) (t : Transfer) (left : Plan) → Clean bad any (record { front = slots; reading = reading })
      → left_after_one (record { front = slots; reading = reading }) t ≡ Some left → (bad t ≡ false) × Clean bad any left
  clean-one [] None t left none h = absurd (none-some left h)
  clean-one [] (Some r) (Got b end) left none h = (of_got b end ∙ none.1, clean-read r left (ends_with r b end) none.1 h)
  clean-one [] (Some r) _ left none h = absurd (none-some left h)
  clean-one (slot ∷ slots) reading t left none h = clean-slot slot slots reading t left (fits slot t) refl none h

  pub clean-left : (p : Plan) (ts : List Transfer) (left : Plan) → Clean bad any p → left_after (Some p) ts ≡ Some left → list_any bad ts ≡ false
  clean-left p [] left none h = refl
  clean-left p (t ∷ ts) left none h = by (left_after_one p t) refl h (λ q. clean-left q ts left) where
    by : (o : Option Plan) → left_after_one p t ≡ o → left_after o ts ≡ Some left
        → ((q : Plan) → Clean bad any q → left_after (Some q) ts ≡ Some left → list_any bad ts ≡ false)
        → list_any bad (t ∷ ts) ≡ false
    by None e h more = absurd (off-stays ts left h)
    by (Some q) e h more =
        let one = clean-one p.front p.reading t q none e in
        or_from _ _ one.0 (more q one.1 h)

-- two lists without a bad transfer have none together
pub clean-append : (bad : Transfer → Bool) (any : Bool) (xs ys : List Transfer) → list_any (slot_bad bad any) (map This xs) ≡ false
    → list_any (slot_bad bad any) (map This ys) ≡ false → list_any (slot_bad bad any) (map This (xs ++ ys)) ≡ false
clean-append bad any [] ys first second = second
clean-append bad any (x ∷ xs) ys first second =
    let parts = or_parts (bad x) (list_any (slot_bad bad any) (map This xs)) first in
    or_from _ _ parts.0 (clean-append bad any xs ys parts.1 second)

abbrev has_own : List Slot → Bool
has_own slots = list_any (slot_bad is_own false) slots

-- ---- no plan but one has an own address

abbrev no_own : List Transfer → Type 0
no_own ts = has_own (map This ts) ≡ false

own-append : (xs ys : List Transfer) → no_own xs → no_own ys → no_own (xs ++ ys)
own-append xs ys first second = clean-append is_own false xs ys first second

own-puts : (end : Bool) (bytes : List ℕ) → no_own (puts end bytes)
own-puts end [] = refl
own-puts end (b ∷ []) = refl
own-puts end (b ∷ c ∷ bs) = own-puts end (c ∷ bs)

own-commands : (bytes : List ℕ) → no_own (map Cmd bytes)
own-commands [] = refl
own-commands (b ∷ bytes) = own-commands bytes

own-ended : (polling : Bool) → no_own (ended_poll polling)
own-ended true = refl
own-ended false = refl

own-secondary : (s : Option ℕ) → no_own (secondary_part s)
own-secondary None = refl
own-secondary (Some s) = refl

own-reading : (fixed : List Transfer) (max : ℕ) (stop : Option ℕ) → no_own fixed → has_own (reading fixed max stop).front ≡ false
own-reading fixed max stop h = by (max == 0) where
  by : (e : Bool) → has_own (if e then just [] else record { front = map This fixed; reading = Some (record { most = min max READ_MAX; stop = stop }) }).front ≡ false
  by true = refl
  by false = h

own-command : (t : Target) (device : ℕ) (interface : Transfer) (polling : Bool) → is_own interface ≡ false → no_own (command_list t (Cmd device) interface polling)
own-command Interface device interface polling h = or_from _ _ h refl
own-command (Device p None) device interface true h = refl
own-command (Device p None) device interface false h = refl
own-command (Device p (Some s)) device interface true h = refl
own-command (Device p (Some s)) device interface false h = refl

own-remote : (t : Target) (polling : Bool) → no_own (remote_list t polling)
own-remote Interface polling = refl
own-remote (Device p None) true = refl
own-remote (Device p None) false = refl
own-remote (Device p (Some s)) true = refl
own-remote (Device p (Some s)) false = refl

own-poll : (own p : ℕ) (s : Option ℕ) (polling : Bool) → has_own (plan (task.Stb (Device p s)) [] polling own).front ≡ false
own-poll own p None true = refl
own-poll own p None false = refl
own-poll own p (Some s) true = refl
own-poll own p (Some s) false = refl

own-plan : (task : Task) (bytes : List ℕ) (polling : Bool) (own : ℕ) → is_own_task task ≡ false → has_own (plan task bytes polling own).front ≡ false
own-plan (task.Write Interface len end) bytes polling own h = own-puts end bytes
own-plan (task.Write (Device p s) len end) bytes polling own h =
    own-append (ended_poll polling ++ unl ∷ mta own ∷ listener p s) (puts end bytes)
    (own-append (ended_poll polling) (unl ∷ mta own ∷ listener p s) (own-ended polling) (own-secondary s)) (own-puts end bytes)
own-plan (task.Read Interface max stop) bytes polling own h = own-reading [] max stop refl
own-plan (task.Read (Device p s) max stop) bytes polling own h =
    own-reading (ended_poll polling ++ unl ∷ mla own ∷ talker p s) max stop
    (own-append (ended_poll polling) (unl ∷ mla own ∷ talker p s) (own-ended polling) (own-secondary s))
own-plan (task.Stb Interface) bytes polling own h = refl
own-plan (task.Stb (Device p s)) bytes polling own h = own-poll own p s polling
own-plan (task.Clear t) bytes polling own h = own-command t 0x04 (Cmd 0x14) polling refl
own-plan (task.Trigger t) bytes polling own h = own-command t 0x08 (Cmd 0x08) polling refl
own-plan (task.Remote t) bytes polling own h = own-remote t polling
own-plan (task.Local t) bytes polling own h = own-command t 0x01 (Ren false) polling refl
own-plan (task.Commands len) bytes polling own h = own-commands bytes
own-plan (task.Status selector) bytes polling own h = refl
own-plan (task.Atn on) bytes polling own h = refl
own-plan (task.Ren on) bytes polling own h = refl
own-plan (task.Pass p) bytes polling own h = refl
own-plan (task.Own p) bytes polling own h = absurd (true≢false h)
own-plan task.Ifc bytes polling own h = refl

-- a list on the plan of another job than a new own address takes none
pub steady-law : SteadyLaw
steady-law task bytes polling own ts steady h =
    let p = plan task bytes polling own in
    let some = stands-some (left_after (Some p) ts) h in
    clean-left is_own false (λ b end. refl) p ts some.0 (own-plan task bytes polling own steady, no_read p.reading) some.1 where
      no_read : (reading : Option Reading) → read_bad false reading ≡ false
      no_read None = refl
      no_read (Some r) = refl

-- ---- the own address of the bus

own-control : (w : Wire) → (on_take_control w).own ≡ w.own
own-control w = by (talks_elsewhere w.talker w.own) where
  by : (e : Bool) → (if e then record w { incharge = false } else w).own ≡ w.own
  by true = refl
  by false = refl

own-on_secondary : (w : Wire) (s : ℕ) (p : Pending) → (on_secondary w s p).own ≡ w.own
own-on_secondary w s pending.Nothing = refl
own-on_secondary w s (pending.Talk p) = refl
own-on_secondary w s (pending.Listen p) = refl

own-on_command : (w : Wire) (c : Command) → (on_command w c).own ≡ w.own
own-on_command w command.TakeControl = own-control w
own-on_command w (command.Secondary s) = own-on_secondary w s w.pending
own-on_command w _ = refl

own-step : (w : Wire) (t : Transfer) → is_own t ≡ false → (step w t).own ≡ w.own
own-step w (Cmd b) h = own-on_command w (command_of b)
own-step w (Put b end) h = refl
own-step w (Got b end) h = refl
own-step w (Ren on) h = refl
own-step w (Atn on) h = refl
own-step w Ifc h = refl
own-step w (Own a) h = absurd (true≢false h)

own-wire : (w : Wire) (ts : List Transfer) → list_any is_own ts ≡ false → (wire_after w ts).own ≡ w.own
own-wire w [] h = refl
own-wire w (t ∷ ts) h =
    let parts = or_parts (is_own t) (list_any is_own ts) h in
    own-wire (step w t) ts parts.1 ∙ own-step w t parts.0

-- and so it keeps the own address
pub own_stays-law : OwnStaysLaw
own_stays-law task bytes polling own ts w steady h = own-wire w ts (steady-law task bytes polling own ts steady h)
