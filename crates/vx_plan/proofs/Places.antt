-- What a place tells: how much was moved, whether anything is left, and that its numbers are small.
use Rattle.std.proofs.Common.{◌≡◌, ℕ, suc, ◌+◌, ◌-◌, ◌≤◌, min, Bool, true, false, not, cond, ◌==◌, List, [], ◌∷◌, ◌++◌, map, length, Option, Some, None, refl, sym, ap, subst, ◌∙◌, arith, length-append}
use Rattle.std.specs.Prelude.{if◌then◌else◌}
use Rattle.std.specs.List.{count_by, list_any}
use Rattle.std.proofs.lemmas.List.{length-map}
use Rattle.std.proofs.lemmas.Bool.{false≢true, true≢false, or_from}
use Rattle.std.proofs.lemmas.Option.{none-some, same_Some}
use Rattle.vx_calls.specs.declared.limits.TheConstants.{READ_MAX, WRITE_MAX}
use Rattle.vx_calls.specs.declared.targets.Target.{Target}
use Rattle.vx_calls.specs.declared.targets.Target.TheVariants.{Interface, Device}
use Rattle.vx_488.specs.declared.transfers.Transfer.{Transfer}
use Rattle.vx_488.specs.declared.transfers.Transfer.TheVariants.{Cmd, Put, Got, Ren, Atn, Ifc, Own}
use Rattle.vx_plan.specs.declared.tasks.Task.{Task}
use Rattle.vx_plan.specs.declared.tasks.Task.TheVariants as task
use Rattle.vx_plan.specs.declared.tasks.Place.{Place}
use Rattle.vx_plan.specs.Plan.{Slot, This, AnyByte, Reading, Plan, ends_with, fits, left_after_one, left_after, stand_of}
use Rattle.vx_plan.specs.Tasks.{ended_poll, secondary_part, unl, mla, mta, listener, talker, puts, just, reading, command_list, remote_list, plan}
use Rattle.vx_plan.specs.Places.{carries_data}
use Rattle.vx_plan.proofs.Laws.Walks.{off-stays}
use Rattle.std.specs.List.{list_all}
use Rattle.std.proofs.lemmas.List.Sums.{sum_by-append, count_by-le-length}
use Rattle.std.proofs.lemmas.List.{map-append}
use Rattle.std.proofs.lemmas.Bool.{and_parts, not-true, not_from_true}
use Rattle.vx_plan.specs.Results.{gots, is_put, puts_made}
use Rattle.vx_plan.specs.Transfers.{is_got}
use Rattle.vx_plan.specs.Plan.{next_slot, Whole}
use Rattle.vx_plan.specs.Laws.{WantsNothingLaw, SmallPlaceLaw, ReadMovedLaw, WriteMovedLaw}
use Rattle.vx_plan.proofs.Laws.{same_transfer-is}
use Rattle.vx_plan.proofs.Laws.Counts.{count-front, count-front-yes, count-front-no, length-puts}
use Rattle.vx_plan.proofs.Fronts.{steps, moves, moves-data, moves-other, got-data, all_fixed, is_data}
use Rattle.vx_plan.proofs.Nexts.{is_line, all_lines, is_raw, lines-fixed, lines-front, lines-command, lines-remote, puts-data, raw-data}
use Rattle.vx_plan.proofs.Laws.Turns.{Clean, slot_bad, clean-left, clean-append, IsSome, most_of, room-one, room-plan, length-ended, length-secondary}

-- ---- what is moved

-- of a read's list the bytes got are its data
read-counts : (t : Target) (max : ℕ) (stop : Option ℕ) (ts : List Transfer) → list_any is_put ts ≡ false → moves (task.Read t max stop) ts ≡ length (gots ts)
read-counts t max stop [] h = refl
read-counts t max stop (Got b end ∷ ts) h = moves-data (task.Read t max stop) (Got b end) ts refl ∙ ap suc (read-counts t max stop ts h)
read-counts t max stop (Put b end ∷ ts) h = absurd (true≢false h)
read-counts t max stop (Cmd b ∷ ts) h = moves-other (task.Read t max stop) (Cmd b) ts refl ∙ read-counts t max stop ts h
read-counts t max stop (Ren on ∷ ts) h = moves-other (task.Read t max stop) (Ren on) ts refl ∙ read-counts t max stop ts h
read-counts t max stop (Atn on ∷ ts) h = moves-other (task.Read t max stop) (Atn on) ts refl ∙ read-counts t max stop ts h
read-counts t max stop (Ifc ∷ ts) h = moves-other (task.Read t max stop) Ifc ts refl ∙ read-counts t max stop ts h
read-counts t max stop (Own a ∷ ts) h = moves-other (task.Read t max stop) (Own a) ts refl ∙ read-counts t max stop ts h

-- of a write's list the bytes put are its data
write-counts : (t : Target) (len : ℕ) (end : Bool) (ts : List Transfer) → list_any is_got ts ≡ false → moves (task.Write t len end) ts ≡ puts_made ts
write-counts t len end [] h = refl
write-counts t len end (Put b last ∷ ts) h =
    moves-data (task.Write t len end) (Put b last) ts refl ∙ ap suc (write-counts t len end ts h) ∙ sym (count-front-yes is_put (Put b last) ts refl)
write-counts t len end (Got b last ∷ ts) h = absurd (true≢false h)
write-counts t len end (Cmd b ∷ ts) h =
    moves-other (task.Write t len end) (Cmd b) ts refl ∙ write-counts t len end ts h ∙ sym (count-front-no is_put (Cmd b) ts refl)
write-counts t len end (Ren on ∷ ts) h =
    moves-other (task.Write t len end) (Ren on) ts refl ∙ write-counts t len end ts h ∙ sym (count-front-no is_put (Ren on) ts refl)
write-counts t len end (Atn on ∷ ts) h =
    moves-other (task.Write t len end) (Atn on) ts refl ∙ write-counts t len end ts h ∙ sym (count-front-no is_put (Atn on) ts refl)
write-counts t len end (Ifc ∷ ts) h =
    moves-other (task.Write t len end) Ifc ts refl ∙ write-counts t len end ts h ∙ sym (count-front-no is_put Ifc ts refl)
write-counts t len end (Own a ∷ ts) h =
    moves-other (task.Write t len end) (Own a) ts refl ∙ write-counts t len end ts h ∙ sym (count-front-no is_put (Own a) ts refl)

-- transfers without data bytes are no bytes put or got
lines-clean : (bad : Transfer → Bool) (any : Bool) → ((t : Transfer) → is_line t ≡ true → bad t ≡ false)
    → (ts : List Transfer) → all_lines ts ≡ true → list_any (slot_bad bad any) (map This ts) ≡ false
lines-clean bad any good [] h = refl
lines-clean bad any good (t ∷ ts) h =
    let parts = and_parts (is_line t) (all_lines ts) h in
    or_from _ _ (good t parts.0) (lines-clean bad any good ts parts.1)

line-put : (t : Transfer) → is_line t ≡ true → is_put t ≡ false
line-put (Put b end) h = absurd (false≢true h)
line-put (Got b end) h = refl
line-put (Cmd b) h = refl
line-put (Ren on) h = refl
line-put (Atn on) h = refl
line-put Ifc h = refl
line-put (Own a) h = refl

line-got : (t : Transfer) → is_line t ≡ true → is_got t ≡ false
line-got (Got b end) h = absurd (false≢true h)
line-got (Put b end) h = refl
line-got (Cmd b) h = refl
line-got (Ren on) h = refl
line-got (Atn on) h = refl
line-got Ifc h = refl
line-got (Own a) h = refl

puts-clean : (end : Bool) (bytes : List ℕ) → list_any (slot_bad is_got true) (map This (puts end bytes)) ≡ false
puts-clean end [] = refl
puts-clean end (b ∷ []) = refl
puts-clean end (b ∷ c ∷ bs) = puts-clean end (c ∷ bs)

reading-clean : (fixed : List Transfer) (max : ℕ) (stop : Option ℕ) → all_lines fixed ≡ true → Clean is_put false (reading fixed max stop)
reading-clean fixed max stop h = by (max == 0) where
  by : (e : Bool) → Clean is_put false (if e then just [] else record { front = map This fixed; reading = Some (record { most = min max READ_MAX; stop = stop }) })
  by true = (refl, refl)
  by false = (lines-clean is_put false line-put fixed h, refl)

read-clean : (t : Target) (max : ℕ) (stop : Option ℕ) (bytes : List ℕ) (polling : Bool) (own : ℕ) → Clean is_put false (plan (task.Read t max stop) bytes polling own)
read-clean Interface max stop bytes polling own = reading-clean [] max stop refl
read-clean (Device p s) max stop bytes polling own =
    reading-clean (ended_poll polling ++ unl ∷ mla own ∷ talker p s) max stop (lines-front polling (0x3F ∷ (0x20 + own) ∷ []) (0x40 + p) s)

write-clean : (t : Target) (len : ℕ) (end : Bool) (bytes : List ℕ) (polling : Bool) (own : ℕ) → Clean is_got true (plan (task.Write t len end) bytes polling own)
write-clean Interface len end bytes polling own = (puts-clean end bytes, refl)
write-clean (Device p s) len end bytes polling own =
    let fixed = ended_poll polling ++ unl ∷ mta own ∷ listener p s in (
      clean-append is_got true fixed (puts end bytes)
          (lines-clean is_got true line-got fixed (lines-front polling (0x3F ∷ (0x40 + own) ∷ []) (0x20 + p) s)) (puts-clean end bytes),
      refl,
    )

pub read-moved : ReadMovedLaw
read-moved t max stop bytes ts left place r =
    let none = clean-left is_put false (λ b end. refl) (plan (task.Read t max stop) bytes place.polling place.own) ts left
    (read-clean t max stop bytes place.polling place.own) r.goes in
    ap (λ (p : Place). p.moved) r.at ∙ read-counts t max stop ts none

pub write-moved : WriteMovedLaw
write-moved t len end bytes ts left place r =
    let none = clean-left is_got true (λ b end. refl) (plan (task.Write t len end) bytes place.polling place.own) ts left
    (write-clean t len end bytes place.polling place.own) r.goes in
    ap (λ (p : Place). p.moved) r.at ∙ write-counts t len end ts none

-- ---- nothing more is wanted

pub wants_nothing : WantsNothingLaw
wants_nothing p left ts e = (λ h. ap stand_of e ∙ whole left.front left.reading h, λ h. nothing left.front left.reading (ap stand_of (sym e) ∙ h)) where
  whole : (slots : List Slot) (reading : Option Reading) → next_slot (record { front = slots; reading = reading }) ≡ None
      → stand_of (Some (record { front = slots; reading = reading })) ≡ Whole
  whole [] None h = refl
  whole [] (Some r) h = cc
  whole (slot ∷ slots) reading h = cc

  nothing : (slots : List Slot) (reading : Option Reading) → stand_of (Some (record { front = slots; reading = reading })) ≡ Whole
      → next_slot (record { front = slots; reading = reading }) ≡ None
  nothing [] None h = refl
  nothing [] (Some r) h = cc
  nothing (slot ∷ slots) reading h = cc

-- ---- a place is small

abbrev fixed_slots : Task → List Slot → ℕ
fixed_slots task slots = count_by (λ s. not (is_data task s)) slots

abbrev data_slots : Task → List Slot → ℕ
data_slots task slots = count_by (is_data task) slots

-- so many data bytes are left at most
abbrev data_room : Task → Plan → ℕ
data_room task p = data_slots task p.front + most_of p.reading

-- a transfer counts as the slot that it fits
fits-carries : (task : Task) (slot : Slot) (t : Transfer) → fits slot t ≡ true → is_data task slot ≡ carries_data task t
fits-carries task (This a) t h = sym (ap (carries_data task) (same_transfer-is a t h))
fits-carries task AnyByte t h = sym (got-data task t h)

-- what a transfer takes off the steps and the data bytes that are left
record Takes (task : Task) (p : Plan) (t : Transfer) (left : Plan) : Type 0 where
  pub fixed : cond (not (carries_data task t)) 1 0 + fixed_slots task left.front ≡ fixed_slots task p.front
  pub moving : cond (carries_data task t) 1 0 + data_room task left ≤ data_room task p

takes-read : (task : Task) (r : Reading) (b : ℕ) (end : Bool) (left : Plan) (e : Bool) → 1 ≤ r.most
    → ◌≡◌ {A = Option Plan} (Some (record { front = []; reading = if e then None else Some (record r { most = r.most - 1 }) })) (Some left)
    → Takes task (record { front = []; reading = Some r }) (Got b end) left
takes-read task r b end left true some h =
    subst (Takes task (record { front = []; reading = Some r }) (Got b end)) (same_Some _ _ h) (record { fixed = refl; moving = omega arith })
takes-read task r b end left false some h =
    subst (Takes task (record { front = []; reading = Some r }) (Got b end)) (same_Some _ _ h) (record { fixed = refl; moving = omega arith })

takes-slot : (task : Task) (slot : Slot) (slots : List Slot) (reading : Option Reading) (t : Transfer) (left : Plan) (e : Bool) → fits slot t ≡ e
    → ◌≡◌ {A = Option Plan} (if e then Some (record { front = slots; reading = reading }) else None) (Some left)
    → Takes task (record { front = slot ∷ slots; reading = reading }) t left
takes-slot task slot slots reading t left true e h =
    let same = fits-carries task slot t e in
    subst (Takes task (record { front = slot ∷ slots; reading = reading }) t) (same_Some _ _ h) (record {
      fixed =
          ap (λ b. cond (not b) 1 0 + fixed_slots task slots) (sym same) ∙ sym (count-front (λ s. not (is_data task s)) slot slots);
      moving =
          let some : data_slots task (slot ∷ slots) ≡ cond (carries_data task t) 1 0 + data_slots task slots =
          count-front (is_data task) slot slots ∙ ap (λ b. cond b 1 0 + data_slots task slots) same in
          omega (arith, some);
    })
takes-slot task slot slots reading t left false e h = absurd (none-some left h)

takes-one : (task : Task) (slots : List Slot) (reading : Option Reading) (t : Transfer) (left : Plan) → IsSome reading
    → left_after_one (record { front = slots; reading = reading }) t ≡ Some left → Takes task (record { front = slots; reading = reading }) t left
takes-one task [] None t left some h = absurd (none-some left h)
takes-one task [] (Some r) (Got b end) left some h = takes-read task r b end left (ends_with r b end) some h
takes-one task [] (Some r) _ left some h = absurd (none-some left h)
takes-one task (slot ∷ slots) reading t left some h = takes-slot task slot slots reading t left (fits slot t) refl h

abbrev Spent : Task → Plan → List Transfer → Plan → Type 0
Spent task p ts left = (steps task ts + fixed_slots task left.front ≡ fixed_slots task p.front) × (moves task ts + data_room task left ≤ data_room task p)

spent : (task : Task) (p : Plan) (ts : List Transfer) (left : Plan) → IsSome p.reading → left_after (Some p) ts ≡ Some left → Spent task p ts left
spent task p [] left some h = subst (Spent task p []) (same_Some _ _ h) (omega arith, omega arith)
spent task p (t ∷ ts) left some h = by (left_after_one p t) refl h (λ q. spent task q ts left) where
  by : (o : Option Plan) → left_after_one p t ≡ o → left_after o ts ≡ Some left
      → ((q : Plan) → IsSome q.reading → left_after (Some q) ts ≡ Some left → Spent task q ts left)
      → Spent task p (t ∷ ts) left
  by None e h more = absurd (off-stays ts left h)
  by (Some q) e h more =
      let less = room-one p.front p.reading t q some e in
      let first = takes-one task p.front p.reading t q some e in
      let rest = more q less.0 h in (
        omega (arith, first.fixed, rest.0, count-front (λ t. not (carries_data task t)) t ts),
        omega (arith, first.moving, rest.1, count-front (carries_data task) t ts),
      )

abbrev Small : Task → Plan → Type 0
Small task p = (fixed_slots task p.front ≤ 8) × (data_room task p ≤ WRITE_MAX)

-- lists without data bytes
fixed-data : (task : Task) (ts : List Transfer) → all_fixed task ts ≡ true → data_slots task (map This ts) ≡ 0
fixed-data task [] h = refl
fixed-data task (t ∷ ts) h =
    let parts = and_parts (not (carries_data task t)) (all_fixed task ts) h in
    count-front-no (is_data task) (This t) (map This ts) (not-true (carries_data task t) parts.0) ∙ fixed-data task ts parts.1

data-fixed : (task : Task) (slots : List Slot) → list_all (is_data task) slots ≡ true → fixed_slots task slots ≡ 0
data-fixed task [] h = refl
data-fixed task (slot ∷ slots) h =
    let parts = and_parts (is_data task slot) (list_all (is_data task) slots) h in
    count-front-no (λ s. not (is_data task s)) slot slots (not_from_true (is_data task slot) parts.0) ∙ data-fixed task slots parts.1

small-lines : (task : Task) (ts : List Transfer) → is_raw task ≡ false → all_lines ts ≡ true → length ts ≤ 8 → Small task (just ts)
small-lines task ts raw lines short = (
  omega (arith, count_by-le-length (λ s. not (is_data task s)) (map This ts), length-map ts This),
  omega (arith, fixed-data task ts (lines-fixed task ts raw lines)),
)

small-data : (task : Task) (ts : List Transfer) → list_all (is_data task) (map This ts) ≡ true → length ts ≤ WRITE_MAX → Small task (just ts)
small-data task ts all short = (
  omega (arith, data-fixed task (map This ts) all),
  omega (arith, count_by-le-length (is_data task) (map This ts), length-map ts This),
)

small-both : (task : Task) (xs ys : List Transfer) → is_raw task ≡ false → all_lines xs ≡ true → length xs ≤ 8
    → list_all (is_data task) (map This ys) ≡ true → length ys ≤ WRITE_MAX → Small task (just (xs ++ ys))
small-both task xs ys raw lines short all fewer =
    let first = small-lines task xs raw lines short in
    let second = small-data task ys all fewer in
    let fixed_all : fixed_slots task (map This (xs ++ ys)) ≡ fixed_slots task (map This xs) + fixed_slots task (map This ys) =
    ap (fixed_slots task) (map-append This xs ys) ∙ sum_by-append (λ s. cond (not (is_data task s)) 1 0) (map This xs) (map This ys) in
    let data_all : data_slots task (map This (xs ++ ys)) ≡ data_slots task (map This xs) + data_slots task (map This ys) =
    ap (data_slots task) (map-append This xs ys) ∙ sum_by-append (λ s. cond (is_data task s) 1 0) (map This xs) (map This ys) in (
      omega (arith, fixed_all, first.0, data-fixed task (map This ys) all),
      omega (arith, data_all, second.1, fixed-data task xs (lines-fixed task xs raw lines)),
    )

small-reading : (task : Task) (fixed : List Transfer) (max : ℕ) (stop : Option ℕ) → is_raw task ≡ false → all_lines fixed ≡ true → length fixed ≤ 8 → Small task (reading fixed max stop)
small-reading task fixed max stop raw lines short = by (max == 0) where
  by : (e : Bool) → Small task (if e then just [] else record { front = map This fixed; reading = Some (record { most = min max READ_MAX; stop = stop }) })
  by true = (omega arith, omega arith)
  by false =
      let first = small-lines task fixed raw lines short in
      (first.0, omega (arith, fixed-data task fixed (lines-fixed task fixed raw lines)))

small-poll : (p : ℕ) (s : Option ℕ) (bytes : List ℕ) (polling : Bool) (own : ℕ) → Small (task.Stb (Device p s)) (plan (task.Stb (Device p s)) bytes polling own)
small-poll p None bytes true own = (omega arith, omega arith)
small-poll p None bytes false own = (omega arith, omega arith)
small-poll p (Some s) bytes true own = (omega arith, omega arith)
small-poll p (Some s) bytes false own = (omega arith, omega arith)

length-front : (polling : Bool) (a b c : Transfer) (s : Option ℕ) → length (ended_poll polling ++ a ∷ b ∷ c ∷ secondary_part s) ≤ 5
length-front polling a b c s =
    omega (arith, length-append (ended_poll polling) (a ∷ b ∷ c ∷ secondary_part s), length-ended polling, length-secondary s)

small-command : (task : Task) (t : Target) (device : ℕ) (interface : Transfer) (polling : Bool) → is_raw task ≡ false → is_line interface ≡ true
    → Small task (just (command_list t (Cmd device) interface polling))
small-command task t device interface polling raw line =
    small-lines task (command_list t (Cmd device) interface polling) raw (lines-command t device interface polling line) (short t polling) where
      short : (t : Target) (polling : Bool) → length (command_list t (Cmd device) interface polling) ≤ 8
      short Interface polling = omega arith
      short (Device p None) true = omega arith
      short (Device p None) false = omega arith
      short (Device p (Some s)) true = omega arith
      short (Device p (Some s)) false = omega arith

small-remote : (u t : Target) (polling : Bool) → Small (task.Remote u) (just (remote_list t polling))
small-remote u t polling = small-lines (task.Remote u) (remote_list t polling) refl (lines-remote t polling) (short t polling) where
  short : (t : Target) (polling : Bool) → length (remote_list t polling) ≤ 8
  short Interface polling = omega arith
  short (Device p None) true = omega arith
  short (Device p None) false = omega arith
  short (Device p (Some s)) true = omega arith
  short (Device p (Some s)) false = omega arith

small-plan : (task : Task) (bytes : List ℕ) (polling : Bool) (own : ℕ) → length bytes ≤ WRITE_MAX → Small task (plan task bytes polling own)
small-plan (task.Write Interface len end) bytes polling own h =
    small-data (task.Write Interface len end) (puts end bytes) (puts-data (task.Write Interface len end) end bytes) (omega (arith, length-puts end bytes))
small-plan (task.Write (Device p s) len end) bytes polling own h =
    let task = task.Write (Device p s) len end in
    small-both task (ended_poll polling ++ unl ∷ mta own ∷ listener p s) (puts end bytes) refl
    (lines-front polling (0x3F ∷ (0x40 + own) ∷ []) (0x20 + p) s) (omega (arith, length-front polling unl (mta own) (mla p) s))
    (puts-data task end bytes) (omega (arith, length-puts end bytes))
small-plan (task.Read Interface max stop) bytes polling own h = small-reading (task.Read Interface max stop) [] max stop refl refl (omega arith)
small-plan (task.Read (Device p s) max stop) bytes polling own h =
    small-reading (task.Read (Device p s) max stop) (ended_poll polling ++ unl ∷ mla own ∷ talker p s) max stop refl
    (lines-front polling (0x3F ∷ (0x20 + own) ∷ []) (0x40 + p) s) (omega (arith, length-front polling unl (mla own) (mta p) s))
small-plan (task.Stb Interface) bytes polling own h = (omega arith, omega arith)
small-plan (task.Stb (Device p s)) bytes polling own h = small-poll p s bytes polling own
small-plan (task.Clear t) bytes polling own h = small-command (task.Clear t) t 0x04 (Cmd 0x14) polling refl refl
small-plan (task.Trigger t) bytes polling own h = small-command (task.Trigger t) t 0x08 (Cmd 0x08) polling refl refl
small-plan (task.Remote t) bytes polling own h = small-remote t t polling
small-plan (task.Local t) bytes polling own h = small-command (task.Local t) t 0x01 (Ren false) polling refl refl
small-plan (task.Commands len) bytes polling own h =
    small-data (task.Commands len) (map Cmd bytes) (raw-data len bytes) (omega (arith, length-map bytes Cmd))
small-plan (task.Status selector) bytes polling own h = (omega arith, omega arith)
small-plan (task.Atn on) bytes polling own h = (omega arith, omega arith)
small-plan (task.Ren on) bytes polling own h = (omega arith, omega arith)
small-plan (task.Pass p) bytes polling own h = (omega arith, omega arith)
small-plan (task.Own p) bytes polling own h = (omega arith, omega arith)
small-plan task.Ifc bytes polling own h = (omega arith, omega arith)

pub small-place : SmallPlaceLaw
small-place task bytes ts left place short r =
    let p = plan task bytes place.polling place.own in
    let first = small-plan task bytes place.polling place.own short in
    let all = spent task p ts left (room-plan task bytes place.polling place.own short).0 r.goes in
    (omega (arith, ap (λ (q : Place). q.step) r.at, first.0, all.0), omega (arith, ap (λ (q : Place). q.moved) r.at, first.1, all.1))
