-- What the numbers of a place say of the list that reached it.
use Rattle.std.proofs.Common.{◌≡◌, ℕ, ◌+◌, ◌<◌, ◌≤◌, Bool, true, false, not, cond, leb, List, [], ◌∷◌, ◌++◌, map, length, count_by, Option, Some, None, refl, sym, ap, ◌∙◌, subst, arith}
use Rattle.std.proofs.lemmas.List.{map-append, length-map}
use Rattle.std.proofs.lemmas.List.Elements.{filter_map-append}
use Rattle.std.proofs.lemmas.List.Sums.{sum_by-cons, count_by-le-length}
use Rattle.std.proofs.lemmas.Bool.{leb-true}
use Rattle.vx_calls.specs.declared.targets.Target.{Target}
use Rattle.vx_488.specs.declared.transfers.TheConstants.{ADDRESS_MAX}
use Rattle.vx_488.specs.declared.transfers.Transfer.{Transfer}
use Rattle.vx_488.specs.declared.transfers.Transfer.TheVariants as transfer
use Rattle.vx_plan.specs.declared.tasks.Task.{Task}
use Rattle.vx_plan.specs.declared.tasks.Task.TheVariants.{Write, Read, Stb, Commands}
use Rattle.vx_plan.specs.declared.tasks.Place.{Place}
use Rattle.vx_plan.specs.Transfers.{is_got, got_of}
use Rattle.vx_plan.specs.Results.{is_put, puts_made, gots, bytes_got, reason_of}
use Rattle.vx_plan.specs.Plan.{Slot, This, AnyByte, Reading, Plan, next_slot}
use Rattle.vx_plan.specs.Places.{carries_data, Reaches}
use Rattle.vx_plan.specs.Laws.{FitsNext}
use Rattle.vx_plan.specs.Tasks.{IsPlainTask, plan}
use Rattle.vx_ctrl.specs.Turns.{TurnHasRoom, GetsBytes, task_reason, moved_by, reason_by}
use Rattle.vx_ctrl.proofs.Laws.Tallies.{one_if, is_slot_of, most_of, IsOpen, along}
use Rattle.vx_ctrl.proofs.Laws.Sizes.{is_command, is_line, is_high, most_commands, most_puts, most_gets, plan-sized}

-- how many transfers of each kind a list has, and what is left of its plan may still have
pub record Fares (task : Task) (ts : List Transfer) (left : Plan) : Type 0 where
  pub commands : count_by is_command ts + most_of is_command false left ≤ most_commands task
  pub puts : count_by is_put ts + most_of is_put false left ≤ most_puts task
  pub gets : count_by is_got ts + most_of is_got true left ≤ most_gets task
  pub lines : count_by is_line ts + most_of is_line false left ≤ 1
  pub high : count_by is_high ts + most_of is_high false left ≤ 0
  pub opens : IsOpen left.reading

-- so it is with each list that reaches a place
pub fares : (task : Task) (bytes : List ℕ) (ts : List Transfer) (left : Plan) (place : Place) → IsPlainTask task
    → Reaches task bytes ts left place → Fares task ts left
fares task bytes ts left place plain reaches =
    let p = plan task bytes place.polling place.own in
    let size = plan-sized task bytes place.polling place.own plain reaches.sent in
    let commands = along is_command false (λ b e. refl) ts p left size.opens reaches.goes in
    let puts = along is_put false (λ b e. refl) ts p left size.opens reaches.goes in
    let gets = along is_got true (λ b e. refl) ts p left size.opens reaches.goes in
    let lines = along is_line false (λ b e. refl) ts p left size.opens reaches.goes in
    let high = along is_high false (λ b e. refl) ts p left size.opens reaches.goes in
    record {
      commands = omega (arith, commands.used, size.commands_at_most);
      puts = omega (arith, puts.used, size.puts_at_most);
      gets = omega (arith, gets.used, size.gets_at_most);
      lines = omega (arith, lines.used, size.lines_at_most);
      high = omega (arith, high.used, size.none_high);
      opens = commands.opens;
    }

-- what is wanted next is one of what may come
wanted : (kind : Transfer → Bool) (gets : Bool) (slots : List Slot) (reading : Option Reading) (slot : Slot) → IsOpen reading
    → next_slot (record { front = slots; reading = reading }) ≡ Some slot
    → one_if (is_slot_of kind gets slot) ≤ most_of kind gets (record { front = slots; reading = reading })
wanted kind gets [] None slot opens h = cc
wanted kind gets [] (Some r) slot opens h =
    let P : Slot → Type 0 = λ slot. one_if (is_slot_of kind gets slot) ≤ most_of kind gets (record { front = []; reading = Some r }) in
    let same : AnyByte ≡ slot = cc in
    subst P same (by gets)
  where
    by : (gets : Bool) → one_if gets ≤ 0 + cond gets r.most 0
    by true = omega arith
    by false = omega arith
wanted kind gets (first ∷ slots) reading slot opens h =
    let same : first ≡ slot = cc in
    omega (arith, ap (λ s. one_if (is_slot_of kind gets s)) same)

-- what is wanted next is one of what the plan may want
pub wanted-one : (kind : Transfer → Bool) (gets : Bool) (left : Plan) (slot : Slot) → IsOpen left.reading
    → next_slot left ≡ Some slot → one_if (is_slot_of kind gets slot) ≤ most_of kind gets left
wanted-one kind gets left slot opens h = wanted kind gets left.front left.reading slot opens h

-- each transfer of one kind is of one of two others
count-two : (one two three : Transfer → Bool) → ((t : Transfer) → one_if (one t) ≡ one_if (two t) + one_if (three t)) → (ts : List Transfer)
    → count_by one ts ≡ count_by two ts + count_by three ts
count-two one two three each [] = refl
count-two one two three each (t ∷ ts) =
    omega (arith, sum_by-cons (λ t. one_if (one t)) t ts, sum_by-cons (λ t. one_if (two t)) t ts, sum_by-cons (λ t. one_if (three t)) t ts, each t, count-two one two three each ts)

-- the job is to send command bytes
abbrev pub is_commands : Task → Bool
is_commands (Commands len) = true
is_commands _ = false

-- of every job but that of command bytes the data are the bytes put and got
plain-data : (task : Task) → is_commands task ≡ false → (t : Transfer) → one_if (carries_data task t) ≡ one_if (is_put t) + one_if (is_got t)
plain-data task h (transfer.Put b end) = refl
plain-data task h (transfer.Got b end) = refl
plain-data (Commands len) h (transfer.Cmd b) = cc
plain-data task h (transfer.Cmd b) = refl
plain-data task h t = refl

plain-others : (task : Task) → is_commands task ≡ false → (t : Transfer) → one_if (not (carries_data task t)) ≡ one_if (is_command t) + one_if (is_line t)
plain-others task h (transfer.Put b end) = refl
plain-others task h (transfer.Got b end) = refl
plain-others (Commands len) h (transfer.Cmd b) = cc
plain-others task h (transfer.Cmd b) = refl
plain-others task h t = refl

-- of that of command bytes all but lines are data
others-of-commands : (len : ℕ) (t : Transfer) → one_if (not (carries_data (Commands len) t)) ≡ one_if (is_line t)
others-of-commands len (transfer.Put b end) = refl
others-of-commands len (transfer.Got b end) = refl
others-of-commands len (transfer.Cmd b) = refl
others-of-commands len t = refl

count-same : (one two : Transfer → Bool) → ((t : Transfer) → one_if (one t) ≡ one_if (two t)) → (ts : List Transfer)
    → count_by one ts ≡ count_by two ts
count-same one two each [] = refl
count-same one two each (t ∷ ts) =
    omega (arith, sum_by-cons (λ t. one_if (one t)) t ts, sum_by-cons (λ t. one_if (two t)) t ts, each t, count-same one two each ts)

-- at most nine transfers of a list carry no data
others-few : (task : Task) (ts : List Transfer) (left : Plan) → Fares task ts left → count_by (λ t. not (carries_data task t)) ts ≤ 9
others-few (Commands len) ts left f =
    omega (arith, count-same (λ t. not (carries_data (Commands len) t)) is_line (others-of-commands len) ts, f.lines)
others-few task ts left f =
    omega (arith, count-two (λ t. not (carries_data task t)) is_command is_line (plain-others task refl) ts, f.commands, f.lines)

-- the data of a job that gets bytes are those that it got, and of a write those that it put
data-got : (task : Task) (ts : List Transfer) (left : Plan) → Fares task ts left → GetsBytes task
    → count_by (carries_data task) ts ≡ count_by is_got ts
data-got (Read t max stop) ts left f h = omega (arith, count-two (carries_data (Read t max stop)) is_put is_got (plain-data (Read t max stop) refl) ts, f.puts)
data-got (Stb t) ts left f h = omega (arith, count-two (carries_data (Stb t)) is_put is_got (plain-data (Stb t) refl) ts, f.puts)
data-got task ts left f h = absurd h

-- a job that may get a byte is one that gets bytes
pub gets-bytes : (task : Task) → 1 ≤ most_gets task → GetsBytes task
gets-bytes (Read t max stop) h = tt
gets-bytes (Stb t) h = tt
gets-bytes task h = absurd (omega arith)

data-put : (t : Target) (len : ℕ) (end : Bool) (ts : List Transfer) (left : Plan) → Fares (Write t len end) ts left
    → count_by (carries_data (Write t len end)) ts ≡ count_by is_put ts
data-put t len end ts left f = omega (arith, count-two (carries_data (Write t len end)) is_put is_got (plain-data (Write t len end) refl) ts, f.gets)

-- the room that a job wants is enough for what it may get
room-enough : (task : Task) (room : ℕ) → TurnHasRoom task room → most_gets task ≤ room
room-enough (Read t max stop) room h = h
room-enough (Stb t) room h = h
room-enough task room h = omega arith

-- the bytes that are got are as many as the transfers that get one
pub length-gots : (ts : List Transfer) → length (gots ts) ≡ count_by is_got ts
length-gots [] = refl
length-gots (t ∷ ts) = by t (length-gots ts) ∙ sym (sum_by-cons (λ t. one_if (is_got t)) t ts)
  where
    by : (t : Transfer) → length (gots ts) ≡ count_by is_got ts → length (gots (t ∷ ts)) ≡ one_if (is_got t) + count_by is_got ts
    by (transfer.Got b end) more = omega (arith, more)
    by t more = omega (arith, more)

-- each with its end or without
pub length-bytes_got : (ts : List Transfer) → length (bytes_got ts) ≡ length (gots ts)
length-bytes_got ts = length-map (gots ts) (λ g. g.0)

-- the bytes that two lists got, one after the other
pub bytes_got-append : (xs ys : List Transfer) → bytes_got (xs ++ ys) ≡ bytes_got xs ++ bytes_got ys
bytes_got-append xs ys = ap (map (λ g. g.0)) (filter_map-append got_of xs ys) ∙ map-append (λ g. g.0) (gots xs) (gots ys)

low : (a : ℕ) (small : Bool) → leb a ADDRESS_MAX ≡ small → one_if (not small) ≤ 0 → a ≤ ADDRESS_MAX
low a true e h = leb-true a ADDRESS_MAX e
low a false e h = absurd (omega arith)

-- A place that a list reached: how many data bytes it moved, and how many others it made.
module _ (task : Task) (bytes : List ℕ) (ts : List Transfer) (left : Plan) (place : Place) (plain : IsPlainTask task)
    (reaches : Reaches task bytes ts left place) where
  has : Fares task ts left
  has = fares task bytes ts left place plain reaches

  moved-is : place.moved ≡ count_by (carries_data task) ts
  moved-is = ap (λ (p : Place). p.moved) reaches.at

  step-is : place.step ≡ count_by (λ t. not (carries_data task t)) ts
  step-is = ap (λ (p : Place). p.step) reaches.at

  -- it has moved no more bytes than the list has transfers
  pub moved-short : place.moved ≤ length ts
  moved-short = omega (arith, moved-is, count_by-le-length (carries_data task) ts)

  -- it has made at most 9 other transfers
  pub step-short : place.step ≤ 9
  step-short = omega (arith, step-is, others-few task ts left has)

  -- an own address that is wanted next is at most 30
  pub own-short : (a : ℕ) → next_slot left ≡ Some (This (transfer.Own a)) → a ≤ ADDRESS_MAX
  own-short a h = low a (leb a ADDRESS_MAX) refl (omega (arith, wanted-one is_high false left (This (transfer.Own a)) has.opens h, has.high))

  -- where a byte is got next the job is one that gets bytes, all that it moved were got, and there is room for one more
  pub gets-some : (slot : Option Slot) (t : Transfer) → slot ≡ next_slot left → FitsNext slot t → is_got t ≡ true
      → count_by is_got ts + 1 ≤ most_gets task
  gets-some None t e fits g = absurd fits
  gets-some (Some (This a)) t e fits g =
      omega (arith, wanted-one is_got true left (This a) has.opens (sym e), has.gets, ap (λ t. one_if (is_got t)) fits, ap one_if g)
  gets-some (Some AnyByte) t e fits g = omega (arith, wanted-one is_got true left AnyByte has.opens (sym e), has.gets)

  -- the bytes that a job which gets bytes has moved are those that it got
  pub moved-got : GetsBytes task → place.moved ≡ length (gots ts)
  moved-got h = moved-is ∙ data-got task ts left has h ∙ sym (length-gots ts)

  -- there is room for one more
  pub room-left : (room : ℕ) → TurnHasRoom task room → count_by is_got ts + 1 ≤ most_gets task → place.moved < room
  room-left room h some =
      omega (arith, moved-got (gets-bytes task (omega (arith, some))), length-gots ts, some, room-enough task room h)

-- the bytes that a write has moved are those that it put
pub moved-put : (t : Target) (len : ℕ) (end : Bool) (bytes : List ℕ) (ts : List Transfer) (left : Plan) (place : Place) → IsPlainTask (Write t len end)
    → Reaches (Write t len end) bytes ts left place → place.moved ≡ puts_made ts
moved-put t len end bytes ts left place plain reaches =
    moved-is (Write t len end) bytes ts left place plain reaches
    ∙ data-put t len end ts left (fares (Write t len end) bytes ts left place plain reaches)

-- the data bytes that a place has moved are those of the list, and the reason of a read is that of the list
pub moved-told : (task : Task) (bytes : List ℕ) (ts : List Transfer) (left : Plan) (place : Place) → IsPlainTask task
    → Reaches task bytes ts left place → place.moved ≡ moved_by task ts
moved-told (Write t len end) bytes ts left place plain reaches = moved-put t len end bytes ts left place plain reaches
moved-told (Read t max stop) bytes ts left place plain reaches = moved-got (Read t max stop) bytes ts left place plain reaches tt
moved-told (Stb t) bytes ts left place plain reaches = moved-got (Stb t) bytes ts left place plain reaches tt
moved-told task bytes ts left place plain reaches = moved-is task bytes ts left place plain reaches

-- the reason of a read is that of the list
pub reason-told : (task : Task) (bytes : List ℕ) (ts : List Transfer) (left : Plan) (place : Place) → IsPlainTask task
    → Reaches task bytes ts left place → task_reason task place ≡ reason_by task ts
reason-told (Read t max stop) bytes ts left place plain reaches =
    ap (λ n. reason_of max stop n place.last) (moved-got (Read t max stop) bytes ts left place plain reaches tt)
    ∙ ap (λ last. reason_of max stop (length (gots ts)) last) (ap (λ (p : Place). p.last) reaches.at)
reason-told task bytes ts left place plain reaches = refl
