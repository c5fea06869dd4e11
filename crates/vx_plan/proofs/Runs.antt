-- Runs of data bytes, and where a turn is behind them.
use Rattle.std.proofs.Common.{◌≡◌, ℕ, zero, suc, ◌+◌, ◌-◌, ◌<◌, ◌≤◌, min, Bool, true, false, not, ◌||◌, ◌==◌, List, [], ◌∷◌, ◌++◌, map, length, drop, Option, Some, None, refl, sym, ap, ◌∙◌, ◌⊎◌, inl, inr, arith, append-nil}
use Rattle.std.specs.Prelude.{if◌then◌else◌, slice_get}
use Rattle.std.specs.List.{list_all, count_by}
use Rattle.std.specs.Option.{option_map}
use Rattle.std.proofs.lemmas.List.{map-append, length-map, length-drop}
use Rattle.std.proofs.lemmas.List.Sums.{sum_by-append}
use Rattle.std.proofs.lemmas.List.Elements.{filter_map-append}
use Rattle.std.proofs.lemmas.Bool.{false≢true, true≢false, and_parts, eqb-false, or_parts}
use Rattle.std.proofs.lemmas.Option.{same_Some}
use Rattle.vx_calls.specs.declared.limits.TheConstants.{READ_MAX}
use Rattle.vx_calls.specs.declared.targets.Target.{Target}
use Rattle.vx_calls.specs.declared.targets.Target.TheVariants.{Interface, Device}
use Rattle.vx_488.specs.declared.transfers.Transfer.{Transfer}
use Rattle.vx_488.specs.declared.transfers.Transfer.TheVariants.{Cmd, Put, Got, Ren, Atn, Ifc, Own}
use Rattle.vx_plan.specs.declared.tasks.Task.{Task}
use Rattle.vx_plan.specs.declared.tasks.Task.TheVariants as task
use Rattle.vx_plan.specs.declared.tasks.Place.{Place}
use Rattle.vx_plan.specs.declared.tasks.Next.{Next}
use Rattle.vx_plan.specs.declared.tasks.Next.TheVariants as next
use Rattle.vx_plan.specs.Transfers.{got_of}
use Rattle.vx_plan.specs.Plan.{Slot, This, Reading, Plan, done, is_stop, ends_with, fits, left_after, next_slot}
use Rattle.vx_plan.specs.Tasks.{puts, just, plan, HasBytes}
use Rattle.vx_plan.specs.Results.{gots, last_of, last_got}
use Rattle.vx_plan.specs.Places.{carries_data, Reaches, IsNextMove}
use Rattle.vx_plan.specs.Runs.{wants_put, wants_get, DataLeft, IsDataLeft}
use Rattle.vx_plan.specs.Moves.{puts_left, gets_left}
use Rattle.vx_plan.specs.Laws.{RunLaw, DataBoundLaw}
use Rattle.vx_plan.proofs.Laws.{left_after-append}
use Rattle.vx_plan.proofs.Laws.Walks.{off-stays}
use Rattle.vx_plan.proofs.Laws.Counts.{length-puts}
use Rattle.vx_plan.proofs.Laws.Turns.{room, room-left, room-plan}
use Rattle.vx_plan.proofs.Fronts.{steps, moves, Within, Beyond, walk-front, walk-done, is_data, fits-data, moves-data, front_after, one_less, byte_after}
use Rattle.vx_plan.proofs.Nexts.{is_line, all_lines, front, lines-fixed, lines-front, moves-of, puts-data, reading_of, reading-some}

-- ---- the place behind a run

last-append : (found : Option (ℕ × Bool)) (xs ys : List (ℕ × Bool)) → last_of found (xs ++ ys) ≡ last_of (last_of found xs) ys
last-append found [] ys = refl
last-append found (x ∷ xs) ys = last-append (Some x) xs ys

pub run-law : RunLaw
run-law task bytes ts run left left' place r goes =
    let step : place.step + count_by (λ t. not (carries_data task t)) run ≡ count_by (λ t. not (carries_data task t)) (ts ++ run) =
    omega (arith, ap (λ (p : Place). p.step) r.at, sum_by-append (λ t. if not (carries_data task t) then 1 else 0) ts run) in
    let moved : place.moved + count_by (carries_data task) run ≡ count_by (carries_data task) (ts ++ run) =
    omega (arith, ap (λ (p : Place). p.moved) r.at, sum_by-append (λ t. if carries_data task t then 1 else 0) ts run) in
    let last : last_of place.last (gots run) ≡ last_got (ts ++ run) =
    ap (λ (p : Place). last_of p.last (gots run)) r.at ∙ sym (last-append None (gots ts) (gots run))
    ∙ ap (last_of None) (sym (filter_map-append got_of ts run)) in
    record {
      sent = r.sent;
      goes = left_after-append (Some (plan task bytes place.polling place.own)) ts run ∙ ap (λ l. left_after l run) r.goes ∙ goes;
      at =
          ap (λ (n : ℕ). record { polling = place.polling; own = place.own; step = n; moved = place.moved + count_by (carries_data task) run; last = last_of place.last (gots run) }) step
          ∙ ap (λ (n : ℕ). record { polling = place.polling; own = place.own; step = count_by (λ t. not (carries_data task t)) (ts ++ run); moved = n; last = last_of place.last (gots run) }) moved
          ∙ ap (λ (l : Option (ℕ × Bool)). record { polling = place.polling; own = place.own; step = count_by (λ t. not (carries_data task t)) (ts ++ run); moved = count_by (carries_data task) (ts ++ run); last = l }) last;
    }

-- ---- what is left of data alone

record LeftOf (task : Task) (slots : List Slot) (ts : List Transfer) (left : Plan) : Type 0 where
  is : left ≡ record { front = drop (moves task ts) slots; reading = None }

left-one : (task : Task) (slot : Slot) (slots : List Slot) (t : Transfer) (ts : List Transfer) (left : Plan) (e : Bool)
    → is_data task slot ≡ true → fits slot t ≡ e → left_after (front_after e slots None) ts ≡ Some left
    → (left_after (Some (record { front = slots; reading = None })) ts ≡ Some left → LeftOf task slots ts left)
    → LeftOf task (slot ∷ slots) (t ∷ ts) left
left-one task slot slots t ts left true carrying e goes more =
    let less = sym (moves-data task t ts (fits-data task slot t carrying e)) in
    record { is = (more goes).is ∙ ap (λ n. record { front = drop n (slot ∷ slots); reading = None }) less }
left-one task slot slots t ts left false carrying e goes more = absurd (off-stays ts left goes)

left-data : (task : Task) (slots : List Slot) (ts : List Transfer) (left : Plan) → list_all (is_data task) slots ≡ true
    → left_after (Some (record { front = slots; reading = None })) ts ≡ Some left → LeftOf task slots ts left
left-data task slots [] left all goes = record { is = sym (same_Some _ _ goes) }
left-data task [] (t ∷ ts) left all goes = absurd (off-stays ts left goes)
left-data task (slot ∷ slots) (t ∷ ts) left all goes =
    let parts = and_parts (is_data task slot) (list_all (is_data task) slots) all in
    left-one task slot slots t ts left (fits slot t) parts.0 refl goes (left-data task slots ts left parts.1)

drop-this : (n : ℕ) (ts : List Transfer) → drop n (map This ts) ≡ map This (drop n ts)
drop-this zero ts = refl
drop-this (suc n) [] = refl
drop-this (suc n) (t ∷ ts) = drop-this n ts

-- the data behind the first of them
pub drop-puts : (end : Bool) (bytes : List ℕ) (n : ℕ) → drop n (puts end bytes) ≡ puts end (drop n bytes)
drop-puts end bytes zero = refl
drop-puts end [] (suc n) = refl
drop-puts end (b ∷ []) (suc zero) = refl
drop-puts end (b ∷ []) (suc (suc n)) = refl
drop-puts end (b ∷ c ∷ bs) (suc n) = drop-puts end (c ∷ bs) n

-- ---- what is left of a read alone

-- it is over, or wants as many fewer as came
abbrev LeftRead : Reading → ℕ → Plan → Type 0
LeftRead r n left = (left ≡ done) ⊎ ((left ≡ record { front = []; reading = Some (record r { most = r.most - n }) }) × (n < r.most))

left-read-one : (task : Task) (r : Reading) (b : ℕ) (end : Bool) (ts : List Transfer) (left : Plan) (e : Bool) → 1 ≤ r.most → ends_with r b end ≡ e
    → left_after (Some (byte_after e r)) ts ≡ Some left
    → (1 ≤ r.most - 1 → left_after (Some (record { front = []; reading = Some (one_less r) })) ts ≡ Some left → LeftRead (one_less r) (moves task ts) left)
    → LeftRead r (moves task (Got b end ∷ ts)) left
left-read-one task r b end ts left true some e goes more = inl (walk-done ts left goes).1
left-read-one task r b end ts left false some e goes more =
    by (more (omega (arith, eqb-false r.most 1 (or_parts (end || is_stop r.stop b) (r.most == 1) e).1)) goes) where
      count : moves task (Got b end ∷ ts) ≡ suc (moves task ts)
      count = moves-data task (Got b end) ts refl

      by : LeftRead (one_less r) (moves task ts) left → LeftRead r (moves task (Got b end ∷ ts)) left
      by (inl over) = inl over
      by (inr on) =
          let same : r.most - 1 - moves task ts ≡ r.most - moves task (Got b end ∷ ts) = omega (arith, count) in
          inr (on.0 ∙ ap (λ n. record { front = []; reading = Some (record r { most = n }) }) same, omega (arith, count, on.1))

left-read : (task : Task) (r : Reading) (ts : List Transfer) (left : Plan) → 1 ≤ r.most
    → left_after (Some (record { front = []; reading = Some r })) ts ≡ Some left → LeftRead r (moves task ts) left
left-read task r [] left some goes = inr (sym (same_Some _ _ goes) ∙ ap (λ n. record { front = []; reading = Some (record r { most = n }) }) (omega arith), omega arith)
left-read task r (Got b end ∷ ts) left some goes = left-read-one task r b end ts left (ends_with r b end) some refl goes (left-read task (one_less r) ts left)
left-read task r (t ∷ ts) left some goes = absurd (off-stays ts left goes)

-- ---- no data byte is wanted in front of the data

wants-line : (t : Transfer) → is_line t ≡ true → wants_put (Some (This t)) ≡ false
wants-line (Put b end) h = absurd (false≢true h)
wants-line (Got b end) h = absurd (false≢true h)
wants-line (Cmd b) h = refl
wants-line (Ren on) h = refl
wants-line (Atn on) h = refl
wants-line Ifc h = refl
wants-line (Own a) h = refl

no-put : (fixed : List Transfer) (k : ℕ) → all_lines fixed ≡ true → wants_put (option_map This (slice_get fixed k)) ≡ false
no-put [] zero h = refl
no-put [] (suc k) h = refl
no-put (t ∷ ts) zero h = wants-line t (and_parts (is_line t) (all_lines ts) h).0
no-put (t ∷ ts) (suc k) h = no-put ts k (and_parts (is_line t) (all_lines ts) h).1

no-get : (at : Option Transfer) → wants_get (option_map This at) ≡ false
no-get None = refl
no-get (Some t) = refl

-- ---- the data of a write

write-by : (task : Task) (fixed : List Transfer) (end : Bool) (bytes : List ℕ) (ts : List Transfer) (left : Plan) (moved : ℕ) → all_lines fixed ≡ true
    → moved ≡ moves task ts → wants_put (next_slot left) ≡ true
    → Within task fixed ts left ⊎ Beyond task fixed (map This (puts end bytes)) None ts left → left ≡ just (puts end (drop moved bytes))
write-by task fixed end bytes ts left moved lines count wants (inl w) =
    absurd (true≢false (sym wants ∙ ap wants_put w.at ∙ no-put fixed (steps task ts) lines))
write-by task fixed end bytes ts left moved lines count wants (inr b) =
    (left-data task (map This (puts end bytes)) b.behind left (puts-data task end bytes) b.goes).is
    ∙ ap (λ n. record { front = drop n (map This (puts end bytes)); reading = None }) (sym (count ∙ b.moved))
    ∙ ap (λ slots. record { front = slots; reading = None }) (drop-this moved (puts end bytes) ∙ ap (map This) (drop-puts end bytes moved))

-- what is left of a write of which a put is wanted next
write-shape : (t : Target) (len : ℕ) (end : Bool) (bytes : List ℕ) (ts : List Transfer) (left : Plan) (place : Place)
    → Reaches (task.Write t len end) bytes ts left place → wants_put (next_slot left) ≡ true → left ≡ just (puts end (drop place.moved bytes))
write-shape Interface len end bytes ts left place r wants =
    let task = task.Write Interface len end in
    (left-data task (map This (puts end bytes)) ts left (puts-data task end bytes) r.goes).is
    ∙ ap (λ n. record { front = drop n (map This (puts end bytes)); reading = None }) (sym (moves-of r))
    ∙ ap (λ slots. record { front = slots; reading = None }) (drop-this place.moved (puts end bytes) ∙ ap (map This) (drop-puts end bytes place.moved))
write-shape (Device p s) len end bytes ts left place r wants =
    let task = task.Write (Device p s) len end in
    let fixed = front place.polling (0x3F ∷ (0x40 + place.own) ∷ []) (0x20 + p) s in
    let lines = lines-front place.polling (0x3F ∷ (0x40 + place.own) ∷ []) (0x20 + p) s in
    let goes : left_after (Some (record { front = map This fixed ++ map This (puts end bytes); reading = None })) ts ≡ Some left =
    ap (λ l. left_after (Some (record { front = l; reading = None })) ts) (sym (map-append This fixed (puts end bytes))) ∙ r.goes in
    write-by task fixed end bytes ts left place.moved lines (moves-of r) wants
    (walk-front task fixed (map This (puts end bytes)) None ts left (lines-fixed task fixed refl lines) goes)

more-left : (end : Bool) (bytes : List ℕ) → wants_put (next_slot (just (puts end bytes))) ≡ true → 1 ≤ length bytes
more-left end [] h = absurd (false≢true h)
more-left end (b ∷ bs) h = omega arith

-- the bytes that a write has left where its next move is a put
write-left : (t : Target) (len : ℕ) (end : Bool) (place : Place) (e : Bool) → IsNextMove (task.Write t len end) place (next.Put e)
    → IsDataLeft (task.Write t len end) place (len - place.moved)
write-left t len end place e is bytes ts left r =
    let wants : wants_put (next_slot left) ≡ true = ap wants_put (sym (is bytes ts left r)) in
    let shape = write-shape t len end bytes ts left place r wants in
    let more = more-left end (drop place.moved bytes) (ap (λ l. wants_put (next_slot l)) (sym shape) ∙ wants) in
    let inside : place.moved < len = omega (arith, length-drop place.moved bytes, r.sent, more) in
    (λ none. absurd (omega arith), λ some. (shape, omega arith))

pub data-write : (t : Target) (len : ℕ) (end : Bool) (place : Place) (move : Next) → IsNextMove (task.Write t len end) place move
    → IsDataLeft (task.Write t len end) place (puts_left len place.moved move)
data-write t len end place (next.Put e) is = write-left t len end place e is
data-write t len end place (next.Command b) is = λ bytes ts left r. (λ none. ap wants_put (sym (is bytes ts left r)), λ some. absurd (some refl))
data-write t len end place next.CommandByte is = λ bytes ts left r. (λ none. ap wants_put (sym (is bytes ts left r)), λ some. absurd (some refl))
data-write t len end place next.Get is = λ bytes ts left r. (λ none. ap wants_put (sym (is bytes ts left r)), λ some. absurd (some refl))
data-write t len end place (next.Ren on) is = λ bytes ts left r. (λ none. ap wants_put (sym (is bytes ts left r)), λ some. absurd (some refl))
data-write t len end place (next.Atn on) is = λ bytes ts left r. (λ none. ap wants_put (sym (is bytes ts left r)), λ some. absurd (some refl))
data-write t len end place next.Ifc is = λ bytes ts left r. (λ none. ap wants_put (sym (is bytes ts left r)), λ some. absurd (some refl))
data-write t len end place (next.Own a) is = λ bytes ts left r. (λ none. ap wants_put (sym (is bytes ts left r)), λ some. absurd (some refl))
data-write t len end place next.Finished is = λ bytes ts left r. (λ none. ap wants_put (sym (is bytes ts left r)), λ some. absurd (some refl))

-- ---- the bytes of a read

-- what is left of a read of which a byte is wanted next
abbrev ReadShape : ℕ → Option ℕ → ℕ → Plan → Type 0
ReadShape max stop moved left =
    (left ≡ record { front = []; reading = Some (record { most = min max READ_MAX - moved; stop = stop }) }) × (moved < min max READ_MAX)

read-on : (max : ℕ) (stop : Option ℕ) (n moved : ℕ) (left : Plan) → moved ≡ n → wants_get (next_slot left) ≡ true → LeftRead (reading_of max stop) n left
    → ReadShape max stop moved left
read-on max stop n moved left e wants (inl over) = absurd (true≢false (sym wants ∙ ap (λ l. wants_get (next_slot l)) over))
read-on max stop n moved left e wants (inr on) =
    (on.0 ∙ ap (λ k. record { front = []; reading = Some (record { most = min max READ_MAX - k; stop = stop }) }) (sym e), omega (arith, e, on.1))

read-none-left : (ts : List Transfer) (left : Plan) → left_after (Some done) ts ≡ Some left → wants_get (next_slot left) ≡ true → ⊥
read-none-left ts left goes wants = true≢false (sym wants ∙ ap (λ l. wants_get (next_slot l)) (walk-done ts left goes).1)

read-by : (task : Task) (fixed : List Transfer) (max : ℕ) (stop : Option ℕ) (ts : List Transfer) (left : Plan) (moved : ℕ) → 1 ≤ min max READ_MAX
    → moved ≡ moves task ts → wants_get (next_slot left) ≡ true
    → Within task fixed ts left ⊎ Beyond task fixed [] (Some (reading_of max stop)) ts left → ReadShape max stop moved left
read-by task fixed max stop ts left moved some count wants (inl w) =
    absurd (true≢false (sym wants ∙ ap wants_get w.at ∙ no-get (slice_get fixed (steps task ts))))
read-by task fixed max stop ts left moved some count wants (inr b) =
    read-on max stop (moves task b.behind) moved left (count ∙ b.moved) wants (left-read task (reading_of max stop) b.behind left some b.goes)

read-shape : (t : Target) (max : ℕ) (stop : Option ℕ) (bytes : List ℕ) (ts : List Transfer) (left : Plan) (place : Place)
    → Reaches (task.Read t max stop) bytes ts left place → wants_get (next_slot left) ≡ true → ReadShape max stop place.moved left
read-shape Interface zero stop bytes ts left place r wants = absurd (read-none-left ts left r.goes wants)
read-shape (Device p s) zero stop bytes ts left place r wants = absurd (read-none-left ts left r.goes wants)
read-shape Interface (suc m) stop bytes ts left place r wants =
    let task = task.Read Interface (suc m) stop in
    let goes = ap (λ p. left_after (Some p) ts) (sym (reading-some [] (suc m) stop (λ e. cc))) ∙ r.goes in
    read-on (suc m) stop (moves task ts) place.moved left (moves-of r) wants (left-read task (reading_of (suc m) stop) ts left (omega arith) goes)
read-shape (Device p s) (suc m) stop bytes ts left place r wants =
    let task = task.Read (Device p s) (suc m) stop in
    let fixed = front place.polling (0x3F ∷ (0x20 + place.own) ∷ []) (0x40 + p) s in
    let goes : left_after (Some (record { front = map This fixed ++ []; reading = Some (reading_of (suc m) stop) })) ts ≡ Some left =
    ap (λ l. left_after (Some (record { front = l; reading = Some (reading_of (suc m) stop) })) ts) (append-nil (map This fixed))
    ∙ ap (λ p. left_after (Some p) ts) (sym (reading-some fixed (suc m) stop (λ e. cc))) ∙ r.goes in
    read-by task fixed (suc m) stop ts left place.moved (omega arith) (moves-of r) wants
    (walk-front task fixed [] (Some (reading_of (suc m) stop)) ts left (lines-fixed task fixed refl (lines-front place.polling (0x3F ∷ (0x20 + place.own) ∷ []) (0x40 + p) s)) goes)

-- the bytes that a read may still get where its next move is a get
read-left : (t : Target) (max : ℕ) (stop : Option ℕ) (place : Place) → IsNextMove (task.Read t max stop) place next.Get
    → IsDataLeft (task.Read t max stop) place (min max READ_MAX - place.moved)
read-left t max stop place is bytes ts left r =
    let wants : wants_get (next_slot left) ≡ true = ap wants_get (sym (is bytes ts left r)) in
    let shape = read-shape t max stop bytes ts left place r wants in
    (λ none. absurd (omega (arith, shape.1)), λ some. (shape.0, omega (arith, shape.1)))

pub data-read : (t : Target) (max : ℕ) (stop : Option ℕ) (place : Place) (move : Next) → IsNextMove (task.Read t max stop) place move
    → IsDataLeft (task.Read t max stop) place (gets_left max place.moved move)
data-read t max stop place next.Get is = read-left t max stop place is
data-read t max stop place (next.Put e) is = λ bytes ts left r. (λ none. ap wants_get (sym (is bytes ts left r)), λ some. absurd (some refl))
data-read t max stop place (next.Command b) is = λ bytes ts left r. (λ none. ap wants_get (sym (is bytes ts left r)), λ some. absurd (some refl))
data-read t max stop place next.CommandByte is = λ bytes ts left r. (λ none. ap wants_get (sym (is bytes ts left r)), λ some. absurd (some refl))
data-read t max stop place (next.Ren on) is = λ bytes ts left r. (λ none. ap wants_get (sym (is bytes ts left r)), λ some. absurd (some refl))
data-read t max stop place (next.Atn on) is = λ bytes ts left r. (λ none. ap wants_get (sym (is bytes ts left r)), λ some. absurd (some refl))
data-read t max stop place next.Ifc is = λ bytes ts left r. (λ none. ap wants_get (sym (is bytes ts left r)), λ some. absurd (some refl))
data-read t max stop place (next.Own a) is = λ bytes ts left r. (λ none. ap wants_get (sym (is bytes ts left r)), λ some. absurd (some refl))
data-read t max stop place next.Finished is = λ bytes ts left r. (λ none. ap wants_get (sym (is bytes ts left r)), λ some. absurd (some refl))

-- ---- how many there are

-- the data that come in a row are among what is left
data-room : (task : Task) (bytes : List ℕ) (place : Place) (left : Plan) (n : ℕ) → HasBytes task bytes → DataLeft task bytes place.moved left n → n ≤ room left
data-room task bytes place left zero has d = omega arith
data-room (task.Write t len end) bytes place left (suc n) has d =
    let shape = d.1 (λ e. cc) in
    omega (arith, ap room shape.0, length-map (puts end (drop place.moved bytes)) This, length-puts end (drop place.moved bytes), length-drop place.moved bytes, shape.1, has)
data-room (task.Read t max stop) bytes place left (suc n) has d = omega (arith, ap room (d.1 (λ e. cc)).0)
data-room (task.Stb t) bytes place left (suc n) has d = cc
data-room (task.Clear t) bytes place left (suc n) has d = cc
data-room (task.Trigger t) bytes place left (suc n) has d = cc
data-room (task.Remote t) bytes place left (suc n) has d = cc
data-room (task.Local t) bytes place left (suc n) has d = cc
data-room (task.Commands len) bytes place left (suc n) has d = cc
data-room (task.Status selector) bytes place left (suc n) has d = cc
data-room (task.Atn on) bytes place left (suc n) has d = cc
data-room (task.Ren on) bytes place left (suc n) has d = cc
data-room (task.Pass p) bytes place left (suc n) has d = cc
data-room (task.Own p) bytes place left (suc n) has d = cc
data-room task.Ifc bytes place left (suc n) has d = cc

pub data_bound-law : DataBoundLaw
data_bound-law task bytes ts left place n short r d =
    let first = room-plan task bytes place.polling place.own short in
    omega (arith, first.1, (room-left (plan task bytes place.polling place.own) ts left first.0 r.goes).1, data-room task bytes place left n r.sent d)
