-- Where a list stands in a plan: among the transfers without data bytes that it begins with, or behind them.
use Rattle.std.proofs.Common.{◌≡◌, ℕ, suc, ◌+◌, ◌-◌, ◌<◌, ◌≤◌, Bool, true, false, not, ◌||◌, ◌==◌, List, [], ◌∷◌, ◌++◌, map, length, Option, Some, None, refl, sym, ap, ◌∙◌, ◌⊎◌, inl, inr, arith}
use Rattle.std.specs.Prelude.{if◌then◌else◌, slice_get}
use Rattle.std.specs.List.{count_by, list_all, cons_option}
use Rattle.std.specs.Option.{option_map, option_map_or}
use Rattle.std.proofs.lemmas.Bool.{true≢false, false≢true, and_parts, not-true, not_from_true, not_from_false, or_from, or_parts}
use Rattle.std.proofs.lemmas.Bool.Decides.{nat_tests}
use Rattle.std.proofs.lemmas.Option.{same_Some}
use Rattle.vx_488.specs.declared.transfers.Transfer.{Transfer}
use Rattle.vx_488.specs.declared.transfers.Transfer.TheVariants.{Cmd, Put, Got, Ren, Atn, Ifc, Own}
use Rattle.vx_plan.specs.declared.tasks.Task.{Task}
use Rattle.vx_plan.specs.Transfers.{same_transfer, got_of, is_got}
use Rattle.vx_plan.specs.Plan.{Slot, This, AnyByte, Reading, Plan, done, is_stop, ends_with, fits, left_after, next_slot}
use Rattle.vx_plan.specs.Results.{gots, last_of}
use Rattle.vx_plan.specs.Places.{carries_data}
use Rattle.vx_plan.proofs.Laws.{same_transfer-is}
use Rattle.vx_plan.proofs.Laws.Walks.{off-stays}
use Rattle.vx_plan.proofs.Laws.Counts.{count-front-yes, count-front-no}

-- how many transfers of a list have no data byte, and how many have one
abbrev pub steps : Task → List Transfer → ℕ
steps task ts = count_by (λ t. not (carries_data task t)) ts

abbrev pub moves : Task → List Transfer → ℕ
moves task ts = count_by (carries_data task) ts

pub steps-data : (task : Task) (t : Transfer) (ts : List Transfer) → carries_data task t ≡ true → steps task (t ∷ ts) ≡ steps task ts
steps-data task t ts h = count-front-no (λ t. not (carries_data task t)) t ts (not_from_true (carries_data task t) h)

pub moves-data : (task : Task) (t : Transfer) (ts : List Transfer) → carries_data task t ≡ true → moves task (t ∷ ts) ≡ suc (moves task ts)
moves-data task t ts h = count-front-yes (carries_data task) t ts h

pub steps-other : (task : Task) (t : Transfer) (ts : List Transfer) → carries_data task t ≡ false → steps task (t ∷ ts) ≡ suc (steps task ts)
steps-other task t ts h = count-front-yes (λ t. not (carries_data task t)) t ts (not_from_false (carries_data task t) h)

pub moves-other : (task : Task) (t : Transfer) (ts : List Transfer) → carries_data task t ≡ false → moves task (t ∷ ts) ≡ moves task ts
moves-other task t ts h = count-front-no (carries_data task) t ts h

-- a byte got is data
pub got-data : (task : Task) (t : Transfer) → is_got t ≡ true → carries_data task t ≡ true
got-data task (Got b end) h = refl
got-data task _ h = absurd (false≢true h)

-- what has no data byte gives none
no-got : (task : Task) (t : Transfer) → carries_data task t ≡ false → got_of t ≡ None
no-got task (Got b end) h = absurd (true≢false h)
no-got task (Cmd b) h = refl
no-got task (Put b end) h = refl
no-got task (Ren on) h = refl
no-got task (Atn on) h = refl
no-got task Ifc h = refl
no-got task (Own a) h = refl

-- ---- in front of the data

abbrev pub all_fixed : Task → List Transfer → Bool
all_fixed task fixed = list_all (λ t. not (carries_data task t)) fixed

-- the list stands among the first transfers
pub record Within (task : Task) (fixed : List Transfer) (ts : List Transfer) (left : Plan) : Type 0 where
  pub at : next_slot left ≡ option_map This (slice_get fixed (steps task ts))
  pub inside : steps task ts < length fixed

-- it made them all, and then some more
pub record Beyond (task : Task) (fixed : List Transfer) (rest : List Slot) (reading : Option Reading) (ts : List Transfer) (left : Plan) : Type 0 where
  pub behind : List Transfer
  pub stepped : steps task ts ≡ length fixed + steps task behind
  pub moved : moves task ts ≡ moves task behind
  pub took : gots ts ≡ gots behind
  pub goes : left_after (Some (record { front = rest; reading = reading })) behind ≡ Some left

-- what is left of a front after a transfer, by whether it fits
abbrev pub front_after : Bool → List Slot → Option Reading → Option Plan
front_after fits slots reading = if fits then Some (record { front = slots; reading = reading }) else None

walk-one : (task : Task) (f : Transfer) (fs : List Transfer) (rest : List Slot) (reading : Option Reading) (t : Transfer) (ts : List Transfer) (left : Plan) (e : Bool)
    → carries_data task f ≡ false → same_transfer f t ≡ e
    → left_after (front_after e (map This fs ++ rest) reading) ts ≡ Some left
    → (left_after (Some (record { front = map This fs ++ rest; reading = reading })) ts ≡ Some left → Within task fs ts left ⊎ Beyond task fs rest reading ts left)
    → Within task (f ∷ fs) (t ∷ ts) left ⊎ Beyond task (f ∷ fs) rest reading (t ∷ ts) left
walk-one task f fs rest reading t ts left true plain e goes more = by (more goes) where
  other : carries_data task t ≡ false
  other = ap (carries_data task) (same_transfer-is f t e) ∙ plain

  none : gots (t ∷ ts) ≡ gots ts
  none = ap (λ g. cons_option g (gots ts)) (no-got task t other)

  by : Within task fs ts left ⊎ Beyond task fs rest reading ts left → Within task (f ∷ fs) (t ∷ ts) left ⊎ Beyond task (f ∷ fs) rest reading (t ∷ ts) left
  by (inl w) = inl (record {
    at = w.at ∙ ap (λ n. option_map This (slice_get (f ∷ fs) n)) (sym (steps-other task t ts other));
    inside = omega (arith, steps-other task t ts other, w.inside);
  })
  by (inr b) = inr (record {
    behind = b.behind;
    stepped = omega (arith, steps-other task t ts other, b.stepped);
    moved = moves-other task t ts other ∙ b.moved;
    took = none ∙ b.took;
    goes = b.goes;
  })
walk-one task f fs rest reading t ts left false plain e goes more = absurd (off-stays ts left goes)

pub walk-front : (task : Task) (fixed : List Transfer) (rest : List Slot) (reading : Option Reading) (ts : List Transfer) (left : Plan) → all_fixed task fixed ≡ true
    → left_after (Some (record { front = map This fixed ++ rest; reading = reading })) ts ≡ Some left
    → Within task fixed ts left ⊎ Beyond task fixed rest reading ts left
walk-front task [] rest reading ts left all goes = inr (record { behind = ts; stepped = omega arith; moved = refl; took = refl; goes = goes })
walk-front task (f ∷ fs) rest reading [] left all goes =
    inl (record { at = ap next_slot (sym (same_Some _ _ goes)); inside = omega arith })
walk-front task (f ∷ fs) rest reading (t ∷ ts) left all goes =
    let parts = and_parts (not (carries_data task f)) (all_fixed task fs) all in
    walk-one task f fs rest reading t ts left (same_transfer f t) (not-true (carries_data task f) parts.0) refl goes
    (walk-front task fs rest reading ts left parts.1)

-- ---- nothing behind them

pub walk-done : (ts : List Transfer) (left : Plan) → left_after (Some done) ts ≡ Some left → (ts ≡ []) × (left ≡ done)
walk-done [] left goes = (refl, sym (same_Some _ _ goes))
walk-done (t ∷ ts) left goes = absurd (off-stays ts left goes)

-- ---- data alone

abbrev pub is_data : Task → Slot → Bool
is_data task (This t) = carries_data task t
is_data task AnyByte = true

pub fits-data : (task : Task) (slot : Slot) (t : Transfer) → is_data task slot ≡ true → fits slot t ≡ true → carries_data task t ≡ true
fits-data task (This a) t carrying h = ap (carries_data task) (same_transfer-is a t h) ∙ carrying
fits-data task AnyByte t carrying h = got-data task t h

-- the list stands at this one of the data
pub record AtData (task : Task) (slots : List Slot) (ts : List Transfer) (left : Plan) : Type 0 where
  pub stepped : steps task ts ≡ 0
  pub at : next_slot left ≡ slice_get slots (moves task ts)

data-one : (task : Task) (slot : Slot) (slots : List Slot) (t : Transfer) (ts : List Transfer) (left : Plan) (e : Bool)
    → is_data task slot ≡ true → fits slot t ≡ e
    → left_after (front_after e slots None) ts ≡ Some left
    → (left_after (Some (record { front = slots; reading = None })) ts ≡ Some left → AtData task slots ts left)
    → AtData task (slot ∷ slots) (t ∷ ts) left
data-one task slot slots t ts left true carrying e goes more =
    let carries = fits-data task slot t carrying e in
    let rest = more goes in
    record {
      stepped = steps-data task t ts carries ∙ rest.stepped;
      at = rest.at ∙ ap (slice_get (slot ∷ slots)) (sym (moves-data task t ts carries));
    }
data-one task slot slots t ts left false carrying e goes more = absurd (off-stays ts left goes)

pub walk-data : (task : Task) (slots : List Slot) (ts : List Transfer) (left : Plan) → list_all (is_data task) slots ≡ true
    → left_after (Some (record { front = slots; reading = None })) ts ≡ Some left → AtData task slots ts left
walk-data task [] [] left all goes = record { stepped = refl; at = ap next_slot (sym (same_Some _ _ goes)) }
walk-data task [] (t ∷ ts) left all goes = absurd (off-stays ts left goes)
walk-data task (slot ∷ slots) [] left all goes = record { stepped = refl; at = ap next_slot (sym (same_Some _ _ goes)) }
walk-data task (slot ∷ slots) (t ∷ ts) left all goes =
    let parts = and_parts (is_data task slot) (list_all (is_data task) slots) all in
    data-one task slot slots t ts left (fits slot t) parts.0 refl goes (walk-data task slots ts left parts.1)

-- ---- a read alone

-- the last byte ended the read, or it was the last that may be
abbrev pub over : Reading → Option (ℕ × Bool) → ℕ → Bool
over r last moved = option_map_or (λ g. g.1 || is_stop r.stop g.0) last false || (moved == r.most)

pub record AtRead (task : Task) (r : Reading) (found : Option (ℕ × Bool)) (ts : List Transfer) (left : Plan) : Type 0 where
  pub stepped : steps task ts ≡ 0
  pub at : next_slot left ≡ (if over r (last_of found (gots ts)) (moves task ts) then None else Some AnyByte)

-- a read goes on behind nothing, or behind a byte that didn't end it
abbrev runs_on : Reading → Option (ℕ × Bool) → Bool
runs_on r found = option_map_or (λ g. g.1 || is_stop r.stop g.0) found false

abbrev pub one_less : Reading → Reading
one_less r = record r { most = r.most - 1 }

abbrev pub byte_after : Bool → Reading → Plan
byte_after ends r = record { front = []; reading = if ends then None else Some (one_less r) }

read-none : (r : Reading) (found : Option (ℕ × Bool)) → 1 ≤ r.most → runs_on r found ≡ false → over r found 0 ≡ false
read-none r found some runs = or_from _ _ runs (grind (arith, nat_tests))

-- one byte less of one byte less
over-less : (r : Reading) (last : Option (ℕ × Bool)) (n m : ℕ) → 1 ≤ r.most → n ≡ suc m → over (one_less r) last m ≡ over r last n
over-less r last n m some e =
    let same : (m == r.most - 1) ≡ (n == r.most) = grind (arith, nat_tests) in
    ap (λ b. runs_on r last || b) same

read-one : (task : Task) (r : Reading) (found : Option (ℕ × Bool)) (b : ℕ) (end : Bool) (ts : List Transfer) (left : Plan) (e : Bool)
    → 1 ≤ r.most → ends_with r b end ≡ e
    → left_after (Some (byte_after e r)) ts ≡ Some left
    → (1 ≤ r.most - 1 → runs_on r (Some (b, end)) ≡ false → left_after (Some (record { front = []; reading = Some (one_less r) })) ts ≡ Some left → AtRead task (one_less r) (Some (b, end)) ts left)
    → AtRead task r found (Got b end ∷ ts) left
read-one task r found b end ts left true some e goes more =
    let none = walk-done ts left goes in
    let one : moves task (Got b end ∷ ts) ≡ 1 = moves-data task (Got b end) ts refl ∙ ap (λ l. suc (moves task l)) none.0 in
    let last : last_of found (gots (Got b end ∷ ts)) ≡ Some (b, end) = ap (λ l. last_of (Some (b, end)) (gots l)) none.0 in
    let is_over : over r (Some (b, end)) 1 ≡ true = ap (λ n. (end || is_stop r.stop b) || n) (turned 1 r.most) ∙ e in
    record {
      stepped = steps-data task (Got b end) ts refl ∙ ap (steps task) none.0;
      at = ap next_slot none.1 ∙ sym (ap (λ o. if o then None else Some AnyByte) (ap (over r (last_of found (gots (Got b end ∷ ts)))) one ∙ ap (λ l. over r l 1) last ∙ is_over));
    } where
      turned : (m n : ℕ) → (m == n) ≡ (n == m)
      turned m n = grind (arith, nat_tests)
read-one task r found b end ts left false some e goes more =
    let parts = or_parts (end || is_stop r.stop b) (r.most == 1) e in
    let high : 1 ≤ r.most - 1 = above r.most some parts.1 in
    let rest = more high parts.0 goes in
    record {
      stepped = steps-data task (Got b end) ts refl ∙ rest.stepped;
      at = rest.at ∙ ap (λ o. if o then None else Some AnyByte)
          (over-less r (last_of (Some (b, end)) (gots ts)) (moves task (Got b end ∷ ts)) (moves task ts) some (moves-data task (Got b end) ts refl));
    } where
      above : (n : ℕ) → 1 ≤ n → (n == 1) ≡ false → 1 ≤ n - 1
      above n some h = grind (arith, nat_tests)

pub walk-read : (task : Task) (r : Reading) (found : Option (ℕ × Bool)) (ts : List Transfer) (left : Plan) → 1 ≤ r.most → runs_on r found ≡ false
    → left_after (Some (record { front = []; reading = Some r })) ts ≡ Some left → AtRead task r found ts left
walk-read task r found [] left some runs goes = record {
  stepped = refl;
  at = ap next_slot (sym (same_Some _ _ goes)) ∙ sym (ap (λ o. if o then None else Some AnyByte) (read-none r found some runs));
}
walk-read task r found (Got b end ∷ ts) left some runs goes =
    read-one task r found b end ts left (ends_with r b end) some refl goes (walk-read task (one_less r) (Some (b, end)) ts left)
walk-read task r found (t ∷ ts) left some runs goes = absurd (off-stays ts left goes)
