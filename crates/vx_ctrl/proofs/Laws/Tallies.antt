-- How many transfers of a kind a plan may still want: a list that goes along the plan uses them up.
use Rattle.std.proofs.Common.{◌≡◌, ◌≢◌, ◌||◌, ℕ, ◌+◌, ◌-◌, ◌≤◌, Bool, true, false, cond, eqb, List, [], ◌∷◌, count_by, Option, Some, None, refl, ap, subst, arith}
use Rattle.std.proofs.lemmas.Bool.{eqb-false, or_parts, false≢true}
use Rattle.std.proofs.lemmas.List.Sums.{sum_by-cons}
use Rattle.vx_488.specs.declared.transfers.Transfer.{Transfer}
use Rattle.vx_488.specs.declared.transfers.Transfer.TheVariants.{Got}
use Rattle.vx_plan.specs.Plan.{Slot, This, AnyByte, Reading, Plan, is_stop, fits, ends_with, reading_left, front_left, left_after_one, left_after}
use Rattle.vx_plan.proofs.Laws.{left_after-none, same_transfer-is}

-- a slot is of a kind of transfers; of the bytes that are got all are, or none
abbrev pub is_slot_of : (Transfer → Bool) → Bool → Slot → Bool
is_slot_of kind gets (This t) = kind t
is_slot_of kind gets AnyByte = gets

-- one where the test passes
abbrev pub one_if : Bool → ℕ
one_if b = cond b 1 0

-- the slots of a kind
abbrev pub slots_of : (Transfer → Bool) → Bool → List Slot → ℕ
slots_of kind gets [] = 0
slots_of kind gets (slot ∷ slots) = one_if (is_slot_of kind gets slot) + slots_of kind gets slots

-- the most bytes that are still to be got, where those are of the kind
abbrev pub gets_of : Bool → Option Reading → ℕ
gets_of gets None = 0
gets_of gets (Some r) = cond gets r.most 0

-- the most transfers of a kind that a plan may want
abbrev pub most_of : (Transfer → Bool) → Bool → Plan → ℕ
most_of kind gets p = slots_of kind gets p.front + gets_of gets p.reading

-- a read that isn't over wants a byte
abbrev pub IsOpen : Option Reading → Type 0
IsOpen None = Unit {0}
IsOpen (Some r) = 1 ≤ r.most

-- all bytes that are got are of a kind, or none is
abbrev pub Uniform : (Transfer → Bool) → Bool → Type 0
Uniform kind gets = (b : ℕ) (end : Bool) → kind (Got b end) ≡ gets

-- a transfer is of a kind exactly where the slot that it fits is
fits-kind : (kind : Transfer → Bool) (gets : Bool) → Uniform kind gets → (slot : Slot) (t : Transfer) → fits slot t ≡ true
    → kind t ≡ is_slot_of kind gets slot
fits-kind kind gets u (This a) t h = ap kind (same_transfer-is a t h)
fits-kind kind gets u AnyByte (Got b end) h = u b end
fits-kind kind gets u AnyByte t h = absurd (false≢true h)

-- a transfer that goes along a plan is one of those that it may want
record Uses (kind : Transfer → Bool) (gets : Bool) (t : Transfer) (p left : Plan) : Type 0 where
  used : one_if (kind t) + most_of kind gets left ≤ most_of kind gets p
  opens : IsOpen left.reading

uses-slot : (kind : Transfer → Bool) (gets : Bool) → Uniform kind gets
    → (slot : Slot) (slots : List Slot) (reading : Option Reading) (t : Transfer) (left : Plan) → IsOpen reading
    → (fit : Bool) → fits slot t ≡ fit → cond fit (Some (record { front = slots; reading = reading })) None ≡ Some left
    → Uses kind gets t (record { front = slot ∷ slots; reading = reading }) left
uses-slot kind gets u slot slots reading t left opens true fit h =
    let rest : Plan = record { front = slots; reading = reading } in
    let same : rest ≡ left = cc in
    let P : Plan → Type 0 = λ left. Uses kind gets t (record { front = slot ∷ slots; reading = reading }) left in
    subst P same (record { used = omega (arith, ap one_if (fits-kind kind gets u slot t fit)); opens = opens })
uses-slot kind gets u slot slots reading t left opens false fit h = cc

-- what a byte leaves of a read
gets-left : (gets : Bool) (r : Reading) (b : ℕ) (end last : Bool) → ends_with r b end ≡ last → 1 ≤ r.most
    → (one_if gets + gets_of gets (cond last None (Some (record r { most = r.most - 1 }))) ≤ cond gets r.most 0)
gets-left true r b end true e h = omega arith
gets-left true r b end false e h = omega arith
gets-left false r b end true e h = omega arith
gets-left false r b end false e h = omega arith

-- a read that doesn't end with a byte wants more than one
more_wanted : (r : Reading) (b : ℕ) (end : Bool) → ends_with r b end ≡ false → r.most ≢ 1
more_wanted r b end e = eqb-false r.most 1 (or_parts (end || is_stop r.stop b) (eqb r.most 1) e).1

uses-read : (kind : Transfer → Bool) (gets : Bool) → Uniform kind gets → (reading : Option Reading) (t : Transfer) (left : Plan)
    → IsOpen reading → reading_left reading t ≡ Some left → Uses kind gets t (record { front = []; reading = reading }) left
uses-read kind gets u (Some r) (Got b end) left opens h = by (ends_with r b end) refl h
  where
    by : (last : Bool) → ends_with r b end ≡ last
        → Some (record { front = []; reading = cond last None (Some (record r { most = r.most - 1 })) }) ≡ Some left
        → Uses kind gets (Got b end) (record { front = []; reading = Some r }) left
    by true e h =
        let rest : Plan = record { front = []; reading = None } in
        let same : rest ≡ left = cc in
        let P : Plan → Type 0 = λ left. Uses kind gets (Got b end) (record { front = []; reading = Some r }) left in
        subst P same (record { used = omega (arith, ap one_if (u b end), gets-left gets r b end true e opens); opens = tt })
    by false e h =
        let rest : Plan = record { front = []; reading = Some (record r { most = r.most - 1 }) } in
        let same : rest ≡ left = cc in
        let P : Plan → Type 0 = λ left. Uses kind gets (Got b end) (record { front = []; reading = Some r }) left in
        subst P same (record { used = omega (arith, ap one_if (u b end), gets-left gets r b end false e opens); opens = omega (arith, more_wanted r b end e) })
uses-read kind gets u (Some r) t left opens h = cc
uses-read kind gets u None t left opens h = cc

uses-one : (kind : Transfer → Bool) (gets : Bool) → Uniform kind gets → (slots : List Slot) (reading : Option Reading) (t : Transfer) (left : Plan)
    → IsOpen reading → front_left slots reading t ≡ Some left → Uses kind gets t (record { front = slots; reading = reading }) left
uses-one kind gets u [] reading t left opens h = uses-read kind gets u reading t left opens h
uses-one kind gets u (slot ∷ slots) reading t left opens h = uses-slot kind gets u slot slots reading t left opens (fits slot t) refl h

-- a list that goes along a plan has no more of a kind than the plan may want
pub record Along (kind : Transfer → Bool) (gets : Bool) (ts : List Transfer) (p left : Plan) : Type 0 where
  pub used : count_by kind ts + most_of kind gets left ≤ most_of kind gets p
  pub opens : IsOpen left.reading

-- so does each list that the plan allows
pub along : (kind : Transfer → Bool) (gets : Bool) → Uniform kind gets → (ts : List Transfer) (p left : Plan) → IsOpen p.reading
    → left_after (Some p) ts ≡ Some left → Along kind gets ts p left
along kind gets u [] p left opens h =
    let same : p ≡ left = cc in
    let P : Plan → Type 0 = λ left. Along kind gets [] p left in
    subst P same (record { used = omega arith; opens = opens })
along kind gets u (t ∷ ts) p left opens h = by (left_after_one p t) refl h (λ next o e. along kind gets u ts next left o e)
  where
    by : (next : Option Plan) → left_after_one p t ≡ next → left_after next ts ≡ Some left
        → ((next : Plan) → IsOpen next.reading → left_after (Some next) ts ≡ Some left → Along kind gets ts next left)
        → Along kind gets (t ∷ ts) p left
    by None e h rest = let none = left_after-none ts in cc
    by (Some next) e h rest =
        let one = uses-one kind gets u p.front p.reading t next opens e in
        let more = rest next one.opens h in
        record { used = omega (arith, sum_by-cons (λ x. one_if (kind x)) t ts, one.used, more.used); opens = more.opens }
