-- Where a list stands in a plan, by what is left of the plan after a front of the list.
use Rattle.std.proofs.Common.{◌≡◌, ◌<◌, ℕ, ◌+◌, true, false, cond, List, [], ◌∷◌, Option, Some, None, length, take, drop, get_or, refl, sym, ap, ◌∙◌}
use Rattle.std.proofs.lemmas.Bool.{true≢false}
use Rattle.std.proofs.lemmas.List.{take-append-drop, drop_more}
use Rattle.vx_488.specs.declared.transfers.Transfer.{Transfer}
use Rattle.vx_488.specs.declared.transfers.Transfer.TheVariants as transfer
use Rattle.vx_plan.specs.declared.tasks.Next.{Next}
use Rattle.vx_plan.specs.declared.tasks.Next.TheVariants as next
use Rattle.vx_plan.specs.Plan.{Slot, AnyByte, Reading, Plan, Whole, Part, Off, fits, reading_left, front_left, left_after_one, left_after, stand_of, stand, next_slot}
use Rattle.vx_plan.specs.Places.{slot_wanted}
use Rattle.vx_plan.specs.Laws.{FitsNext}
use Rattle.vx_plan.proofs.Laws.{left_after-none, left_after-append, Fits-from_fits}
use Rattle.vx_model.specs.Stepping.{fits_next}

-- a transfer that fits is what is wanted next
pub fits_wanted : (o : Option Slot) (t : Transfer) → fits_next o t ≡ true → FitsNext o t
fits_wanted None t h = absurd (true≢false (sym h))
fits_wanted (Some slot) t h = Fits-from_fits slot t h

-- nothing is left after a transfer that isn't
read_off : (r : Reading) (t : Transfer) → fits AnyByte t ≡ false → reading_left (Some r) t ≡ None
read_off r (transfer.Got b end) h = absurd (true≢false h)
read_off r (transfer.Cmd b) h = refl
read_off r (transfer.Put b end) h = refl
read_off r (transfer.Ren on) h = refl
read_off r (transfer.Atn on) h = refl
read_off r transfer.Ifc h = refl
read_off r (transfer.Own a) h = refl

-- so is it of a plan with transfers in front
front_off : (front : List Slot) (reading : Option Reading) (t : Transfer) → fits_next (next_slot (record { front = front; reading = reading })) t ≡ false → front_left front reading t ≡ None
front_off [] None t h = refl
front_off [] (Some r) t h = read_off r t h
front_off (slot ∷ slots) reading t h = ap (λ b. cond b (Some (let p : Plan = record { front = slots; reading = reading } in p)) None) h

-- and of each plan
pub left_off : (left : Plan) (t : Transfer) → fits_next (next_slot left) t ≡ false → left_after_one left t ≡ None
left_off left t h = front_off left.front left.reading t h

-- what is left of a plan after all of a list, by what is left after a front of it
split_left : (p left : Plan) (ts : List Transfer) (i : ℕ) → left_after (Some p) (take i ts) ≡ Some left → left_after (Some p) ts ≡ left_after (Some left) (drop i ts)
split_left p left ts i goes =
    ap (left_after (Some p)) (sym (take-append-drop i ts)) ∙ left_after-append (Some p) (take i ts) (drop i ts) ∙ ap (λ o. left_after o (drop i ts)) goes

-- a list leaves its plan with a transfer that doesn't fit
pub off_here : (p left : Plan) (ts : List Transfer) (i : ℕ) (d : Transfer) → left_after (Some p) (take i ts) ≡ Some left → i < length ts
    → fits_next (next_slot left) (get_or ts i d) ≡ false → stand p ts ≡ Off
off_here p left ts i d goes inside off =
    ap stand_of (split_left p left ts i goes ∙ ap (left_after (Some left)) (drop_more ts i d inside)
    ∙ ap (λ o. left_after o (drop (i + 1) ts)) (left_off left (get_or ts i d) off) ∙ left_after-none (drop (i + 1) ts))

-- at its end it is whole where nothing more is wanted, and else a part
stands_whole : (front : List Slot) (reading : Option Reading) → next_slot (record { front = front; reading = reading }) ≡ None
    → stand_of (Some (record { front = front; reading = reading })) ≡ Whole
stands_whole [] None h = refl
stands_whole [] (Some r) h = cc
stands_whole (slot ∷ slots) reading h = cc

-- it is a part where more is wanted
stands_part : (front : List Slot) (reading : Option Reading) → (next_slot (record { front = front; reading = reading }) ≡ None → ⊥)
    → stand_of (Some (record { front = front; reading = reading })) ≡ Part
stands_part [] None h = absurd (h refl)
stands_part [] (Some r) h = refl
stands_part (slot ∷ slots) reading h = refl

-- a list after which nothing is wanted is whole
pub whole_here : (p left : Plan) (ts : List Transfer) → left_after (Some p) ts ≡ Some left → next_slot left ≡ None → stand p ts ≡ Whole
whole_here p left ts goes none = ap stand_of goes ∙ stands_whole left.front left.reading none

-- and one after which something is wanted is a part
pub part_here : (p left : Plan) (ts : List Transfer) → left_after (Some p) ts ≡ Some left → (next_slot left ≡ None → ⊥) → stand p ts ≡ Part
part_here p left ts goes some = ap stand_of goes ∙ stands_part left.front left.reading some

-- only where a job is done nothing is wanted
pub wants_some : (move : Next) (bytes : List ℕ) (moved : ℕ) → (move ≡ next.Finished → ⊥) → slot_wanted move bytes moved ≡ None → ⊥
wants_some (next.Command b) bytes moved h e = cc
wants_some next.CommandByte bytes moved h e = cc
wants_some (next.Put end) bytes moved h e = cc
wants_some next.Get bytes moved h e = cc
wants_some (next.Ren on) bytes moved h e = cc
wants_some (next.Atn on) bytes moved h e = cc
wants_some next.Ifc bytes moved h e = cc
wants_some (next.Own a) bytes moved h e = cc
wants_some next.Finished bytes moved h e = h refl
