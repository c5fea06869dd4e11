-- A list stands in a plan where the definitions by whole lists say.
use Rattle.std.proofs.Common.{◌≡◌, ◌≢◌, ℕ, zero, suc, ◌+◌, ◌-◌, ◌≤◌, Bool, true, false, ◌||◌, List, [], ◌∷◌, ◌++◌, map, length, Option, Some, None, refl, sym, ap, subst, ◌∙◌, ◌⊎◌, inl, inr, arith}
use Rattle.std.specs.Prelude.{if◌then◌else◌, slice_get, ◌==◌}
use Rattle.std.proofs.lemmas.Bool.{true≢false, cases_Bool, eqb-true, eqb-false, or_cases, or_parts, true_from_ne_false}
use Rattle.std.proofs.lemmas.Option.{none-some, same_Some}
use Rattle.vx_488.specs.declared.transfers.Transfer.{Transfer}
use Rattle.vx_488.specs.declared.transfers.Transfer.TheVariants.{Got}
use Rattle.vx_plan.specs.Plan.{Slot, This, AnyByte, Reading, Plan, done, is_stop, ends_with, fits, left_after_one, left_after, Whole, Part, Off, stand_of, stand, next_slot}
use Rattle.vx_plan.specs.Whole.{Byte, got, Fits, Fill, GoesOn, EndsRead, ReadsWhole, IsWhole, IsPart}
use Rattle.vx_plan.specs.Laws.{WholeLaw, PartLaw, PrefixFreeLaw, FitsNext, GoesOnLaw}
use Rattle.vx_plan.proofs.Laws.Parts.{left_after-none, left_after-append}
use Rattle.vx_plan.proofs.Laws.Fitting.{same_transfer-refl, Fits-from_fits, fits-from_Fits}

-- ---- lists that leave the plan, and one list after another

-- a list that has left the plan doesn't come back
pub off-stays : (ts : List Transfer) (left : Plan) → left_after None ts ≡ Some left → ⊥
off-stays ts left h = none-some left (sym (left_after-none ts) ∙ h)

-- nothing fits behind a whole list
done-one : (t : Transfer) → left_after_one done t ≡ None
done-one t = refl

done-more : (t : Transfer) (ts : List Transfer) → left_after (Some done) (t ∷ ts) ≡ None
done-more t ts = left_after-none ts

done-whole : (ts : List Transfer) → stand done ts ≡ Whole → ts ≡ []
done-whole [] h = refl
done-whole (t ∷ ts) h = let off : Off ≡ Whole = ap stand_of (sym (done-more t ts)) ∙ h in cc

off-whole : (ts : List Transfer) → stand_of (left_after None ts) ≡ Whole → ⊥
off-whole ts h = let off : Off ≡ Whole = ap stand_of (sym (left_after-none ts)) ∙ h in cc

-- ---- a read

-- the read that is left after a byte
abbrev one_less : Reading → Reading
one_less r = record r { most = r.most - 1 }

-- a byte with which the read doesn't end
goes_on-from : (r : Reading) (b : Byte) → ends_with r b.value b.end ≡ false → GoesOn r 1 b
goes_on-from r b h =
    let last = or_parts (b.end || is_stop r.stop b.value) (r.most == 1) h in
    let two = or_parts b.end (is_stop r.stop b.value) last.0 in
    record { no_end = two.0; no_stop = two.1; not_last = λ e. eqb-false r.most 1 last.1 (sym e) }

goes_on-ends : (r : Reading) (b : Byte) → GoesOn r 1 b → ends_with r b.value b.end ≡ false
goes_on-ends r b g = by (cases_Bool (ends_with r b.value b.end)) where
  last : (b.end || is_stop r.stop b.value ≡ true) ⊎ ((r.most == 1) ≡ true) → ⊥
  last (inr e) = g.not_last (sym (eqb-true r.most 1 e))
  last (inl e) = early (or_cases b.end (is_stop r.stop b.value) e) where
    early : (b.end ≡ true) ⊎ (is_stop r.stop b.value ≡ true) → ⊥
    early (inl e) = true≢false (sym e ∙ g.no_end)
    early (inr e) = true≢false (sym e ∙ g.no_stop)

  by : (ends_with r b.value b.end ≡ true) ⊎ (ends_with r b.value b.end ≡ false) → ends_with r b.value b.end ≡ false
  by (inr e) = e
  by (inl e) = absurd (last (or_cases (b.end || is_stop r.stop b.value) (r.most == 1) e))

-- a count of bytes with the first one, and without
goes_on-up : (r : Reading) (m n : ℕ) (b : Byte) → m ≡ n + 1 → 1 ≤ n → GoesOn (one_less r) n b → GoesOn r m b
goes_on-up r m n b e some g = record { no_end = g.no_end; no_stop = g.no_stop; not_last = λ last. g.not_last (omega arith) }

goes_on-down : (r : Reading) (m n : ℕ) (b : Byte) → m ≡ n + 1 → 1 ≤ n → GoesOn r m b → GoesOn (one_less r) n b
goes_on-down r m n b e some g = record { no_end = g.no_end; no_stop = g.no_stop; not_last = λ last. g.not_last (omega arith) }

-- a read that goes on after its first byte ends as the rest of it ends
ends-up : (r : Reading) (b : Byte) (before : List Byte) (last : Byte) → GoesOn r 1 b → EndsRead (one_less r) before last → EndsRead r (b ∷ before) last
ends-up r b before last first rest = record { earlier = earlier; ends = ends } where
  earlier : (k : ℕ) (c : Byte) → slice_get (b ∷ before) k ≡ Some c → GoesOn r (k + 1) c
  earlier zero c e = subst (λ c. GoesOn r 1 c) (same_Some b c e) first
  earlier (suc k) c e = goes_on-up r (suc k + 1) (k + 1) c (omega arith) (omega arith) (rest.earlier k c e)

  ends : GoesOn r (length (b ∷ before) + 1) last → ⊥
  ends g = rest.ends (goes_on-down r (length (b ∷ before) + 1) (length before + 1) last (omega arith) (omega arith) g)

ends-down : (r : Reading) (b : Byte) (before : List Byte) (last : Byte) → EndsRead r (b ∷ before) last → EndsRead (one_less r) before last
ends-down r b before last whole = record { earlier = earlier; ends = ends } where
  earlier : (k : ℕ) (c : Byte) → slice_get before k ≡ Some c → GoesOn (one_less r) (k + 1) c
  earlier k c e = goes_on-down r (suc k + 1) (k + 1) c (omega arith) (omega arith) (whole.earlier (suc k) c e)

  ends : GoesOn (one_less r) (length before + 1) last → ⊥
  ends g = whole.ends (goes_on-up r (length (b ∷ before) + 1) (length before + 1) last (omega arith) (omega arith) g)

-- what is left of a read after a byte, by whether it ends it
abbrev after_byte : Bool → Reading → Plan
after_byte ends r = record { front = []; reading = if ends then None else Some (one_less r) }

-- a whole read, after its first byte
read-first : (r : Reading) (b : Byte) (ts : List Transfer) (e : Bool) → ends_with r b.value b.end ≡ e → stand (after_byte e r) ts ≡ Whole
    → (stand (record { front = []; reading = Some (one_less r) }) ts ≡ Whole → ReadsWhole (Some (one_less r)) ts)
    → ReadsWhole (Some r) (got b ∷ ts)
read-first r b ts true e h more = ([], b, ap (λ rest. got b ∷ rest) (done-whole ts h), record { earlier = λ k c i. absurd (none-some c i); ends = ends }) where
  ends : GoesOn r 1 b → ⊥
  ends g = true≢false (sym e ∙ goes_on-ends r b g)
read-first r b ts false e h more =
    let rest = more h in
    (b ∷ rest.0, rest.1, ap (λ l. got b ∷ l) rest.2, ends-up r b rest.0 rest.1 (goes_on-from r b e) rest.3)

-- a list that a read is whole with is bytes, of which the last alone ends it
pub reads-whole : (r : Reading) (ts : List Transfer) → stand (record { front = []; reading = Some r }) ts ≡ Whole → ReadsWhole (Some r) ts
reads-whole r [] h = cc
reads-whole r (Got b end ∷ ts) h =
    read-first r (record { value = b; end = end }) ts (ends_with r b end) refl h (reads-whole (one_less r) ts)
reads-whole r (t ∷ ts) h = absurd (off-whole ts h)

-- and back
pub whole-reads : (r : Reading) (before : List Byte) (last : Byte) → EndsRead r before last
    → stand (record { front = []; reading = Some r }) (map got before ++ got last ∷ []) ≡ Whole
whole-reads r [] last h =
    ap (λ e. stand (after_byte e r) []) (true_from_ne_false (ends_with r last.value last.end) (λ e. h.ends (goes_on-from r last e)))
whole-reads r (b ∷ before) last h =
    ap (λ e. stand (after_byte e r) (map got before ++ got last ∷ [])) (goes_on-ends r b (h.earlier 0 b refl))
    ∙ whole-reads (one_less r) before last (ends-down r b before last h)

-- ---- whole lists

-- what is left of a front after a transfer, by whether it fits
abbrev after_slot : Bool → List Slot → Option Reading → Option Plan
after_slot fits slots reading = if fits then Some (record { front = slots; reading = reading }) else None

whole-slot : (slot : Slot) (slots : List Slot) (reading : Option Reading) (t : Transfer) (ts : List Transfer) (e : Bool) → fits slot t ≡ e
    → stand_of (left_after (after_slot e slots reading) ts) ≡ Whole
    → (stand (record { front = slots; reading = reading }) ts ≡ Whole → IsWhole (record { front = slots; reading = reading }) ts)
    → IsWhole (record { front = slot ∷ slots; reading = reading }) (t ∷ ts)
whole-slot slot slots reading t ts true e h more =
    let rest = more h in
    (t ∷ rest.0, rest.1, ap (λ l. t ∷ l) rest.2, (Fits-from_fits slot t e, rest.3), rest.4)
whole-slot slot slots reading t ts false e h more = absurd (off-whole ts h)

whole-from : (slots : List Slot) (reading : Option Reading) (ts : List Transfer) → stand (record { front = slots; reading = reading }) ts ≡ Whole
    → IsWhole (record { front = slots; reading = reading }) ts
whole-from [] None ts h = ([], ts, refl, tt, done-whole ts h)
whole-from [] (Some r) ts h = ([], ts, refl, tt, reads-whole r ts h)
whole-from (slot ∷ slots) reading [] h = cc
whole-from (slot ∷ slots) reading (t ∷ ts) h = whole-slot slot slots reading t ts (fits slot t) refl h (whole-from slots reading ts)

stand-whole : (slots : List Slot) (reading : Option Reading) (front rest : List Transfer) → Fill slots front → ReadsWhole reading rest
    → stand (record { front = slots; reading = reading }) (front ++ rest) ≡ Whole
stand-whole [] None [] rest f w = ap (stand done) w
stand-whole [] (Some r) [] rest f w = ap (stand (record { front = []; reading = Some r })) w.2 ∙ whole-reads r w.0 w.1 w.3
stand-whole [] reading (t ∷ front) rest f w = absurd f
stand-whole (slot ∷ slots) reading [] rest f w = absurd f
stand-whole (slot ∷ slots) reading (t ∷ front) rest f w =
    ap (λ e. stand_of (left_after (after_slot e slots reading) (front ++ rest))) (fits-from_Fits slot t f.0)
    ∙ stand-whole slots reading front rest f.1 w

-- a list stands as whole exactly where it does the whole job
pub whole-law : WholeLaw
whole-law p ts = (whole-from p.front p.reading ts, λ w. ap (stand p) w.2 ∙ stand-whole p.front p.reading w.0 w.1 w.3 w.4)

-- ---- parts of lists

-- a list that ends what is left
filler : Slot → Transfer
filler (This t) = t
filler AnyByte = Got 0 true

filler-fits : (slot : Slot) → fits slot (filler slot) ≡ true
unfolding filler
filler-fits (This t) = same_transfer-refl t
filler-fits AnyByte = refl

ending : List Slot → Option Reading → List Transfer
ending [] None = []
ending [] (Some r) = Got 0 true ∷ []
ending (slot ∷ slots) reading = filler slot ∷ ending slots reading

ending-whole : (slots : List Slot) (reading : Option Reading) → stand (record { front = slots; reading = reading }) (ending slots reading) ≡ Whole
unfolding ending
ending-whole [] None = refl
ending-whole [] (Some r) = refl
ending-whole (slot ∷ slots) reading =
    ap (λ e. stand_of (left_after (after_slot e slots reading) (ending slots reading))) (filler-fits slot) ∙ ending-whole slots reading

ending-some : (slots : List Slot) (reading : Option Reading) → stand_of (Some (record { front = slots; reading = reading })) ≡ Part → ending slots reading ≢ []
unfolding ending
ending-some [] None h = λ e. cc
ending-some [] (Some r) h = λ e. cc
ending-some (slot ∷ slots) reading h = λ e. cc

-- what is left of a list that stands as a part can be ended
part-from : (p : Plan) (ts : List Transfer) (left : Option Plan) → left_after (Some p) ts ≡ left → stand_of left ≡ Part → IsPart p ts
part-from p ts None e h = cc
part-from p ts (Some left) e h =
    let more = ending left.front left.reading in (
      more,
      ending-some left.front left.reading h,
      (whole-law p (ts ++ more)).0
          (ap stand_of (left_after-append (Some p) ts more) ∙ ap (λ l. stand_of (left_after l more)) e ∙ ending-whole left.front left.reading),
    )

-- a list that can go on to a whole one is a part
stands-part : (left : Option Plan) (more : List Transfer) → more ≢ [] → stand_of (left_after left more) ≡ Whole → stand_of left ≡ Part
stands-part None more some h = absurd (off-whole more h)
stands-part (Some left) more some h = by left.front left.reading h where
  by : (slots : List Slot) (reading : Option Reading) → stand (record { front = slots; reading = reading }) more ≡ Whole
      → stand_of (Some (record { front = slots; reading = reading })) ≡ Part
  by [] None h = absurd (some (done-whole more h))
  by [] (Some r) h = refl
  by (slot ∷ slots) reading h = refl

-- and as a part exactly where it is a proper front of one that does
pub part-law : PartLaw
part-law p ts = (
  part-from p ts (left_after (Some p) ts) refl,
  λ w. stands-part (left_after (Some p) ts) w.0 w.1 (ap stand_of (sym (left_after-append (Some p) ts w.0)) ∙ (whole-law p (ts ++ w.0)).1 w.2),
)

-- nothing is left behind a whole list
whole-ends : (left : Option Plan) (more : List Transfer) → stand_of left ≡ Whole → stand_of (left_after left more) ≡ Whole → more ≡ []
whole-ends None more h w = cc
whole-ends (Some left) more h w = by left.front left.reading h w where
  by : (slots : List Slot) (reading : Option Reading) → stand_of (Some (record { front = slots; reading = reading })) ≡ Whole
      → stand (record { front = slots; reading = reading }) more ≡ Whole → more ≡ []
  by [] None h w = done-whole more w
  by [] (Some r) h w = cc
  by (slot ∷ slots) reading h w = cc

-- no whole list begins another of the same plan
pub prefix_free-law : PrefixFreeLaw
prefix_free-law p ts more first both =
    whole-ends (left_after (Some p) ts) more ((whole-law p ts).1 first)
    (ap stand_of (sym (left_after-append (Some p) ts more)) ∙ (whole-law p (ts ++ more)).1 both)

-- ---- one more transfer

-- a plan is left exactly where the transfer fits what is wanted next
pub one-goes : (slots : List Slot) (reading : Option Reading) (t : Transfer) → FitsNext (next_slot (record { front = slots; reading = reading })) t
    → (left : Plan) × (left_after_one (record { front = slots; reading = reading }) t ≡ Some left)
one-goes [] None t h = absurd h
one-goes [] (Some r) t h = (after_byte (ends_with r h.0.value h.0.end) r, ap (left_after_one (record { front = []; reading = Some r })) h.1)
one-goes (slot ∷ slots) reading t h =
    (record { front = slots; reading = reading }, ap (λ e. after_slot e slots reading) (fits-from_Fits slot t h))

one-fits : (slots : List Slot) (reading : Option Reading) (t : Transfer) → stand_of (left_after_one (record { front = slots; reading = reading }) t) ≢ Off
    → FitsNext (next_slot (record { front = slots; reading = reading })) t
one-fits [] None t h = absurd (h refl)
one-fits [] (Some r) (Got b end) h = (record { value = b; end = end }, refl)
one-fits [] (Some r) _ h = absurd (h refl)
one-fits (slot ∷ slots) reading t h = by (cases_Bool (fits slot t)) where
  by : (fits slot t ≡ true) ⊎ (fits slot t ≡ false) → Fits slot t
  by (inl e) = Fits-from_fits slot t e
  by (inr e) = absurd (h (ap (λ f. stand_of (after_slot f slots reading)) e))

-- a list that leaves something of its plan is not off it
pub some-stands : (left : Plan) → stand_of (Some left) ≢ Off
some-stands left = by left.front left.reading where
  by : (slots : List Slot) (reading : Option Reading) → stand_of (Some (record { front = slots; reading = reading })) ≢ Off
  by [] None e = cc
  by [] (Some r) e = cc
  by (slot ∷ slots) reading e = cc

-- a list goes on by exactly the transfers that fit what is wanted next
pub goes_on-law : GoesOnLaw
goes_on-law p left ts t e =
    let after : stand p (ts ++ t ∷ []) ≡ stand_of (left_after_one left t) =
    ap stand_of (left_after-append (Some p) ts (t ∷ [])) ∙ ap (λ l. stand_of (left_after l (t ∷ []))) e in (
      λ h. one-fits left.front left.reading t (λ off. h (after ∙ off)),
      λ h.
          let next = one-goes left.front left.reading t h in
          λ off. some-stands next.0 (ap stand_of (sym next.1) ∙ sym after ∙ off),
    )
