-- Addresses by their places, and what a flag set at a place does to the list of addresses.
use Rattle.std.proofs.Common.{◌≡◌, ◌≢◌, ℕ, zero, suc, ◌+◌, ◌/◌, ◌%◌, ◌<◌, ◌≤◌, Bool, true, false, not, cond, ltb, leb, ◌||◌, List, [], ◌∷◌, length, get_or, set, Option, Some, None, refl, sym, ap, ◌∙◌, subst, add-one, eqb, arith}
use Rattle.std.specs.Bool.{beq}
use Rattle.std.proofs.lemmas.Bool.{leb-true, le-leb, le-ltb, lt-ltb, and_parts, and_from, or_from, or_parts, or_left, cond-true, cond-false, false≢true, ne_eqb, false_from_ne_true}
use Rattle.std.specs.List.{list_any}
use Rattle.vx_488.specs.declared.transfers.TheConstants.{ADDRESS_MAX}
use Rattle.vx_488.specs.declared.transfers.Addr.{Addr}
use Rattle.vx_488.specs.Address.{secondary_place, secondary_at, place, address_at, same_address, is_secondary, is_bus_address}
use Rattle.vx_488.specs.Listening.{has_address, inserted, without_address, flagged, InOrderFrom}
use Rattle.vx_488.specs.Flags.{place-address_at, same_address-refl, same_address-equal, same_address-apart, has_address-below}

-- the address at the place of a bus address is that address
secondary_at-place : (s : Option ℕ) → secondary_at (secondary_place s) ≡ s
secondary_at-place None = refl
secondary_at-place (Some s) = ap secondary_at (add-one s)

secondary_place-within : (s : Option ℕ) → is_secondary s ≡ true → secondary_place s < 32
secondary_place-within None h = omega arith
secondary_place-within (Some s) h = omega (arith, leb-true s ADDRESS_MAX h)

pub address_at-place : (a : Addr) → is_bus_address a ≡ true → address_at (place a) ≡ a
address_at-place a h =
    let both = and_parts (leb a.p ADDRESS_MAX) (is_secondary a.s) h in
    let within = secondary_place-within a.s both.1 in
    let quotient : place a / 32 ≡ a.p = omega arith in
    let remainder : place a % 32 ≡ secondary_place a.s = omega arith in
    ap (λ (p : ℕ). record { p = p; s = secondary_at (place a % 32) }) quotient
    ∙ ap (λ (k : ℕ). record { p = a.p; s = secondary_at k }) remainder
    ∙ ap (λ (s : Option ℕ). record { p = a.p; s = s }) (secondary_at-place a.s)

-- each of the 992 places is a bus address's
is_secondary-at : (k : ℕ) → k < 32 → is_secondary (secondary_at k) ≡ true
is_secondary-at zero h = refl
is_secondary-at (suc k) h = le-leb k ADDRESS_MAX (omega arith)

pub is_bus_address-at : (i : ℕ) → i < 992 → is_bus_address (address_at i) ≡ true
is_bus_address-at i h =
    and_from (leb (i / 32) ADDRESS_MAX) (is_secondary (secondary_at (i % 32))) (le-leb (i / 32) ADDRESS_MAX (omega arith)) (is_secondary-at (i % 32) (omega arith))

-- the addresses that flags give from place i on stand in order, and none is in front of a place j that isn't behind i
pub flagged-in_order : (j i : ℕ) (flags : List Bool) → j ≤ i → i + length flags ≤ 992 → InOrderFrom j (flagged i flags)
flagged-in_order j i [] h within = tt
flagged-in_order j i (true ∷ flags) h within =
    let at : place (address_at i) ≡ i = place-address_at i in
    (omega (arith, at), is_bus_address-at i (omega arith), flagged-in_order (place (address_at i) + 1) (i + 1) flags (omega (arith, at)) (omega arith))
flagged-in_order j i (false ∷ flags) h within = flagged-in_order j (i + 1) flags (omega arith) (omega arith)

-- a bus address at this place is the one there, and at any other it isn't
same_address-here : (a : Addr) (i : ℕ) → place a ≡ i → address_at (place a) ≡ a → same_address a (address_at i) ≡ true
same_address-here a i h e = subst (λ b. same_address a b ≡ true) (sym e ∙ ap address_at h) (same_address-refl a)

same_address-elsewhere : (a : Addr) (i : ℕ) → place a ≢ i → same_address a (address_at i) ≡ false
same_address-elsewhere a i h = same_address-apart a (address_at i) (λ e. h (e ∙ place-address_at i))

-- an address is in the list exactly where its flag is true
pub has_address-flagged : (a : Addr) (i k : ℕ) (flags : List Bool) → place a ≡ i + k → address_at (place a) ≡ a
    → has_address (flagged i flags) a ≡ get_or flags k false
has_address-flagged a i k [] h e = refl
has_address-flagged a i zero (true ∷ flags) h e = or_left _ _ (same_address-here a i (omega arith) e)
has_address-flagged a i zero (false ∷ flags) h e = has_address-below a (i + 1) flags (omega arith)
has_address-flagged a i (suc k) (true ∷ flags) h e =
    ap (λ b. b || has_address (flagged (i + 1) flags) a) (same_address-elsewhere a i (omega arith))
    ∙ has_address-flagged a (i + 1) k flags (omega arith) e
has_address-flagged a i (suc k) (false ∷ flags) h e = has_address-flagged a (i + 1) k flags (omega arith) e

-- an address with a part above 30 is in no list
pub has_address-outside : (a : Addr) (i : ℕ) (flags : List Bool) → is_bus_address a ≡ false → i + length flags ≤ 992
    → has_address (flagged i flags) a ≡ false
has_address-outside a i [] h within = refl
has_address-outside a i (true ∷ flags) h within =
    let other : same_address a (address_at i) ≡ false =
    false_from_ne_true (same_address a (address_at i))
    (λ e. false≢true (sym h ∙ ap is_bus_address (same_address-equal a (address_at i) e) ∙ is_bus_address-at i (omega arith))) in
    or_from _ _ other (has_address-outside a (i + 1) flags h (omega arith))
has_address-outside a i (false ∷ flags) h within = has_address-outside a (i + 1) flags h (omega arith)

-- what isn't in a list isn't taken from it
pub without_address-none : (a : Addr) (xs : List Addr) → has_address xs a ≡ false → without_address a xs ≡ xs
without_address-none a [] h = refl
without_address-none a (x ∷ xs) h =
    let both = or_parts (same_address a x) (has_address xs a) h in
    ap (λ b. cond (not b) (x ∷ without_address a xs) (without_address a xs)) both.0
    ∙ ap (λ rest. x ∷ rest) (without_address-none a xs both.1)

-- an address below the first place goes in front
inserted-front : (a : Addr) (i : ℕ) (flags : List Bool) → place a < i → inserted a (flagged i flags) ≡ a ∷ flagged i flags
inserted-front a i [] h = refl
inserted-front a i (true ∷ flags) h =
    cond-true (ltb (place a) (place (address_at i))) _ _ (lt-ltb (place a) (place (address_at i)) (omega (arith, place-address_at i)))
inserted-front a i (false ∷ flags) h = inserted-front a (i + 1) flags (omega arith)

-- a flag set to true puts its address in
pub flagged-set : (a : Addr) (i k : ℕ) (flags : List Bool) → place a ≡ i + k → address_at (place a) ≡ a → k < length flags
    → flagged i (set flags k true) ≡ inserted a (flagged i flags)
flagged-set a i k [] h e within = absurd (omega arith)
flagged-set a i zero (true ∷ flags) h e within =
    sym (cond-false (ltb (place a) (place (address_at i))) _ _ (le-ltb (place a) (place (address_at i)) (omega (arith, place-address_at i)))
    ∙ cond-true (same_address a (address_at i)) _ _ (same_address-here a i (omega arith) e))
flagged-set a i zero (false ∷ flags) h e within =
    let here : place a ≡ i = omega arith in
    ap (λ b. b ∷ flagged (i + 1) flags) (ap address_at (sym here) ∙ e)
    ∙ sym (inserted-front a (i + 1) flags (omega arith))
flagged-set a i (suc k) (true ∷ flags) h e within =
    ap (λ rest. address_at i ∷ rest) (flagged-set a (i + 1) k flags (omega arith) e (omega arith))
    ∙ sym (cond-false (ltb (place a) (place (address_at i))) _ _ (le-ltb (place a) (place (address_at i)) (omega (arith, place-address_at i)))
    ∙ cond-false (same_address a (address_at i)) _ _ (same_address-elsewhere a i (omega arith)))
flagged-set a i (suc k) (false ∷ flags) h e within = flagged-set a (i + 1) k flags (omega arith) e (omega arith)

-- a flag set to false takes its address out
pub flagged-unset : (a : Addr) (i k : ℕ) (flags : List Bool) → place a ≡ i + k → address_at (place a) ≡ a → k < length flags
    → flagged i (set flags k false) ≡ without_address a (flagged i flags)
flagged-unset a i k [] h e within = absurd (omega arith)
flagged-unset a i zero (true ∷ flags) h e within =
    let rest = flagged (i + 1) flags in
    sym (ap (λ b. cond (not b) (address_at i ∷ without_address a rest) (without_address a rest)) (same_address-here a i (omega arith) e)
    ∙ without_address-none a rest (has_address-below a (i + 1) flags (omega arith)))
flagged-unset a i zero (false ∷ flags) h e within =
    sym (without_address-none a (flagged (i + 1) flags) (has_address-below a (i + 1) flags (omega arith)))
flagged-unset a i (suc k) (true ∷ flags) h e within =
    let rest = flagged (i + 1) flags in
    ap (λ r. address_at i ∷ r) (flagged-unset a (i + 1) k flags (omega arith) e (omega arith))
    ∙ sym (ap (λ b. cond (not b) (address_at i ∷ without_address a rest) (without_address a rest)) (same_address-elsewhere a i (omega arith)))
flagged-unset a i (suc k) (false ∷ flags) h e within = flagged-unset a (i + 1) k flags (omega arith) e (omega arith)

-- no address is in the list exactly where no flag is true
pub flagged-empty : (i : ℕ) (flags : List Bool) → not (list_any (λ b. beq b true) flags) ≡ eqb (length (flagged i flags)) 0
flagged-empty i [] = refl
flagged-empty i (true ∷ flags) = sym (ne_eqb _ _ (omega arith))
flagged-empty i (false ∷ flags) = flagged-empty (i + 1) flags
