-- Proofs that an impl owes its model: the flags of a list of addresses are the flags that gave it.
use Rattle.std.proofs.Common.{◌≡◌, ◌≢◌, ℕ, zero, suc, ◌+◌, ◌%◌, ◌<◌, Bool, true, false, eqb, ◌||◌, List, [], ◌∷◌, length, Option, Some, None, refl, ap, ◌∙◌, subst, arith}
use Rattle.std.proofs.lemmas.Bool.{eqb-true, eq-eqb, and_parts, and_from, or_from, false_from_ne_true}
use Rattle.vx_488.specs.declared.transfers.Addr.{Addr}
use Rattle.vx_488.specs.Address.{secondary_place, secondary_at, place, address_at, same_secondary, same_address}
use Rattle.vx_488.specs.Listening.{has_address, flagged, flags_of}

-- an address's place among the 32 of its primary gives it back
secondary_place-at : (k : ℕ) → secondary_place (secondary_at k) ≡ k
secondary_place-at zero = refl
secondary_place-at (suc k) = omega arith

-- and its place among all
pub place-address_at : (i : ℕ) → place (address_at i) ≡ i
place-address_at i = omega (arith, secondary_place-at (i % 32))

-- an address is itself
same_secondary-refl : (s : Option ℕ) → same_secondary s s ≡ true
same_secondary-refl None = refl
same_secondary-refl (Some s) = eq-eqb s s refl

pub same_address-refl : (a : Addr) → same_address a a ≡ true
same_address-refl a = and_from (eqb a.p a.p) (same_secondary a.s a.s) (eq-eqb a.p a.p refl) (same_secondary-refl a.s)

-- addresses that are the same are equal
same_secondary-equal : (s t : Option ℕ) → same_secondary s t ≡ true → s ≡ t
same_secondary-equal None None h = refl
same_secondary-equal None (Some t) h = cc
same_secondary-equal (Some s) None h = cc
same_secondary-equal (Some s) (Some t) h = ap Some (eqb-true s t h)

pub same_address-equal : (a b : Addr) → same_address a b ≡ true → a ≡ b
same_address-equal a b h =
    let both = and_parts (eqb a.p b.p) (same_secondary a.s b.s) h in
    ap (λ (p : ℕ). record { p = p; s = a.s }) (eqb-true a.p b.p both.0)
    ∙ ap (λ (s : Option ℕ). record { p = b.p; s = s }) (same_secondary-equal a.s b.s both.1)

-- addresses at two places aren't the same
pub same_address-apart : (a b : Addr) → place a ≢ place b → same_address a b ≡ false
same_address-apart a b h = false_from_ne_true (same_address a b) (λ e. h (ap place (same_address-equal a b e)))

-- no address below the first place has a flag
pub has_address-below : (a : Addr) (i : ℕ) (flags : List Bool) → place a < i → has_address (flagged i flags) a ≡ false
has_address-below a i [] h = refl
has_address-below a i (true ∷ flags) h =
    let apart : place a ≢ place (address_at i) = omega (arith, place-address_at i) in
    or_from _ _ (same_address-apart a (address_at i) apart) (has_address-below a (i + 1) flags (omega arith))
has_address-below a i (false ∷ flags) h = has_address-below a (i + 1) flags (omega arith)

-- an address in front of a list doesn't count for flags further on
flags_of-skip : (n j : ℕ) (a : Addr) (xs : List Addr) → place a < j → flags_of n j (a ∷ xs) ≡ flags_of n j xs
unfolding flags_of
flags_of-skip zero j a xs h = refl
flags_of-skip (suc n) j a xs h =
    let apart : place (address_at j) ≢ place a = omega (arith, place-address_at j) in
    ap (λ b. (b || has_address xs (address_at j)) ∷ flags_of n (j + 1) (a ∷ xs)) (same_address-apart (address_at j) a apart)
    ∙ ap (λ flags. has_address xs (address_at j) ∷ flags) (flags_of-skip n (j + 1) a xs (omega arith))

-- the flags of the addresses that flags gave, from any place on
pub flags_of-flagged_at : (i : ℕ) (flags : List Bool) → flags_of (length flags) i (flagged i flags) ≡ flags
unfolding flags_of
flags_of-flagged_at i [] = refl
flags_of-flagged_at i (true ∷ flags) =
    let rest = flagged (i + 1) flags in
    ap (λ b. (b || has_address rest (address_at i)) ∷ flags_of (length flags) (i + 1) (address_at i ∷ rest)) (same_address-refl (address_at i))
    ∙ ap (λ fs. true ∷ fs) (flags_of-skip (length flags) (i + 1) (address_at i) rest (omega (arith, place-address_at i)))
    ∙ ap (λ fs. true ∷ fs) (flags_of-flagged_at (i + 1) flags)
flags_of-flagged_at i (false ∷ flags) =
    ap (λ b. b ∷ flags_of (length flags) (i + 1) (flagged (i + 1) flags)) (has_address-below (address_at i) (i + 1) flags (omega (arith, place-address_at i)))
    ∙ ap (λ fs. false ∷ fs) (flags_of-flagged_at (i + 1) flags)

pub flags_of-flagged : (flags : List Bool) → length flags ≡ 992 → flags_of 992 0 (flagged 0 flags) ≡ flags
flags_of-flagged flags h = subst (λ n. flags_of n 0 (flagged 0 flags) ≡ flags) h (flags_of-flagged_at 0 flags)
