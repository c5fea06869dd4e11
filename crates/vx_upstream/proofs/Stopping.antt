-- Where the stop byte stands among the bytes of a read.
use Rattle.std.proofs.Common.{◌≡◌, ℕ, zero, suc, ◌+◌, ◌-◌, ◌<◌, Bool, true, false, List, [], ◌∷◌, ◌++◌, length, take, get_or, refl, sym, ap, subst, arith, None}
use Rattle.std.specs.Prelude.{◌||◌}
use Rattle.std.specs.List.{list_any}
use Rattle.vx_488.specs.Bursts.{is_char}
use Rattle.vx_upstream.specs.Answering.{front_of, last_byte}

-- with no stop byte none is
pub none_is_char : (bytes : List ℕ) → list_any (is_char None) bytes ≡ false
none_is_char [] = refl
none_is_char (b ∷ bytes) = none_is_char bytes

-- the last element stands behind the others
split-at : (n : ℕ) (xs : List ℕ) → length xs ≡ n + 1 → xs ≡ take n xs ++ get_or xs n 0 ∷ []
split-at zero [] h = absurd (omega (arith, h))
split-at zero (x ∷ []) h = refl
split-at zero (x ∷ y ∷ xs) h = absurd (omega (arith, h))
split-at (suc n) [] h = absurd (omega (arith, h))
split-at (suc n) (x ∷ xs) h = ap (λ (ys : List ℕ). x ∷ ys) (split-at n xs (omega (arith, h)))

-- a read's bytes are those before the last, and the last
pub front-last : (bytes : List ℕ) → 0 < length bytes → bytes ≡ front_of bytes ++ last_byte bytes ∷ []
front-last bytes some = split-at (length bytes - 1) bytes (omega (arith, some))

-- what none of the bytes before the last is, nor the last, none of all is
or-false : (b r s : Bool) → (b || r) ≡ false → (r ≡ false → s ≡ false) → (b || s) ≡ false
or-false true r s h next = h
or-false false r s h next = next h

or-none : (b : Bool) → b ≡ false → (b || false) ≡ false
or-none true h = h
or-none false h = refl

any-append : (p : ℕ → Bool) (xs ys : List ℕ) → list_any p xs ≡ false → list_any p ys ≡ false → list_any p (xs ++ ys) ≡ false
any-append p [] ys before behind = behind
any-append p (x ∷ xs) ys before behind = or-false (p x) (list_any p xs) (list_any p (xs ++ ys)) before (λ h. any-append p xs ys h behind)

pub clear-whole : (p : ℕ → Bool) (bytes : List ℕ) → 0 < length bytes → list_any p (front_of bytes) ≡ false → p (last_byte bytes) ≡ false → list_any p bytes ≡ false
clear-whole p bytes some front last =
    subst (λ (xs : List ℕ). list_any p xs ≡ false) (sym (front-last bytes some))
    (any-append p (front_of bytes) (last_byte bytes ∷ []) front (or-none (p (last_byte bytes)) last))
