-- What is known of each instrument of a bench.
use Rattle.std.proofs.Common.{◌≡◌, ℕ, zero, suc, ◌+◌, ◌<◌, List, [], ◌∷◌, length, map, get_or, append-nil, refl, ap, ◌∙◌, subst, arith}
use Rattle.std.specs.Prelude.{◌++◌}
use Rattle.vx_inst.specs.declared.done.Done.{Done}
use Rattle.vx_inst.specs.View.{View}
use Rattle.vx_inst.specs.Behavior.{Behavior, after, after_all}
use Rattle.vx_sim.specs.Occupants.{Placed, Seated, IsKnown}
use Rattle.vx_sim.specs.Histories.{first_of, IsAfter}
use Rattle.vx_sim.specs.Attaching.{IsKnownOccupant, AreKnown}

module _ {I : Type 0} (behaves : I → Behavior) (nature : I → List ℕ) where
  -- what is known of the first so many
  abbrev pub KnownTo : {X : Type 0} → (X → Placed) → ℕ → List X → Type 0
  KnownTo shown zero xs = Unit {0}
  KnownTo shown (suc n) [] = Unit {0}
  KnownTo shown (suc n) (x ∷ xs) = IsKnownOccupant behaves nature (shown x).occupant × KnownTo shown n xs

  known_next : {X : Type 0} (shown : X → Placed) (n : ℕ) (xs : List X) (d : X) → KnownTo shown n xs → n < length xs
      → IsKnownOccupant behaves nature (shown (get_or xs n d)).occupant → KnownTo shown (suc n) xs
  known_next shown zero [] d so within here = tt
  known_next shown zero (x ∷ xs) d so within here = (here, tt)
  known_next shown (suc n) [] d so within here = tt
  known_next shown (suc n) (x ∷ xs) d so within here = (so.0, known_next shown n xs d so.1 (omega arith) here)

  -- one more is known
  pub known_more : {X : Type 0} (shown : X → Placed) (n : ℕ) (xs : List X) (d : X) → KnownTo shown n xs → n < length xs
      → IsKnownOccupant behaves nature (shown (get_or xs n d)).occupant → KnownTo shown (n + 1) xs
  known_more shown n xs d so within here =
      let one : suc n ≡ n + 1 = omega arith in
      subst (λ k. KnownTo shown k xs) one (known_next shown n xs d so within here)

  -- all are known
  pub known_whole : {X : Type 0} (shown : X → Placed) (n : ℕ) (xs : List X) → KnownTo shown n xs → length xs ≡ n → AreKnown behaves nature (map shown xs)
  known_whole shown zero [] so whole = tt
  known_whole shown zero (x ∷ xs) so whole = absurd (omega arith)
  known_whole shown (suc n) [] so whole = tt
  known_whole shown (suc n) (x ∷ xs) so whole = (so.0, known_whole shown n xs so.1 (omega arith))

-- How it is seen after calls and more of them.
pub seen-after : (calls : List Done) (behavior : Behavior) (later : List Done) → after_all calls behavior later ≡ behavior (calls ++ later)
seen-after [] behavior later = refl
seen-after (d ∷ ds) behavior later = seen-after ds (after d behavior) later

-- What was noted of an instrument says what is known of it.
module _ {I : Type 0} (behaves : I → Behavior) (nature : I → List ℕ) where
  pub known-noted : (v : View) (notes : List (I × Unit {0})) (calls : List Done) (inst : I) (s : Seated)
      → record { origin = first_of (λ i. behaves i []) v notes; nature = first_of nature [] notes; calls = calls; shown = behaves inst [] } ≡ s
      → IsAfter behaves notes calls inst → IsKnown behaves nature s
  known-noted v [] calls inst s view behaved = absurd behaved
  known-noted v (p ∷ ps) calls inst s view behaved =
      let shown : behaves inst [] ≡ behaves p.0 calls =
      ap (λ (b : Behavior). b []) behaved ∙ seen-after calls (behaves p.0) [] ∙ ap (behaves p.0) (append-nil calls) in
      subst (λ (t : Seated). IsKnown behaves nature t) view (p.0, refl, refl, shown)
