-- Values that came back with no group in between.
use Rattle.std.proofs.Common.{◌≡◌, ◌+◌, ℕ, List, [], ◌∷◌, ◌++◌, length, append_assoc, sym, ap, ◌∙◌, subst, arith}
use Rattle.std.specs.List.{All}
use Rattle.std.proofs.lemmas.List.Elements.{All-head, All-tail}
use Rattle.vx_desks.specs.Standing.{ComeBack}

module _ {K G : Type 0} (stands : K → K → List G → Type 0) where
  -- values round which no gate was started
  pub back-same : (xs : List K) → All (λ x. stands x x []) xs → ComeBack stands xs xs
  back-same [] all = tt
  back-same (x ∷ xs) all = (All-head (λ x. stands x x []) x xs all, back-same xs (All-tail (λ x. stands x x []) x xs all))

  -- one list of them, and another behind it
  pub back-append : (xs xs' ys ys' : List K) → ComeBack stands xs xs' → ComeBack stands ys ys' → ComeBack stands (xs ++ ys) (xs' ++ ys')
  back-append [] [] ys ys' front rest = rest
  back-append (x ∷ xs) (x' ∷ xs') ys ys' front rest = (front.0, back-append xs xs' ys ys' front.1 rest)
  back-append [] (x' ∷ xs') ys ys' front rest = absurd front
  back-append (x ∷ xs) [] ys ys' front rest = absurd front

  -- a list that ends with a value, and one that ends with what came back of it
  pub back-last : (old old' new new' : List K) (first now : K) → old ≡ old' ++ first ∷ [] → new ≡ new' ++ now ∷ [] → ComeBack stands old' new' → stands first now [] → ComeBack stands old new
  back-last old old' new new' first now is is' front back =
      subst (λ (l : List K × List K). ComeBack stands l.0 l.1) (λ i. (sym is i, sym is' i)) (back-append old' new' (first ∷ []) (now ∷ []) front (back, tt))

-- a list without its last value, and without the one before that
pub without-two : {K : Type 0} (old mid new : List K) (first last : K) → old ≡ mid ++ last ∷ [] → mid ≡ new ++ first ∷ [] → old ≡ new ++ first ∷ last ∷ []
without-two old mid new first last is mid_is = is ∙ ap (λ l. l ++ last ∷ []) mid_is ∙ append_assoc new (first ∷ []) (last ∷ [])

-- it has two fewer
pub two-fewer : (old mid new : ℕ) → mid + 1 ≡ old → new + 1 ≡ mid → new + 2 ≡ old
two-fewer old mid new is mid_is = omega arith

-- a list of four without two, and without the two before these, had just the four
pub just-four : {K : Type 0} (old mid new : List K) (a b c d : K) → length old ≡ 4 → old ≡ mid ++ c ∷ d ∷ [] → length mid + 2 ≡ length old → mid ≡ new ++ a ∷ b ∷ [] → length new + 2 ≡ length mid
    → old ≡ a ∷ b ∷ c ∷ d ∷ []
just-four old mid [] a b c d four is fewer mid_is less = is ∙ ap (λ l. l ++ c ∷ d ∷ []) mid_is
just-four old mid (x ∷ xs) a b c d four is fewer mid_is less = absurd (omega arith)
