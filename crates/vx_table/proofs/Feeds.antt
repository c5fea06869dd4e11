-- Messages and the line feed at their end.
use Rattle.std.proofs.Common.{◌≡◌, ℕ, ◌==◌, false, List, [], ◌∷◌, ◌++◌, refl, ap}
use Rattle.std.proofs.lemmas.Bool.{cond-false}
use Rattle.vx_table.specs.Table.{without_line_feed}

-- A line feed at the end is left out.
pub feed-left : (front : List ℕ) → without_line_feed (front ++ 10 ∷ []) ≡ front
feed-left [] = refl
feed-left (b ∷ []) = refl
feed-left (b ∷ c ∷ bs) = ap (λ (rest : List ℕ). b ∷ rest) (feed-left (c ∷ bs))

-- A message that ends in another byte is left as it is.
pub other-kept : (front : List ℕ) (last : ℕ) → (last == 10) ≡ false → without_line_feed (front ++ last ∷ []) ≡ front ++ last ∷ []
other-kept [] last h = cond-false (last == 10) [] (last ∷ []) h
other-kept (b ∷ []) last h = ap (λ (rest : List ℕ). b ∷ rest) (other-kept [] last h)
other-kept (b ∷ c ∷ bs) last h = ap (λ (rest : List ℕ). b ∷ rest) (other-kept (c ∷ bs) last h)
