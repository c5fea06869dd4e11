-- One more group in a history.
use Rattle.std.proofs.Common.{◌≡◌, ◌≢◌, ◌⊎◌, ℕ, suc, ◌+◌, ◌<◌, ◌≤◌, List, [], ◌∷◌, ◌++◌, length, eqb, cond, filter, sym, refl, ap, subst, ◌∙◌, inl, inr, arith, eq-eqb, ne_eqb, append-nil, append_assoc, length-append}
use mathlib.Core.Logic.{dite}
use mathlib.Core.List.{IsPrefix}
use native.Mathlib.Decide.{ℕ_discrete}
use mathlib.Core.Option.{some}
use lib.ListN.{get_elem?}
use Rattle.vx_gate.proofs.Lists.{at_end}
use Rattle.vx_gate.specs.declared.views.Logged.{Logged}
use Rattle.vx_gate.specs.History.{made, groups, made_by, Lawful}

module _ {G : Type 0} where
  by_head : ℕ → Logged G → List (Logged G) → List G
  by_head n m log = made_by n (m ∷ log)

  -- the own groups of a list by its first entry
  made_by_yes : (n : ℕ) (m : Logged G) (log : List (Logged G)) → m.by ≡ n → made_by n (m ∷ log) ≡ m.group ∷ made_by n log
  made_by_yes n m log is = ap (λ b. groups (cond b (m ∷ filter (λ (x : Logged G). eqb x.by n) log) (filter (λ (x : Logged G). eqb x.by n) log))) (eq-eqb m.by n is)

  made_by_no : (n : ℕ) (m : Logged G) (log : List (Logged G)) → m.by ≢ n → made_by n (m ∷ log) ≡ made_by n log
  made_by_no n m log ne = ap (λ b. groups (cond b (m ∷ filter (λ (x : Logged G). eqb x.by n) log) (filter (λ (x : Logged G). eqb x.by n) log))) (ne_eqb m.by n ne)

  -- the own groups of two lists, one after the other
  pub made_by-append : (n : ℕ) (xs ys : List (Logged G)) → made_by n (xs ++ ys) ≡ made_by n xs ++ made_by n ys
  made_by-append n [] ys = refl
  made_by-append n (x ∷ xs) ys = dite (ℕ_discrete x.by n)
      (λ is. made_by_yes n x (xs ++ ys) is ∙ ap (λ l. x.group ∷ l) (made_by-append n xs ys) ∙ ap (λ l. l ++ made_by n ys) (sym (made_by_yes n x xs is)))
      (λ ne. made_by_no n x (xs ++ ys) ne ∙ made_by-append n xs ys ∙ ap (λ l. l ++ made_by n ys) (sym (made_by_no n x xs ne)))

  -- a group of the pass joins its own groups
  pub made_by_mine : (n : ℕ) (g : G) (log : List (Logged G)) → made_by n (log ++ made n g ∷ []) ≡ made_by n log ++ g ∷ []
  made_by_mine n g log = made_by-append n log (made n g ∷ []) ∙ ap (λ l. made_by n log ++ l) (made_by_yes n (made n g) [] refl)

  -- and those of no other
  pub made_by_other : (n k : ℕ) (g : G) (log : List (Logged G)) → n ≢ k → made_by k (log ++ made n g ∷ []) ≡ made_by k log
  made_by_other n k g log ne = made_by-append k log (made n g ∷ []) ∙ ap (λ l. made_by k log ++ l) (made_by_no k (made n g) [] ne) ∙ append-nil (made_by k log)

  -- the numbers in a history are below the number of passes made
  abbrev pub Below : List (Logged G) → ℕ → Type 0
  Below log n = (k : ℕ) (m : Logged G) → get_elem? log k ≡ some m → m.by < n

  -- a pass that is still to be made has made nothing
  pub made_by_none : (n k : ℕ) (log : List (Logged G)) → Below log n → n ≤ k → made_by k log ≡ []
  made_by_none n k [] h le = refl
  made_by_none n k (m ∷ log) h le = let b = h 0 m refl in made_by_no k m log (λ e. omega arith) ∙ made_by_none n k log (λ i x e. h (suc i) x e) le

  pub below_more : (log : List (Logged G)) (n k : ℕ) → Below log n → n ≤ k → Below log k
  below_more log n k h le i m e = let b = h i m e in omega arith

  pub below_with : (log : List (Logged G)) (n : ℕ) (m : Logged G) → Below log n → m.by < n → Below (log ++ m ∷ []) n
  below_with log n m h lt i x e = elim (at_end log m x i e) [ inl w ↦ h i x w | inr w ↦ subst (λ (y : Logged G). y.by < n) w.1 lt ]

  no_more : (a b : List G) → length a + length b ≤ length a → b ≡ []
  no_more a [] h = refl
  no_more a (x ∷ xs) h = absurd (omega arith)

  -- between two beginnings of the history with the same own groups stand no more of them
  pub made_by_between : (n : ℕ) (xs ys zs : List (Logged G)) (own : List G) → IsPrefix xs ys → IsPrefix ys zs → made_by n xs ≡ own → made_by n zs ≡ own → made_by n ys ≡ own
  made_by_between n xs ys zs own p q a b =
      let first : made_by n ys ≡ own ++ made_by n p.0 = ap (made_by n) (sym p.1) ∙ made_by-append n xs p.0 ∙ ap (λ l. l ++ made_by n p.0) a in
      let second : own ≡ made_by n ys ++ made_by n q.0 = sym b ∙ ap (made_by n) (sym q.1) ∙ made_by-append n ys q.0 in
      let short : length own + length (made_by n p.0) ≤ length own = omega (arith, ap length first, ap length second, length-append own (made_by n p.0), length-append (made_by n ys) (made_by n q.0)) in
      first ∙ ap (λ l. own ++ l) (no_more own (made_by n p.0) short) ∙ append-nil own

  none_left : (a b : List G) → a ++ b ≡ [] → a ≡ []
  none_left [] b e = refl
  none_left (x ∷ xs) b e = absurd cc

  -- where the history has no group of a number, no beginning of it has
  pub front_none : (n : ℕ) (xs ys : List (Logged G)) → IsPrefix xs ys → made_by n ys ≡ [] → made_by n xs ≡ []
  front_none n xs ys p e = none_left (made_by n xs) (made_by n p.0) (sym (made_by-append n xs p.0) ∙ ap (made_by n) p.1 ∙ e)

  -- where a list with one more entry is cut at an entry: that is the last one, or the cut lies before it
  cut_at : (log before after : List (Logged G)) (m x : Logged G) → log ++ m ∷ [] ≡ before ++ x ∷ after
      → ((log ≡ before) × (m ≡ x)) ⊎ ((rest : List (Logged G)) × (log ≡ before ++ x ∷ rest))
  cut_at [] [] after m x e = inl (refl, cc)
  cut_at [] (b ∷ []) after m x e = absurd cc
  cut_at [] (b ∷ (b' ∷ bs)) after m x e = absurd cc
  cut_at (l ∷ ls) [] after m x e = let h : l ≡ x = cc in inr (ls, ap (λ y. y ∷ ls) h)
  cut_at (l ∷ ls) (b ∷ bs) after m x e = let h : l ≡ b = cc in let t : ls ++ m ∷ [] ≡ bs ++ x ∷ after = cc in
      elim (cut_at ls bs after m x t) [ inl w ↦ (let u : ls ≡ bs = w.0 in inl (cc, w.1)) | inr w ↦ (let u : ls ≡ bs ++ x ∷ w.0 = w.1 in inr (w.0, cc)) ]

  pub Lawful_more : (may_add : List G → G → Type 0) (log : List (Logged G)) (m : Logged G) → Lawful may_add log → may_add (made_by m.by log) m.group → Lawful may_add (log ++ m ∷ [])
  Lawful_more may_add log m law may before after x e = elim (cut_at log before after m x e)
      [ inl w ↦ subst (λ (y : List (Logged G) × Logged G). may_add (made_by y.1.by y.0) y.1.group) (λ i. (w.0 i, w.1 i)) may | inr w ↦ law before w.0 x w.1 ]

  -- a beginning of a lawful history is lawful
  pub Lawful_front : (may_add : List G → G → Type 0) (xs log : List (Logged G)) → IsPrefix xs log → Lawful may_add log → Lawful may_add xs
  Lawful_front may_add xs log p law before after x e = law before (after ++ p.0) x (sym p.1 ∙ ap (λ l. l ++ p.0) e ∙ append_assoc before (x ∷ after) p.0)
