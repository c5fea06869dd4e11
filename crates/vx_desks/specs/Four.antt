-- To be believed.
-- Four of a kind, by their numbers 0 to 3.
use Rattle.std.specs.Prelude.{ℕ, zero, suc, List, [], ◌∷◌}

pub record Four (A : Type 0) : Type 0 where
  pub zero_ : A
  pub one : A
  pub two : A
  pub three : A

module _ {A : Type 0} where
  -- the one of this number
  abbrev pub at : ℕ → Four A → A
  at zero f = f.zero_
  at (suc zero) f = f.one
  at (suc (suc zero)) f = f.two
  at (suc (suc (suc n))) f = f.three

  -- all four, with this one in the place of the one of this number
  abbrev pub put : ℕ → A → Four A → Four A
  put zero x f = record { zero_ = x; one = f.one; two = f.two; three = f.three }
  put (suc zero) x f = record { zero_ = f.zero_; one = x; two = f.two; three = f.three }
  put (suc (suc zero)) x f = record { zero_ = f.zero_; one = f.one; two = x; three = f.three }
  put (suc (suc (suc n))) x f = record { zero_ = f.zero_; one = f.one; two = f.two; three = x }

  -- all four, with the one of this number in the first place and the first one in its
  abbrev pub swapped : ℕ → Four A → Four A
  swapped zero f = f
  swapped (suc zero) f = record { zero_ = f.one; one = f.zero_; two = f.two; three = f.three }
  swapped (suc (suc zero)) f = record { zero_ = f.two; one = f.one; two = f.zero_; three = f.three }
  swapped (suc (suc (suc n))) f = record { zero_ = f.three; one = f.one; two = f.two; three = f.zero_ }

-- a fact of each of four, beside the one of the same number of four others
pub record Each {A B : Type 0} (P : A → B → Type 0) (f : Four A) (g : Four B) : Type 0 where
  pub zero_ : P f.zero_ g.zero_
  pub one : P f.one g.one
  pub two : P f.two g.two
  pub three : P f.three g.three

-- and beside two of the same number
pub record EachOf {A B C : Type 0} (P : A → B → C → Type 0) (f : Four A) (g : Four B) (h : Four C) : Type 0 where
  pub zero_ : P f.zero_ g.zero_ h.zero_
  pub one : P f.one g.one h.one
  pub two : P f.two g.two h.two
  pub three : P f.three g.three h.three

-- all four, in the order of their numbers
abbrev pub listed : {A : Type 0} → Four A → List A
listed f = f.zero_ ∷ f.one ∷ f.two ∷ f.three ∷ []
