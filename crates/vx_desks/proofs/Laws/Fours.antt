-- Four of a kind: one that is put in its place, and one that is brought to the first place and back.
use Rattle.std.proofs.Common.{◌≡◌, ◌≢◌, ◌≤◌, ℕ, zero, suc, refl, ap, ◌∙◌, arith}
use Rattle.vx_desks.specs.Four.{Four, at, put, swapped, Each}
use Rattle.vx_gate.specs.PassView.{PassView}
use Rattle.vx_group.specs.Groups.{Group}
use Rattle.vx_desks.specs.FleetServing.{numbers}

module _ {A : Type 0} where
  -- the first of them, with the one of a number brought there
  pub swapped-first : (b : ℕ) (f : Four A) → (swapped b f).zero_ ≡ at b f
  swapped-first zero f = refl
  swapped-first (suc zero) f = refl
  swapped-first (suc (suc zero)) f = refl
  swapped-first (suc (suc (suc n))) f = refl

  -- and brought back as another
  pub swapped-back : (b : ℕ) (f : Four A) (x : A) → swapped b (record { zero_ = x; one = (swapped b f).one; two = (swapped b f).two; three = (swapped b f).three }) ≡ put b x f
  swapped-back zero f x = refl
  swapped-back (suc zero) f x = refl
  swapped-back (suc (suc zero)) f x = refl
  swapped-back (suc (suc (suc n))) f x = refl

  -- so the one that was brought there is the one of that number
  pub brought : (b : ℕ) (f first : Four A) → first ≡ swapped b f → first.zero_ ≡ at b f
  brought b f first is = ap (λ (h : Four A). h.zero_) is ∙ swapped-first b f

  -- and all are as they were but that one, as it is behind
  pub put-back : (b : ℕ) (f first last : Four A) (x : A) → first ≡ swapped b f → last ≡ swapped b (record { zero_ = x; one = first.one; two = first.two; three = first.three }) → last ≡ put b x f
  put-back b f first last x is back = back ∙ ap (λ (h : Four A). swapped b (record { zero_ = x; one = h.one; two = h.two; three = h.three })) is ∙ swapped-back b f x

  -- the one that was put in its place
  pub at-put : (b : ℕ) (x : A) (f : Four A) → at b (put b x f) ≡ x
  at-put zero x f = refl
  at-put (suc zero) x f = refl
  at-put (suc (suc zero)) x f = refl
  at-put (suc (suc (suc n))) x f = refl

  -- as it was there, all stay as they were
  pub put-same : (b : ℕ) (f : Four A) → put b (at b f) f ≡ f
  put-same zero f = refl
  put-same (suc zero) f = refl
  put-same (suc (suc zero)) f = refl
  put-same (suc (suc (suc n))) f = refl

  -- each other one stays
  pub at-put-other : (b k : ℕ) (x : A) (f : Four A) → b ≤ 3 → k ≤ 3 → b ≢ k → at b (put k x f) ≡ at b f
  at-put-other zero zero x f hb hk ne = absurd (ne refl)
  at-put-other zero (suc zero) x f hb hk ne = refl
  at-put-other zero (suc (suc zero)) x f hb hk ne = refl
  at-put-other zero (suc (suc (suc m))) x f hb hk ne = refl
  at-put-other (suc zero) zero x f hb hk ne = refl
  at-put-other (suc zero) (suc zero) x f hb hk ne = absurd (ne refl)
  at-put-other (suc zero) (suc (suc zero)) x f hb hk ne = refl
  at-put-other (suc zero) (suc (suc (suc m))) x f hb hk ne = refl
  at-put-other (suc (suc zero)) zero x f hb hk ne = refl
  at-put-other (suc (suc zero)) (suc zero) x f hb hk ne = refl
  at-put-other (suc (suc zero)) (suc (suc zero)) x f hb hk ne = absurd (ne refl)
  at-put-other (suc (suc zero)) (suc (suc (suc m))) x f hb hk ne = refl
  at-put-other (suc (suc (suc n))) zero x f hb hk ne = refl
  at-put-other (suc (suc (suc n))) (suc zero) x f hb hk ne = refl
  at-put-other (suc (suc (suc n))) (suc (suc zero)) x f hb hk ne = refl
  at-put-other (suc (suc (suc n))) (suc (suc (suc m))) x f hb hk ne =
      let same : suc (suc (suc n)) ≡ suc (suc (suc m)) = omega arith in
      absurd (ne same)

-- a fact of each of four is one of the one of a number
pub each-at : {A B : Type 0} (P : A → B → Type 0) (b : ℕ) (f : Four A) (g : Four B) → Each P f g → P (at b f) (at b g)
each-at P zero f g each = each.zero_
each-at P (suc zero) f g each = each.one
each-at P (suc (suc zero)) f g each = each.two
each-at P (suc (suc (suc n))) f g each = each.three

-- and stays one of each where it is one of what was put in
pub each-put : {A B : Type 0} (P : A → B → Type 0) (b : ℕ) (x : A) (f : Four A) (g : Four B) → Each P f g → P x (at b g) → Each P (put b x f) g
each-put P zero x f g each here = record { zero_ = here; one = each.one; two = each.two; three = each.three }
each-put P (suc zero) x f g each here = record { zero_ = each.zero_; one = here; two = each.two; three = each.three }
each-put P (suc (suc zero)) x f g each here = record { zero_ = each.zero_; one = each.one; two = here; three = each.three }
each-put P (suc (suc (suc n))) x f g each here = record { zero_ = each.zero_; one = each.one; two = each.two; three = here }

-- what holds of each number up to 3
pub each-number : (P : ℕ → Type 0) → P 0 → P 1 → P 2 → P 3 → (b : ℕ) → b ≤ 3 → P b
each-number P p0 p1 p2 p3 zero h = p0
each-number P p0 p1 p2 p3 (suc zero) h = p1
each-number P p0 p1 p2 p3 (suc (suc zero)) h = p2
each-number P p0 p1 p2 p3 (suc (suc (suc zero))) h = p3
each-number P p0 p1 p2 p3 (suc (suc (suc (suc n)))) h = absurd (omega arith)

-- the numbers of passes, one of which went on
pub numbers-put : (b : ℕ) (own : PassView Group) (f : Four (PassView Group)) → own.number ≡ (at b f).number → numbers (put b own f) ≡ numbers f
numbers-put zero own f same = ap (λ n. record { zero_ = n; one = f.one.number; two = f.two.number; three = f.three.number }) same
numbers-put (suc zero) own f same = ap (λ n. record { zero_ = f.zero_.number; one = n; two = f.two.number; three = f.three.number }) same
numbers-put (suc (suc zero)) own f same = ap (λ n. record { zero_ = f.zero_.number; one = f.one.number; two = n; three = f.three.number }) same
numbers-put (suc (suc (suc n))) own f same = ap (λ k. record { zero_ = f.zero_.number; one = f.one.number; two = f.two.number; three = k }) same
