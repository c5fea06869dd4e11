-- The first rule that matches decides.
use Rattle.std.proofs.Common.{◌≡◌, ◌+◌, ℕ, true, false, List, [], ◌∷◌, ◌++◌, length, Option, refl, ap, ◌∙◌, arith}
use Rattle.std.specs.List.{All}
use Rattle.std.proofs.lemmas.List.Elements.{All-head, All-tail}
use Rattle.vx_calls.specs.declared.calls.Proc.{Proc}
use Rattle.vx_calls.specs.declared.targets.Target.{Target}
use Rattle.vx_policy.specs.declared.policy.Verdict.{Verdict}
use Rattle.vx_policy.specs.declared.rules.Rule.{Rule}
use Rattle.vx_policy.specs.Judging.{matches, judged_from}

-- a rule that doesn't match is passed over
pub passed : (number : ℕ) (r : Rule) (rs : List Rule) (peer : ℕ) (asked : Proc) (at : Option Target) → matches r peer asked at ≡ false
    → judged_from number (r ∷ rs) peer asked at ≡ judged_from (number + 1) rs peer asked at
passed number r rs peer asked at unlike = rw unlike refl

-- one that does decides
pub decided : (number : ℕ) (r : Rule) (rs : List Rule) (peer : ℕ) (asked : Proc) (at : Option Target) → matches r peer asked at ≡ true
    → judged_from number (r ∷ rs) peer asked at ≡ record { allow = r.allow; rule = number }
decided number r rs peer asked at like = rw like refl

-- the verdict of a rule of this number
abbrev word_of : Rule → ℕ → Verdict
word_of r n = record { allow = r.allow; rule = n }

pub first-decides : (number : ℕ) (front : List Rule) (r : Rule) (behind : List Rule) (peer : ℕ) (asked : Proc) (at : Option Target)
    → All (λ earlier. matches earlier peer asked at ≡ false) front → matches r peer asked at ≡ true
    → judged_from number (front ++ r ∷ behind) peer asked at ≡ record { allow = r.allow; rule = length front + number }
first-decides number [] r behind peer asked at none like =
    let place : number ≡ length {A = Rule} [] + number = omega arith in
    decided number r behind peer asked at like ∙ ap (λ (n : ℕ). word_of r n) place
first-decides number (f ∷ fs) r behind peer asked at none like =
    let P : Rule → Type 0 = λ earlier. matches earlier peer asked at ≡ false in
    let place : length fs + (number + 1) ≡ length (f ∷ fs) + number = omega arith in
    passed number f (fs ++ r ∷ behind) peer asked at (All-head P f fs none)
    ∙ first-decides (number + 1) fs r behind peer asked at (All-tail P f fs none) like
    ∙ ap (λ (n : ℕ). word_of r n) place

pub none-denies : (number : ℕ) (rules : List Rule) (peer : ℕ) (asked : Proc) (at : Option Target)
    → All (λ r. matches r peer asked at ≡ false) rules → judged_from number rules peer asked at ≡ record { allow = false; rule = 0 }
none-denies number [] peer asked at none = refl
none-denies number (r ∷ rs) peer asked at none =
    let P : Rule → Type 0 = λ earlier. matches earlier peer asked at ≡ false in
    passed number r rs peer asked at (All-head P r rs none) ∙ none-denies (number + 1) rs peer asked at (All-tail P r rs none)
