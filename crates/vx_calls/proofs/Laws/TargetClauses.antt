-- When each answer of a device text comes, read off its meaning.
use Rattle.std.proofs.Common.{◌≡◌, ℕ, Bool, true, false, cond, subst, sym, ◌∙◌, List, [], ◌∷◌, refl, arith}
use Rattle.std.specs.Prelude.{◌↔◌, IsTrue, IsOk, IfOk, None, Some, Result, Ok, Err}
use Rattle.std.specs.Bool.{IsFalse}
use Rattle.std.proofs.lemmas.Bool.{false≢true}
use Rattle.std.proofs.lemmas.Bool.Decides.{nat_tests}
use Rattle.vx_calls.specs.declared.codes.ErrorCode.{ErrorCode}
use Rattle.vx_calls.specs.declared.codes.ErrorCode.TheVariants as code
use Rattle.vx_calls.specs.declared.targets.Target.{Target}
use Rattle.vx_calls.specs.declared.targets.Target.TheVariants.{Interface, Device}
use Rattle.vx_calls.specs.Target.{number_value, target_of_parts, comma_parts, target, is_device_text, names_gateway, names_device, has_form, has_gateway, has_addresses, IsReachable}

-- the target of a text that names one
abbrev found : List (List ℕ) → Target
found (name ∷ p ∷ []) = Device (number_value p) None
found (name ∷ p ∷ s ∷ []) = Device (number_value p) (Some (number_value s))
found _ = Interface

-- three tests in order
abbrev graded : Bool → Bool → Bool → Target → Result Target ErrorCode
graded form gateway addresses t = cond form (cond gateway (cond addresses (Ok t) (Err code.InvalidAddress)) (Err code.NotAccessible)) (Err code.Syntax)

target_of_parts-graded : (own : ℕ) (parts : List (List ℕ)) → target_of_parts own parts ≡ graded (has_form parts) (has_gateway parts) (has_addresses own parts) (found parts)
target_of_parts-graded own [] = refl
target_of_parts-graded own (name ∷ []) = refl
target_of_parts-graded own (name ∷ p ∷ []) = refl
target_of_parts-graded own (name ∷ p ∷ s ∷ []) = refl
target_of_parts-graded own (name ∷ p ∷ s ∷ q ∷ rest) = refl

syntax_graded : (f g a : Bool) (t : Target) → (graded f g a t ≡ Err code.Syntax) ↔ IsFalse f
syntax_graded true true true t = (λ e. cc, λ e. cc)
syntax_graded true true false t = (λ e. cc, λ e. cc)
syntax_graded true false a t = (λ e. cc, λ e. cc)
syntax_graded false g a t = (λ e. refl, λ e. refl)

not_accessible_graded : (f g a : Bool) (t : Target) → (graded f g a t ≡ Err code.NotAccessible) ↔ (IsTrue f × IsFalse g)
not_accessible_graded true true true t = (λ e. cc, λ e. cc)
not_accessible_graded true true false t = (λ e. cc, λ e. cc)
not_accessible_graded true false a t = (λ e. (refl, refl), λ e. refl)
not_accessible_graded false g a t = (λ e. cc, λ e. cc)

invalid_address_graded : (f g a : Bool) (t : Target) → (graded f g a t ≡ Err code.InvalidAddress) ↔ (IsTrue f × IsTrue g × IsFalse a)
invalid_address_graded true true true t = (λ e. cc, λ e. cc)
invalid_address_graded true true false t = (λ e. (refl, refl, refl), λ e. refl)
invalid_address_graded true false a t = (λ e. cc, λ e. cc)
invalid_address_graded false g a t = (λ e. cc, λ e. cc)

ok_graded : (f g a : Bool) (t : Target) → IsOk (graded f g a t) ↔ (IsTrue f × IsTrue g × IsTrue a)
ok_graded true true true t = (λ e. (refl, refl, refl), λ e. refl)
ok_graded true true false t = (λ e. absurd (false≢true e), λ e. cc)
ok_graded true false a t = (λ e. absurd (false≢true e), λ e. cc)
ok_graded false g a t = (λ e. absurd (false≢true e), λ e. cc)

reachable_graded : (f g : Bool) (own : ℕ) (a : Bool) (t : Target) → (a ≡ true → IsReachable own t) → IfOk (graded f g a t) (IsReachable own)
reachable_graded true true own true t h = h refl
reachable_graded true true own false t h = tt
reachable_graded true false own a t h = tt
reachable_graded false g own a t h = tt

found-reachable : (own : ℕ) (parts : List (List ℕ)) → has_addresses own parts ≡ true → IsReachable own (found parts)
found-reachable own [] h = tt
found-reachable own (name ∷ []) h = tt
found-reachable own (name ∷ p ∷ []) h = grind (arith, nat_tests)
found-reachable own (name ∷ p ∷ s ∷ []) h = grind (arith, nat_tests)
found-reachable own (name ∷ p ∷ s ∷ q ∷ rest) h = tt

-- the clauses of target_of, as one record, for a result that is the target of a text
pub record Says (text : List ℕ) (own : ℕ) (r : Result Target ErrorCode) : Type 0 where
  pub value : r ≡ target text own
  pub reachable : IfOk r (IsReachable own)
  pub syntax : (r ≡ Err code.Syntax) ↔ IsFalse (is_device_text text)
  pub not_accessible : (r ≡ Err code.NotAccessible) ↔ (IsTrue (is_device_text text) × IsFalse (names_gateway text))
  pub invalid_address : (r ≡ Err code.InvalidAddress) ↔ (IsTrue (is_device_text text) × IsTrue (names_gateway text) × IsFalse (names_device text own))
  pub ok : IsOk r ↔ (IsTrue (is_device_text text) × IsTrue (names_gateway text) × IsTrue (names_device text own))

graded-says : (text : List ℕ) (own : ℕ) (r : Result Target ErrorCode)
    → r ≡ target text own
    → r ≡ graded (has_form (comma_parts text)) (has_gateway (comma_parts text)) (has_addresses own (comma_parts text)) (found (comma_parts text))
    → Says text own r
graded-says text own r value e =
    let parts = comma_parts text in
    let f = has_form parts in
    let g = has_gateway parts in
    let a = has_addresses own parts in
    let t = found parts in
    record {
      value = value;
      reachable = subst (λ (q : Result Target ErrorCode). IfOk q (IsReachable own)) (sym e) (reachable_graded f g own a t (found-reachable own parts));
      syntax = subst (λ (q : Result Target ErrorCode). (q ≡ Err code.Syntax) ↔ IsFalse f) (sym e) (syntax_graded f g a t);
      not_accessible = subst (λ (q : Result Target ErrorCode). (q ≡ Err code.NotAccessible) ↔ (IsTrue f × IsFalse g)) (sym e) (not_accessible_graded f g a t);
      invalid_address = subst (λ (q : Result Target ErrorCode). (q ≡ Err code.InvalidAddress) ↔ (IsTrue f × IsTrue g × IsFalse a)) (sym e) (invalid_address_graded f g a t);
      ok = subst (λ (q : Result Target ErrorCode). IsOk q ↔ (IsTrue f × IsTrue g × IsTrue a)) (sym e) (ok_graded f g a t);
    }

pub target-says : (text : List ℕ) (own : ℕ) (r : Result Target ErrorCode) → r ≡ target text own → Says text own r
target-says text own r e = graded-says text own r e (e ∙ target_of_parts-graded own (comma_parts text))
