-- What a device text names on a gateway of some own address it names to the rules too, which know no own address.
use Rattle.std.proofs.Common.{◌≡◌, ◌==◌, ◌&&◌, not, ℕ, Bool, true, false, cond, List, [], ◌∷◌, Option, Some, None, Result, Ok, Err, refl, ap, arith}
use Rattle.std.specs.Result.{result_ok}
use Rattle.std.proofs.lemmas.Bool.{false≢true}
use Rattle.std.proofs.lemmas.Bool.Decides.{nat_tests}
use Rattle.vx_calls.specs.declared.codes.ErrorCode.{ErrorCode}
use Rattle.vx_calls.specs.declared.codes.ErrorCode.TheVariants as code
use Rattle.vx_calls.specs.declared.targets.Target.{Target}
use Rattle.vx_calls.specs.declared.targets.Target.TheVariants.{Device}
use Rattle.vx_calls.specs.Target.{is_name, is_number, is_gateway, is_address, number_value, comma_parts, device_at, behind, target_of_parts}
use Rattle.vx_policy.specs.declared.made.TheConstants.{NO_OWN}
use Rattle.vx_policy.specs.Laws.{NamedAlike}

-- the target where a test passes, and else an error
abbrev chosen : Bool → Target → ErrorCode → Result Target ErrorCode
chosen b t e = cond b (Ok t) (Err e)

-- such a choice is the target where another test passes wherever the first does
chosen-alike : (b c : Bool) (t named : Target) (e : ErrorCode) → (b ≡ true → c ≡ true) → chosen b t e ≡ Ok named → chosen c t e ≡ Ok named
chosen-alike true true t named e passes is = is
chosen-alike true false t named e passes is = absurd (false≢true (passes refl))
chosen-alike false c t named e passes is = absurd cc

-- under the same test
under : (b : Bool) (x y : Result Target ErrorCode) (e : ErrorCode) (named : Target) → (x ≡ Ok named → y ≡ Ok named) → cond b x (Err e) ≡ Ok named → cond b y (Err e) ≡ Ok named
under true x y e named alike is = alike is
under false x y e named alike is = is

-- no address is that of no bus
device-alike : (own p : ℕ) (second : Option ℕ) (named : Target) → device_at own p second ≡ Ok named → device_at NO_OWN p second ≡ Ok named
device-alike own p None named = chosen-alike (is_address p && not (p == own)) (is_address p && not (p == NO_OWN)) (Device p None) named code.InvalidAddress (λ h. grind (arith, nat_tests))
device-alike own p (Some s) named =
    chosen-alike (is_address p && not (p == own) && is_address s) (is_address p && not (p == NO_OWN) && is_address s) (Device p (Some s)) named code.InvalidAddress (λ h. grind (arith, nat_tests))

-- a text's parts
parts-alike : (own : ℕ) (parts : List (List ℕ)) (named : Target) → target_of_parts own parts ≡ Ok named → target_of_parts NO_OWN parts ≡ Ok named
parts-alike own [] named is = is
parts-alike own (name ∷ []) named is = is
parts-alike own (name ∷ p ∷ []) named is =
    let n = number_value p in
    under (is_name name && is_number p) (behind name (device_at own n None)) (behind name (device_at NO_OWN n None)) code.Syntax named
    (under (is_gateway name) (device_at own n None) (device_at NO_OWN n None) code.NotAccessible named (device-alike own n None named)) is
parts-alike own (name ∷ p ∷ s ∷ []) named is =
    let n = number_value p in
    let m = Some (number_value s) in
    under (is_name name && is_number p && is_number s) (behind name (device_at own n m)) (behind name (device_at NO_OWN n m)) code.Syntax named
    (under (is_gateway name) (device_at own n m) (device_at NO_OWN n m) code.NotAccessible named (device-alike own n m named)) is
parts-alike own (name ∷ p ∷ s ∷ q ∷ more) named is = is

-- the text itself
pub named-alike : NamedAlike
named-alike text own named is = ap result_ok (parts-alike own (comma_parts text) named is)
