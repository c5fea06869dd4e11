-- What refuses a create_link is an error: what its device text comes to, and its checks.
use Rattle.std.proofs.Common.{◌≡◌, ◌==◌, ◌&&◌, not, ℕ, Bool, true, false, cond, List, [], ◌∷◌, Option, Some, None, Result, Ok, Err, refl}
use Rattle.vx_calls.specs.declared.codes.ErrorCode.{ErrorCode}
use Rattle.vx_calls.specs.declared.codes.ErrorCode.TheVariants as code
use Rattle.vx_calls.specs.declared.targets.Target.{Target}
use Rattle.vx_calls.specs.declared.targets.Target.TheVariants.{Interface, Device}
use Rattle.vx_calls.specs.ErrorCode.{same_error}
use Rattle.vx_calls.specs.Target.{is_name, is_number, is_address, is_gateway, number_value, device_at, behind, target_of_parts}
use Rattle.vx_rules.specs.Table.{is_full}
use Rattle.vx_rules.specs.State.{Tables}
use Rattle.vx_rules.specs.Checks.{check_create}

-- what isn't the code for no error
abbrev pub IsError : ErrorCode → Type 0
IsError e = same_error e code.Ok ≡ false

-- a device text that names nothing
abbrev pub NamesWell : Result Target ErrorCode → Type 0
NamesWell (Ok named) = Unit {0}
NamesWell (Err e) = IsError e

-- the parts of the walk: an error of two ways, a device, a name and what is behind it, a whole text
pub named-if : (b : Bool) (found : Result Target ErrorCode) (e : ErrorCode) → NamesWell found → IsError e → NamesWell (cond b found (Err e))
named-if true found e well is = well
named-if false found e well is = is

pub device-well : (own p : ℕ) (second : Option ℕ) → NamesWell (device_at own p second)
device-well own p None = named-if (is_address p && not (p == own)) (Ok (Device p None)) code.InvalidAddress tt refl
device-well own p (Some s) = named-if (is_address p && not (p == own) && is_address s) (Ok (Device p (Some s))) code.InvalidAddress tt refl

pub behind-well : (name : List ℕ) (found : Result Target ErrorCode) → NamesWell found → NamesWell (behind name found)
behind-well name found well = named-if (is_gateway name) found code.NotAccessible well refl

pub parts-well : (own : ℕ) (parts : List (List ℕ)) → NamesWell (target_of_parts own parts)
parts-well own [] = refl
parts-well own (name ∷ []) = named-if (is_name name) (behind name (Ok Interface)) code.Syntax (behind-well name (Ok Interface) tt) refl
parts-well own (name ∷ p ∷ []) =
    let found = device_at own (number_value p) None in
    named-if (is_name name && is_number p) (behind name found) code.Syntax (behind-well name found (device-well own (number_value p) None)) refl
parts-well own (name ∷ p ∷ s ∷ []) =
    let found = device_at own (number_value p) (Some (number_value s)) in
    named-if (is_name name && is_number p && is_number s) (behind name found) code.Syntax
    (behind-well name found (device-well own (number_value p) (Some (number_value s)))) refl
parts-well own (name ∷ p ∷ s ∷ q ∷ more) = refl

-- a check that refuses
abbrev pub ChecksWell : Option ErrorCode → Type 0
ChecksWell None = Unit {0}
ChecksWell (Some e) = IsError e

-- the checks of a create_link
pub create-checks : (t : Tables) (named : Result Target ErrorCode) → NamesWell named → ChecksWell (check_create t named)
create-checks t (Err e) well = well
create-checks t (Ok named) well = by (is_full t.links) where
  by : (b : Bool) → ChecksWell (cond b (Some code.NoResources) None)
  by true = refl
  by false = tt
