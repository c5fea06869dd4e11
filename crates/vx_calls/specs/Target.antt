-- To be believed.
-- The device text of a create_link, what it names, and when two targets conflict.
use Rattle.std.specs.Prelude.{◌≢◌, ◌≤◌, ⊤, ℕ, ◌+◌, ◌-◌, ◌*◌, Bool, true, false, not, ◌&&◌, ◌||◌, ◌==◌, nat_le, if◌then◌else◌, List, [], ◌∷◌, fold, Option, Some, None, Result, Ok, Err}
use Rattle.std.specs.List.{list_all, slice_split}
use Rattle.vx_calls.specs.declared.targets.TheConstants.{ADDRESS_MAX}
use Rattle.vx_calls.specs.declared.codes.ErrorCode.{ErrorCode}
use Rattle.vx_calls.specs.declared.codes.ErrorCode.TheVariants as code
use Rattle.vx_calls.specs.declared.targets.Target.{Target}
use Rattle.vx_calls.specs.declared.targets.Target.TheVariants.{Interface, Device}

-- an ASCII digit, an ASCII letter
abbrev pub is_digit : ℕ → Bool
is_digit c = nat_le 48 c && nat_le c 57

abbrev pub is_letter : ℕ → Bool
is_letter c = (nat_le 65 c && nat_le c 90) || (nat_le 97 c && nat_le c 122)

-- a letter followed by letters and digits
abbrev pub is_name : List ℕ → Bool
is_name [] = false
is_name (c ∷ cs) = is_letter c && list_all (λ d. is_letter d || is_digit d) cs

-- one or more decimal digits; leading zeros are allowed
abbrev pub is_number : List ℕ → Bool
is_number [] = false
is_number (d ∷ ds) = list_all is_digit (d ∷ ds)

-- what decimal digits stand for
abbrev pub number_value : List ℕ → ℕ
number_value ds = fold (λ n d. 10 * n + (d - 48)) 0 ds

-- what stands before, between and after the commas of a text: one part more than there are commas
abbrev pub comma_parts : List ℕ → List (List ℕ)
comma_parts text = slice_split (λ c. c == 44) text

-- the letter in lower case
abbrev pub lower : ℕ → ℕ
lower c = if nat_le 65 c && nat_le c 90 then c + 32 else c

-- the name of this gateway's one interface, in any case
abbrev pub is_gateway : List ℕ → Bool
is_gateway (g ∷ p ∷ i ∷ b ∷ n ∷ []) = (lower g == 103) && (lower p == 112) && (lower i == 105) && (lower b == 98) && (n == 48)
is_gateway _ = false

-- a bus address is 0 to 30
abbrev pub is_address : ℕ → Bool
is_address n = nat_le n ADDRESS_MAX

-- the device at these addresses, which isn't the gateway itself
abbrev pub device_at : ℕ → ℕ → Option ℕ → Result Target ErrorCode
device_at own p None = if is_address p && not (p == own) then Ok (Device p None) else Err code.InvalidAddress
device_at own p (Some s) = if is_address p && not (p == own) && is_address s then Ok (Device p (Some s)) else Err code.InvalidAddress

-- what stands behind a name, where the name is this gateway's
abbrev pub behind : List ℕ → Result Target ErrorCode → Result Target ErrorCode
behind name found = if is_gateway name then found else Err code.NotAccessible

-- a name alone is the interface; a name and one or two numbers are a device
abbrev pub target_of_parts : ℕ → List (List ℕ) → Result Target ErrorCode
target_of_parts own (name ∷ []) = if is_name name then behind name (Ok Interface) else Err code.Syntax
target_of_parts own (name ∷ p ∷ []) =
    if is_name name && is_number p then behind name (device_at own (number_value p) None) else Err code.Syntax
target_of_parts own (name ∷ p ∷ s ∷ []) =
    if is_name name && is_number p && is_number s then behind name (device_at own (number_value p) (Some (number_value s))) else Err code.Syntax
target_of_parts own _ = Err code.Syntax

-- what a device text names on a gateway with this own address (VXI-11, create_link; VXI-11.2, device texts)
abbrev pub target : List ℕ → ℕ → Result Target ErrorCode
target text own = target_of_parts own (comma_parts text)

-- a name, and behind it nothing, a number or two numbers
abbrev pub has_form : List (List ℕ) → Bool
has_form (name ∷ []) = is_name name
has_form (name ∷ p ∷ []) = is_name name && is_number p
has_form (name ∷ p ∷ s ∷ []) = is_name name && is_number p && is_number s
has_form _ = false

-- the first part is the name of this gateway's one interface
abbrev pub has_gateway : List (List ℕ) → Bool
has_gateway [] = false
has_gateway (name ∷ numbers) = is_gateway name

-- the numbers are addresses, and the first isn't the gateway's own
abbrev pub has_addresses : ℕ → List (List ℕ) → Bool
has_addresses own (name ∷ p ∷ []) = is_address (number_value p) && not (number_value p == own)
has_addresses own (name ∷ p ∷ s ∷ []) =
    is_address (number_value p) && not (number_value p == own) && is_address (number_value s)
has_addresses own _ = true

-- the text has the form of a device text
abbrev pub is_device_text : List ℕ → Bool
is_device_text text = has_form (comma_parts text)

-- the text begins with the name of this gateway's one interface
abbrev pub names_gateway : List ℕ → Bool
names_gateway text = has_gateway (comma_parts text)

-- the text's numbers may be the addresses of a device on a gateway with this own address
abbrev pub names_device : List ℕ → ℕ → Bool
names_device text own = has_addresses own (comma_parts text)

-- a device that a gateway with this own address can reach: its addresses are 0 to 30, and it isn't the gateway
abbrev pub IsReachable : ℕ → Target → Type 0
IsReachable own Interface = ⊤
IsReachable own (Device p None) = (p ≤ ADDRESS_MAX) × (p ≢ own)
IsReachable own (Device p (Some s)) = (p ≤ ADDRESS_MAX) × (p ≢ own) × (s ≤ ADDRESS_MAX)

-- either is the interface, or both have one primary address
abbrev pub conflict : Target → Target → Bool
conflict Interface b = true
conflict (Device p s) Interface = true
conflict (Device p s) (Device q t) = p == q
