-- To be believed.
-- Names for devices, as a list of pairs: each a name, and the device text that it stands for.
use Rattle.std.specs.Prelude.{◌≡◌, ◌≤◌, ◌↔◌, ℕ, Bool, IsTrue, IsFalse, ◌&&◌, nat_le, nat_lt, not, if◌then◌else◌, List, [], ◌∷◌, ◌++◌, length, find, Option, Some, None, option_and_then, Result, Err}
use Rattle.std.specs.List.{list_any}
use Rattle.std.specs.Option.{option_map_or}
use Rattle.std.specs.Str.{bytes_eq}
use Rattle.vx_calls.specs.declared.limits.TheConstants.{DEVICE_MAX}
use Rattle.vx_policy.specs.declared.names.TheConstants.{NAMES_MAX}
use Rattle.vx_policy.specs.declared.names.NameRefused.{NameRefused}
use Rattle.vx_policy.specs.declared.names.NameRefused.TheVariants.{TooLong, Known, TooMany}
use Rattle.vx_policy.specs.Cutting.{cut}

-- a name and a device text are no longer than a device text may be
abbrev pub are_short : (name device : List ℕ) → Bool
are_short name device = nat_le (length name) DEVICE_MAX && nat_le (length device) DEVICE_MAX

-- these have the text as a name
abbrev pub has_name : List (List ℕ × List ℕ) → List ℕ → Bool
has_name names text = list_any (λ row. bytes_eq row.0 text) names

-- What a text stands for: the device text of the first name that it is, or itself where it is none. That isn't looked up again.
abbrev pub device_of : List (List ℕ × List ℕ) → List ℕ → List ℕ
device_of names text = option_map_or (λ row. row.1) (find (λ row. bytes_eq row.0 text) names) text

-- the byte between a name and its device text
abbrev pub equals : ℕ
equals = 61

-- a name that these don't have may be added, where it and its device text are short, and there is room for one more
abbrev pub is_free : List (List ℕ × List ℕ) → (name device : List ℕ) → Bool
is_free names name device = are_short name device && (not (has_name names name) && nat_lt (length names) NAMES_MAX)

-- When each refusal to add a name comes but that for want of memory: the first that fits of these, in this order.
abbrev pub RefusedAsSaid : List (List ℕ × List ℕ) → (name device : List ℕ) → Result Unit NameRefused → Type 0
RefusedAsSaid names name device result =
    ((result ≡ Err TooLong) ↔ IsFalse (are_short name device))
    × ((result ≡ Err Known) ↔ (IsTrue (are_short name device) × IsTrue (has_name names name)))
    × ((result ≡ Err TooMany) ↔ (IsTrue (are_short name device) × IsFalse (has_name names name) × (NAMES_MAX ≤ length names)))

-- the names with the one that a text NAME=DEVICE gives, where that may be added
abbrev pub names_with : List (List ℕ × List ℕ) → List ℕ → Option (List (List ℕ × List ℕ))
names_with names text = option_and_then (λ row. if is_free names row.0 row.1 then Some (names ++ row ∷ []) else None) (cut equals text)

-- the names with all those that these texts give, in order
abbrev pub names_with_all : List (List ℕ × List ℕ) → List (List ℕ) → Option (List (List ℕ × List ℕ))
names_with_all names [] = Some names
names_with_all names (text ∷ texts) = option_and_then (λ more. names_with_all more texts) (names_with names text)
