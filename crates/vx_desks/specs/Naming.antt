-- To be believed.
-- The buses that device texts name.
use Rattle.std.specs.Prelude.{ℕ, ◌-◌, ◌&&◌, ◌==◌, nat_le, if◌then◌else◌, List, [], ◌∷◌, length, take, codes, Option, Some, None}
use Rattle.std.specs.List.{position}
use Rattle.std.specs.Str.{str_eq_ignore_ascii_case}
use Rattle.vx_calls.specs.declared.limits.TheConstants.{DEVICE_MAX}

-- as many bytes of the text as this, or all
abbrev pub fleet_cut_at : List ℕ → Option ℕ → List ℕ
fleet_cut_at text (Some comma) = take comma text
fleet_cut_at text None = text

-- what stands before the first comma of a device text
abbrev pub name_of : List ℕ → List ℕ
name_of text = fleet_cut_at text (position (λ c. c == 44) text)

-- the bus of this name, where it is gpib0 to gpib3, without regard to case
abbrev pub bus_named : List ℕ → Option ℕ
bus_named (g ∷ p ∷ i ∷ b ∷ digit ∷ []) =
    if str_eq_ignore_ascii_case (g ∷ p ∷ i ∷ b ∷ []) (codes "gpib") && nat_le 48 digit && nat_le digit 51 then Some (digit - 48) else None
bus_named _ = None

-- the bus that a device text names; no create_link has a text of more than DEVICE_MAX bytes
abbrev pub bus_of : List ℕ → Option ℕ
bus_of text = if nat_le (length text) DEVICE_MAX then bus_named (name_of text) else None
