-- To be believed.
-- The box that the words of a server name, and what stands behind it among them.
use Rattle.std.specs.Prelude.{◌≡◌, ◌≤◌, ◌==◌, ℕ, Bool, false, if◌then◌else◌, List, [], ◌∷◌, length, map, codes, decimal, string_bytes, Option, Some, None}
use Rattle.vx_calls.specs.declared.limits.TheConstants.{DEVICE_MAX}
use Rattle.vx_relay.specs.declared.words.Upstream.{Upstream}
use Rattle.vx_relay.specs.declared.words.Split.{Split}

-- where a box is, and the name of the interface behind which its bus is
pub record Place : Type 0 where
  pub host : List ℕ
  pub port : ℕ
  pub name : List ℕ

abbrev pub place_shown : Upstream → Place
place_shown u = record { host = u.host.now; port = u.port; name = u.name.now }

-- the words `HOST PORT NAME`, where NAME is gpib0 in place of one that is left out, and those behind them
pub record Parts : Type 0 where
  pub host : List ℕ
  pub port : List ℕ
  pub name : List ℕ
  pub rest : List (List ℕ)

abbrev pub parts_shown : Split → Parts
parts_shown s = record { host = s.host.now; port = s.port.now; name = s.name.now; rest = map string_bytes s.rest.now }

-- whether a word begins an option
abbrev pub is_option : List ℕ → Bool
is_option [] = false
is_option (c ∷ cs) = c == 45

-- the name that stands first of these, where none of them begins an option
abbrev pub parts_behind : (host port : List ℕ) → List (List ℕ) → Parts
parts_behind host port [] = record { host = host; port = port; name = codes "gpib0"; rest = [] }
parts_behind host port (word ∷ rest) =
    if is_option word
    then record { host = host; port = port; name = codes "gpib0"; rest = word ∷ rest }
    else record { host = host; port = port; name = word; rest = rest }

abbrev pub parts_of : List (List ℕ) → Option Parts
parts_of (host ∷ port ∷ rest) = Some (parts_behind host port rest)
parts_of _ = None

-- The words name this box, and these stand behind it: the port is 1 to 65,535 in decimal digits without a leading zero, and the name
-- is no longer than a device text may be.
pub record IsPlace (words : List (List ℕ)) (place : Place) (rest : List (List ℕ)) : Type 0 where
  pub port : List ℕ
  pub parts : parts_of words ≡ Some (record { host = place.host; port = port; name = place.name; rest = rest })
  pub least : 1 ≤ place.port
  pub most : place.port ≤ 65535
  pub port_is : port ≡ decimal place.port
  pub short : length place.name ≤ DEVICE_MAX

-- they name none
abbrev pub NoPlace : List (List ℕ) → Type 0
NoPlace words = (place : Place) (rest : List (List ℕ)) → IsPlace words place rest → ⊥
