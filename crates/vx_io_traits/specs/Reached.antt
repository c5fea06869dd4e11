-- To be believed.
-- What a reach answers, where it tells the one host and port at which it answers `Up`.
use Rattle.std.specs.Prelude.{◌≡◌, ℕ, ⊤, List, Option, None, Some}
use Rattle.vx_io_traits.specs.declared.dials.DialOut.{DialOut}
use Rattle.vx_io_traits.specs.declared.dials.DialOut.TheVariants.{Up, Failed}

-- at that host and port it answers `Up`, and at no others; a host is the bytes of its text
abbrev pub AnswersAt : Option (List ℕ × ℕ) → List ℕ → ℕ → DialOut → Type 0
AnswersAt None host port answer = ⊤
AnswersAt (Some place) host port Up = (host ≡ place.0) × (port ≡ place.1)
AnswersAt (Some place) host port Failed = (host ≡ place.0) × (port ≡ place.1) → ⊥
