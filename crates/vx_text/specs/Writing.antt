-- To be believed.
-- What writing a whole text does to the bytes that a sink tells.
use Rattle.std.specs.Prelude.{ℕ, ◌≤◌, List, Result, Ok, Err, length, take}
use Rattle.std.specs.Io.KnownBytes.{Appends}
use Rattle.vx_io_traits.specs.Faults.{Rose}
use Rattle.vx_text.specs.Ends.{End}

-- so far a sink took a front of the text
pub record TookSoFar (before after : End) (text : List ℕ) (count : ℕ) : Type 0 where
  pub within : count ≤ length text
  pub taken : Appends before.bytes after.bytes (take count text)
  pub counted : before.faults ≤ after.faults

-- the sink failed behind a front of the text
pub record StopsIn (before after : End) (text : List ℕ) : Type 0 where
  pub rose : Rose before.faults after.faults
  pub count : ℕ
  pub within : count ≤ length text
  pub taken : Appends before.bytes after.bytes (take count text)

-- what writing a whole text answers
abbrev pub IsPut : {E : Type 0} → End → End → List ℕ → Result Unit E → Type 0
IsPut before after text (Ok done) = Appends before.bytes after.bytes text
IsPut before after text (Err failed) = StopsIn before after text
