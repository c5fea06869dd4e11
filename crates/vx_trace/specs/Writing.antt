-- What a write leaves in a list.
use Rattle.std.specs.Prelude.{◌≡◌, ℕ, ◌+◌, ◌<◌, ◌≤◌, List, length, Result, Ok, Err}
pub use Rattle.vx_xdr.specs.Writing.{overwritten, WritesFirst}
use Rattle.vx_trace.specs.declared.lines.Full.{Full}

-- what an attempt to write the text at the list's start leaves
abbrev pub Puts : List ℕ → List ℕ → Result ℕ Full → List ℕ → Type 0
Puts text old (Ok n) new = WritesFirst text old n new × (length text ≤ length old)
Puts text old (Err full) new = (length old < length text) × (new ≡ old)

-- what an attempt to write the text behind the first items of a list leaves
abbrev pub PutsBehind : ℕ → List ℕ → List ℕ → Result ℕ Full → List ℕ → Type 0
PutsBehind at text old (Ok n) new = (new ≡ overwritten old at text) × (n ≡ length text) × (at + length text ≤ length old)
PutsBehind at text old (Err full) new = (length old < at + length text) × (new ≡ old)
