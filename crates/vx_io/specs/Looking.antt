-- What a look at a stream says of the bytes that it gave.
use Rattle.std.specs.Prelude.{ℕ, ⊤}
use Rattle.vx_io.specs.declared.sockets.Seen.{Seen}
use Rattle.vx_io.specs.declared.sockets.Seen.TheVariants as seen

-- where a look gave bytes, this holds of their number
abbrev pub OnGot : Seen → (ℕ → Type 0) → Type 0
OnGot (seen.Got n) P = P n
OnGot _ P = ⊤
