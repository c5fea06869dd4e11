-- What a link that came to a server is seen as.
use Rattle.std.specs.Prelude.{ℕ, List, ◌+◌, ◌-◌, ◌^◌, ◌==◌, if◌then◌else◌, min, length}
use Rattle.vx_io_traits.specs.declared.WriteOut.{WriteOut}
use Rattle.vx_io_traits.specs.declared.WriteOut.TheVariants as out

-- the link, its number among those of its port, and how many of its calls were answered
pub record VisitorState (L : Type 0) : Type 0 where
  pub link : L
  pub number : ℕ
  pub answered : ℕ

-- a send that takes all that is left of a reply answers a call; they are counted up to 2^64 - 1
abbrev pub answered_after : ℕ → List ℕ → WriteOut → ℕ
answered_after count bytes (out.Took n) = if n == length bytes then min (count + 1) (2 ^ 64 - 1) else count
answered_after count bytes out.Failed = count
