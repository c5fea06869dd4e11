-- Facts for one answer of a read or a write; where the answer is another, each holds.
use Rattle.std.specs.Prelude.{ℕ, ⊤}
use Rattle.vx_io_traits.specs.declared.ReadOut.{ReadOut}
use Rattle.vx_io_traits.specs.declared.ReadOut.TheVariants.{Got, End, Failed}
use Rattle.vx_io_traits.specs.declared.WriteOut.{WriteOut}
use Rattle.vx_io_traits.specs.declared.WriteOut.TheVariants.{Took, Failed as Refused}

-- a fact on how many bytes a read gave
abbrev pub IfGot : ReadOut → (ℕ → Type 0) → Type 0
IfGot (Got n) P = P n
IfGot End P = ⊤
IfGot Failed P = ⊤

-- a fact for a read that came to the end
abbrev pub OnEnd : ReadOut → Type 0 → Type 0
OnEnd (Got n) P = ⊤
OnEnd End P = P
OnEnd Failed P = ⊤

-- a fact for a read that failed
abbrev pub OnReadFailed : ReadOut → Type 0 → Type 0
OnReadFailed (Got n) P = ⊤
OnReadFailed End P = ⊤
OnReadFailed Failed P = P

-- a fact on how many bytes a write took
abbrev pub IfTook : WriteOut → (ℕ → Type 0) → Type 0
IfTook (Took n) P = P n
IfTook Refused P = ⊤

-- a fact for a write that failed
abbrev pub OnWriteFailed : WriteOut → Type 0 → Type 0
OnWriteFailed (Took n) P = ⊤
OnWriteFailed Refused P = P
