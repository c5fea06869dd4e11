-- A sink over memory: what it took, and which of its writes fail.
use Rattle.std.specs.Prelude.{◌≡◌, ℕ, true, List, ◌++◌, take}
use Rattle.vx_io_traits.specs.Faults.{one_more, fails_next}
use Rattle.vx_io_traits.specs.declared.WriteOut.{WriteOut}
use Rattle.vx_io_traits.specs.declared.WriteOut.TheVariants.{Took, Failed}

pub record SinkState : Type 0 where
  -- the bytes that it took, behind those that its room held
  pub taken : List ℕ
  -- the numbers of the writes that fail, counted from 1
  pub fails : List ℕ
  -- how many writes there were
  pub calls : ℕ
  -- how many of them failed
  pub faults : ℕ

-- what a write of so many bytes may answer: all of them where the call isn't one that fails, and a fault
abbrev pub IsWriteAnswer : SinkState → ℕ → WriteOut → Type 0
IsWriteAnswer s count (Took n) = (n ≡ count) × (fails_next s.fails s.calls ≡ true → ⊥)
IsWriteAnswer s count Failed = Unit {0}

-- the sink after that answer
abbrev pub after_write : SinkState → List ℕ → WriteOut → SinkState
after_write s bytes (Took n) = record s { taken = s.taken ++ take n bytes; calls = one_more s.calls }
after_write s bytes Failed = record s { calls = one_more s.calls; faults = one_more s.faults }
