-- A source over memory: what it has left to give, in which pieces, and which of its reads fail.
use Rattle.std.specs.Prelude.{ℕ, ◌==◌, min, List, ◌++◌, length, take, drop, if◌then◌else◌}
use Rattle.vx_io_traits.specs.Faults.{one_more, fails_next}
use Rattle.vx_io_traits.specs.declared.ReadOut.{ReadOut}
use Rattle.vx_io_traits.specs.declared.ReadOut.TheVariants.{Got, End, Failed}

pub record SourceState : Type 0 where
  -- the bytes that it has left to give
  pub left : List ℕ
  -- the most bytes that one read gives
  pub piece : ℕ
  -- the numbers of the reads that fail, counted from 1
  pub fails : List ℕ
  -- how many reads there were
  pub calls : ℕ
  -- how many of them failed
  pub faults : ℕ

-- what a read into a slice of this length answers
abbrev pub read_answer : SourceState → ℕ → ReadOut
read_answer s room =
    if fails_next s.fails s.calls then Failed
    else (if length s.left == 0 then End else Got (min (min s.piece room) (length s.left)))

-- what stands in the slice after that answer: the bytes that were given, and what stood behind them
abbrev pub read_slice : SourceState → List ℕ → ReadOut → List ℕ
read_slice s slice (Got n) = take n s.left ++ drop n slice
read_slice s slice End = slice
read_slice s slice Failed = slice

-- the source after that answer
abbrev pub after_read : SourceState → ReadOut → SourceState
after_read s (Got n) = record s { left = drop n s.left; calls = one_more s.calls }
after_read s End = record s { calls = one_more s.calls }
after_read s Failed = record s { calls = one_more s.calls; faults = one_more s.faults }
