-- To be believed.
-- What reading a whole source does to the bytes that it tells.
use Rattle.std.specs.Prelude.{◌≡◌, ℕ, ◌+◌, ◌≤◌, ◌<◌, List, ◌++◌, length, IfSome}
use Rattle.std.specs.Io.KnownBytes.{Consumes, IsAtEnd, Keeps}
use Rattle.vx_io_traits.specs.Faults.{Rose}
use Rattle.vx_text.specs.declared.input.Piece.{Piece}
use Rattle.vx_text.specs.declared.input.Piece.TheVariants as piece
use Rattle.vx_text.specs.declared.input.Input.{Input}
use Rattle.vx_text.specs.declared.input.Input.TheVariants as input
use Rattle.vx_text.specs.Ends.{End}

-- the source gave these bytes, which are all that it had, where it tells them
pub record GivesAll (most : ℕ) (before after : End) (bytes : List ℕ) : Type 0 where
  pub given : Consumes before.bytes after.bytes bytes
  pub whole : IfSome before.bytes (λ all. all ≡ bytes)
  pub within : length bytes ≤ most

-- the source gave one byte more than it may
pub record GivesTooMuch (most : ℕ) (before after : End) (bytes : List ℕ) : Type 0 where
  pub given : Consumes before.bytes after.bytes bytes
  pub above : most < length bytes
  pub within : length bytes ≤ most + 1

-- so far a source gave these bytes, no more than one above the most that it may
pub record GaveSoFar (most : ℕ) (before after : End) (bytes : List ℕ) : Type 0 where
  pub given : Consumes before.bytes after.bytes bytes
  pub within : length bytes ≤ most + 1
  pub counted : before.faults ≤ after.faults

-- the source gave no more than so many bytes
pub record GivesUpTo (limit : ℕ) (before after : End) : Type 0 where
  pub bytes : List ℕ
  pub given : Consumes before.bytes after.bytes bytes
  pub within : length bytes ≤ limit

-- What reading a whole source of at most so many bytes answers. Whatever it is, no more than one byte above the most was read.
abbrev pub IsInput : ℕ → End → End → Input → Type 0
IsInput most before after (input.Whole bytes) = GivesAll most before after bytes.items
IsInput most before after input.TooLong = (bytes : List ℕ) × GivesTooMuch most before after bytes
IsInput most before after input.Failed = Rose before.faults after.faults × GivesUpTo (most + 1) before after
IsInput most before after input.NoMemory = GivesUpTo (most + 1) before after

-- one read put what it gave behind the bytes; or it came to the end, or failed, and gave nothing; or what it gave is lost
pub record GivesPiece (room : ℕ) (old new : List ℕ) (before after : End) : Type 0 where
  pub piece : List ℕ
  pub some : 0 < length piece
  pub fits : length piece ≤ room
  pub given : Consumes before.bytes after.bytes piece
  pub behind : new ≡ old ++ piece

abbrev pub IsPiece : ℕ → List ℕ → List ℕ → End → End → Piece → Type 0
IsPiece room old new before after piece.More = GivesPiece room old new before after
IsPiece room old new before after piece.End = (new ≡ old) × IsAtEnd before.bytes × Keeps before.bytes after.bytes
IsPiece room old new before after piece.Failed = Rose before.faults after.faults × Keeps before.bytes after.bytes
IsPiece room old new before after piece.NoMemory = GivesUpTo room before after
