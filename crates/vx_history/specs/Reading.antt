-- What reading a trace does to the bytes that its source tells.
use Rattle.std.specs.Prelude.{◌≡◌, ℕ, ◌+◌, List}
use Rattle.std.specs.Io.KnownBytes.{IsAtEnd, Keeps}
use Rattle.vx_io_traits.specs.Faults.{Rose}
use Rattle.vx_text.specs.Ends.{End}
use Rattle.vx_text.specs.Reading.{GivesAll, GivesTooMuch, GivesUpTo, GivesPiece}
use Rattle.vx_history.specs.declared.trace.Trace.{Trace}
use Rattle.vx_history.specs.declared.trace.Trace.TheVariants as trace
use Rattle.vx_history.specs.declared.trace.Piece.{Piece}
use Rattle.vx_history.specs.declared.trace.Piece.TheVariants as piece

-- what reading a trace answers; whatever it is, no more than one byte above the most was read
abbrev pub IsTrace : ℕ → End → End → Trace → Type 0
IsTrace most before after (trace.Whole bytes) = GivesAll most before after bytes.items
IsTrace most before after (trace.Longer bytes) = GivesTooMuch most before after bytes.items
IsTrace most before after trace.Failed = Rose before.faults after.faults × GivesUpTo (most + 1) before after
IsTrace most before after trace.NoMemory = GivesUpTo (most + 1) before after

-- one read put what it gave behind the bytes; or it came to the end, or failed, and gave nothing; or what it gave is lost
abbrev pub IsPiece : ℕ → List ℕ → List ℕ → End → End → Piece → Type 0
IsPiece room old new before after piece.More = GivesPiece room old new before after
IsPiece room old new before after piece.End = (new ≡ old) × IsAtEnd before.bytes × Keeps before.bytes after.bytes
IsPiece room old new before after piece.Failed = Rose before.faults after.faults × Keeps before.bytes after.bytes
IsPiece room old new before after piece.NoMemory = GivesUpTo room before after
