-- The parts of a line with a number: a word, the number, what stands between, a tail, and LF.
use Rattle.std.specs.Prelude.{ℕ, ◌+◌, ◌*◌, ◌^◌, ◌<◌, ⊤, Bool, true, false, List, ◌++◌, length, codes, decimal}
use Rattle.std.specs.List.{All}
use Rattle.hex.specs.Hex.{encode_upper}
use Rattle.vx_trace.specs.declared.put.Tail.{Tail}
use Rattle.vx_trace.specs.declared.put.Tail.TheVariants as tail
use Rattle.vx_trace.specs.declared.put.Parts.{Parts}
use Rattle.vx_trace.specs.declared.put.Parts.TheVariants as parts
use Rattle.vx_trace.specs.Output.{Output, Bus, Out, Irq, IrqNone, IrqClosed, WaitLock, WaitTurn, WaitBehind, WaitHeld, WaitSlice, WaitDial, GoneDown, GoneJunk, GoneLong, FaultLine, Call}
use Rattle.vx_trace.specs.Text.{moves_text, IsByteTransfer}

abbrev pub tail_text : Tail → List ℕ
tail_text (tail.Number n) = decimal n
tail_text (tail.Word word) = word.now
tail_text (tail.Hex bytes) = encode_upper bytes.now
tail_text (tail.Moves moves) = moves_text moves.now

abbrev pub numbered_text : List ℕ → ℕ → List ℕ → Tail → List ℕ
numbered_text front n middle tail = front ++ decimal n ++ middle ++ tail_text tail ++ codes "\n"

-- what a tail holds is such as its type holds
abbrev pub TailFits : Tail → Type 0
TailFits (tail.Number n) = n < 2 ^ 32
TailFits (tail.Word word) = ⊤
TailFits (tail.Hex bytes) = All (λ b. b < 2 ^ 8) bytes.now
TailFits (tail.Moves moves) = All IsByteTransfer moves.now

-- as many bytes as a tail has at most
abbrev pub tail_room : Tail → ℕ
tail_room (tail.Number n) = 10
tail_room (tail.Word word) = length word.now
tail_room (tail.Hex bytes) = 2 * length bytes.now
tail_room (tail.Moves moves) = 7 * length moves.now

-- as many bytes as a line has at most whose number has so many digits
abbrev pub numbered_room : List ℕ → ℕ → List ℕ → Tail → ℕ
numbered_room front digits middle tail = 1 + length front + digits + length middle + tail_room tail

-- the text of a line's parts
abbrev pub parts_text : Parts → List ℕ
parts_text (parts.Text text) = text.now
parts_text (parts.About front conn middle tail) = numbered_text front.now conn middle.now tail
parts_text (parts.Fault line word) = codes "fault line " ++ decimal line ++ codes " " ++ word.now ++ codes "\n"

-- what the parts hold is such as their types hold
abbrev pub PartsFit : Parts → Type 0
PartsFit (parts.Text text) = ⊤
PartsFit (parts.About front conn middle tail) = (conn < 2 ^ 32) × TailFits tail
PartsFit (parts.Fault line word) = line < 2 ^ 64

-- as many bytes as the parts have at most, whatever their first number
abbrev pub parts_room : Parts → ℕ
parts_room (parts.Text text) = length text.now
parts_room (parts.About front conn middle tail) = numbered_room front.now 10 middle.now tail
parts_room (parts.Fault line word) = 33 + length word.now

-- a connection's line that says no more of it than a fixed word
abbrev pub is_named : Output → Bool
is_named (IrqNone conn) = true
is_named (IrqClosed conn) = true
is_named (WaitHeld conn) = true
is_named (WaitSlice conn) = true
is_named (WaitDial conn) = true
is_named (GoneDown conn) = true
is_named (GoneJunk conn) = true
is_named (GoneLong conn) = true
is_named _ = false

-- a line without transfers, bytes, a second number and a cause
abbrev pub is_short : Output → Bool
is_short (Bus conn moves) = false
is_short (Out conn bytes) = false
is_short (Irq conn bytes) = false
is_short (Call conn bytes) = false
is_short (WaitLock conn lid) = false
is_short (WaitTurn conn by) = false
is_short (WaitBehind conn by) = false
is_short (FaultLine line word) = false
is_short _ = true
