-- To be believed.
-- The text of each output line, and which lines there are.
use Rattle.std.specs.Prelude.{ℕ, ◌+◌, ◌*◌, ◌^◌, ◌<◌, ⊤, Bool, true, false, IsTrue, if◌then◌else◌, List, [], ◌∷◌, ◌++◌, length, flat_map, codes, decimal}
use Rattle.std.specs.List.{All, list_any}
use Rattle.std.specs.Str.{bytes_eq}
use Rattle.hex.specs.Hex.{encode_upper}
use Rattle.vx_calls.specs.declared.calls.Role.{Role}
use Rattle.vx_calls.specs.declared.calls.Role.TheVariants as role
use Rattle.vx_488.specs.declared.transfers.Transfer.{Transfer}
use Rattle.vx_488.specs.declared.transfers.Transfer.TheVariants.{Cmd, Put, Got, Ren, Atn, Ifc, Own}
use Rattle.vx_trace.specs.Output.{Output, Bus, Out, Irq, IrqNone, IrqClosed, WaitLock, WaitTurn, WaitBehind, WaitHeld, WaitSlice, WaitDial, GoneDown, GoneJunk, GoneLong, Done, FaultLine, FaultLong, Usage, TraceHead, Up, Call, Begin, DialDone, Srq}

-- a transfer: a letter and the byte's two hexadecimal digits, or a word; END makes the letter a capital
abbrev pub transfer_text : Transfer → List ℕ
transfer_text (Cmd b) = codes "c" ++ encode_upper (b ∷ [])
transfer_text (Put b false) = codes "p" ++ encode_upper (b ∷ [])
transfer_text (Put b true) = codes "P" ++ encode_upper (b ∷ [])
transfer_text (Got b false) = codes "g" ++ encode_upper (b ∷ [])
transfer_text (Got b true) = codes "G" ++ encode_upper (b ∷ [])
transfer_text (Ren false) = codes "ren0"
transfer_text (Ren true) = codes "ren1"
transfer_text (Atn false) = codes "atn0"
transfer_text (Atn true) = codes "atn1"
transfer_text Ifc = codes "ifc"
transfer_text (Own a) = codes "own" ++ decimal a

-- transfers, a space before each
abbrev pub moves_text : List Transfer → List ℕ
moves_text moves = flat_map (λ t. codes " " ++ transfer_text t) moves

-- the name of a channel
abbrev pub role_text : Role → List ℕ
role_text role.Core = codes "core"
role_text role.Abort = codes "abort"

-- how a dial ended
abbrev pub dial_text : Bool → List ℕ
dial_text true = codes "ok"
dial_text false = codes "fail"

-- the level of the service request line
abbrev pub level_text : Bool → List ℕ
level_text true = codes "1"
level_text false = codes "0"

-- a line, its LF included
abbrev pub line_text : Output → List ℕ
line_text (Bus conn moves) = codes "bus " ++ decimal conn ++ moves_text moves ++ codes "\n"
line_text (Out conn bytes) = codes "out " ++ decimal conn ++ codes " " ++ encode_upper bytes ++ codes "\n"
line_text (Irq conn bytes) = codes "irq " ++ decimal conn ++ codes " " ++ encode_upper bytes ++ codes "\n"
line_text (IrqNone conn) = codes "irq " ++ decimal conn ++ codes " " ++ codes "none" ++ codes "\n"
line_text (IrqClosed conn) = codes "irq " ++ decimal conn ++ codes " " ++ codes "closed" ++ codes "\n"
line_text (WaitLock conn lid) = codes "wait " ++ decimal conn ++ codes " lock " ++ decimal lid ++ codes "\n"
line_text (WaitTurn conn by) = codes "wait " ++ decimal conn ++ codes " turn " ++ decimal by ++ codes "\n"
line_text (WaitBehind conn by) = codes "wait " ++ decimal conn ++ codes " behind " ++ decimal by ++ codes "\n"
line_text (WaitHeld conn) = codes "wait " ++ decimal conn ++ codes " " ++ codes "held" ++ codes "\n"
line_text (WaitSlice conn) = codes "wait " ++ decimal conn ++ codes " " ++ codes "slice" ++ codes "\n"
line_text (WaitDial conn) = codes "wait " ++ decimal conn ++ codes " " ++ codes "dial" ++ codes "\n"
line_text (GoneDown conn) = codes "gone " ++ decimal conn ++ codes " " ++ codes "down" ++ codes "\n"
line_text (GoneJunk conn) = codes "gone " ++ decimal conn ++ codes " " ++ codes "junk" ++ codes "\n"
line_text (GoneLong conn) = codes "gone " ++ decimal conn ++ codes " " ++ codes "long" ++ codes "\n"
line_text Done = codes "done\n"
line_text (FaultLine line word) = codes "fault line " ++ decimal line ++ codes " " ++ word ++ codes "\n"
line_text FaultLong = codes "fault long\n"
line_text Usage = codes "usage: vxplay COMMAND\n"
line_text TraceHead = codes "vxtrace 2\n"
line_text (Up conn role) = codes "up " ++ decimal conn ++ codes " " ++ role_text role ++ codes "\n"
line_text (Call conn bytes) = codes "call " ++ decimal conn ++ codes " " ++ encode_upper bytes ++ codes "\n"
line_text (Begin conn) = codes "begin " ++ decimal conn ++ codes "\n"
line_text (DialDone conn up) = codes "dial " ++ decimal conn ++ codes " " ++ dial_text up ++ codes "\n"
line_text (Srq level) = codes "srq " ++ level_text level ++ codes "\n"

-- As many bytes as the text of a line has at most, whatever its numbers: a connection's has at most 10 digits, a script line's
-- at most 20, a transfer with its space has at most 7 bytes, and the name of a cause at most 6.
abbrev pub text_room : Output → ℕ
text_room (Bus conn moves) = 15 + 7 * length moves
text_room (Out conn bytes) = 16 + 2 * length bytes
text_room (Irq conn bytes) = 16 + 2 * length bytes
text_room (WaitBehind conn by) = 34
text_room (FaultLine line word) = 39
text_room (Call conn bytes) = 17 + 2 * length bytes
text_room _ = 32

-- why a step of a script is refused
abbrev pub cause_words : List (List ℕ)
cause_words =
    codes "form" ∷ codes "number" ∷ codes "full" ∷ codes "conn" ∷ codes "busy" ∷ codes "after" ∷ codes "idle" ∷ codes "json"
    ∷ codes "rule" ∷ codes "spare" ∷ codes "own" ∷ codes "taken" ∷ codes "bench" ∷ codes "absent" ∷ []

abbrev pub is_cause : List ℕ → Bool
is_cause word = list_any (λ name. bytes_eq name word) cause_words

-- a bus line has a transfer, a reply and an interrupt have a byte, and a fault's word is the name of a cause
abbrev pub IsWhole : Output → Type 0
IsWhole (Bus conn moves) = 0 < length moves
IsWhole (Out conn bytes) = 0 < length bytes
IsWhole (Irq conn bytes) = 0 < length bytes
IsWhole (FaultLine line word) = IsTrue (is_cause word)
IsWhole _ = ⊤

-- what a transfer holds is a byte
abbrev pub IsByteTransfer : Transfer → Type 0
IsByteTransfer (Cmd b) = b < 2 ^ 8
IsByteTransfer (Put b end) = b < 2 ^ 8
IsByteTransfer (Got b end) = b < 2 ^ 8
IsByteTransfer (Own a) = a < 2 ^ 8
IsByteTransfer _ = ⊤

-- the numbers of a line are such as a `Line` holds
abbrev pub HasRanges : Output → Type 0
HasRanges (Bus conn moves) = (conn < 2 ^ 32) × All IsByteTransfer moves
HasRanges (Out conn bytes) = (conn < 2 ^ 32) × All (λ b. b < 2 ^ 8) bytes
HasRanges (Irq conn bytes) = (conn < 2 ^ 32) × All (λ b. b < 2 ^ 8) bytes
HasRanges (IrqNone conn) = conn < 2 ^ 32
HasRanges (IrqClosed conn) = conn < 2 ^ 32
HasRanges (WaitLock conn lid) = (conn < 2 ^ 32) × (lid < 2 ^ 32)
HasRanges (WaitTurn conn by) = (conn < 2 ^ 32) × (by < 2 ^ 32)
HasRanges (WaitBehind conn by) = (conn < 2 ^ 32) × (by < 2 ^ 32)
HasRanges (WaitHeld conn) = conn < 2 ^ 32
HasRanges (WaitSlice conn) = conn < 2 ^ 32
HasRanges (WaitDial conn) = conn < 2 ^ 32
HasRanges (GoneDown conn) = conn < 2 ^ 32
HasRanges (GoneJunk conn) = conn < 2 ^ 32
HasRanges (GoneLong conn) = conn < 2 ^ 32
HasRanges (FaultLine line word) = line < 2 ^ 64
HasRanges (Up conn role) = conn < 2 ^ 32
HasRanges (Call conn bytes) = (conn < 2 ^ 32) × All (λ b. b < 2 ^ 8) bytes
HasRanges (Begin conn) = conn < 2 ^ 32
HasRanges (DialDone conn up) = conn < 2 ^ 32
HasRanges _ = ⊤

-- an output line
abbrev pub IsLine : Output → Type 0
IsLine line = IsWhole line × HasRanges line

-- ---- versions

-- a line that version 1 of the output has
abbrev pub is_first : Output → Bool
is_first TraceHead = false
is_first (Up conn role) = false
is_first (Call conn bytes) = false
is_first (Begin conn) = false
is_first (DialDone conn up) = false
is_first (Srq level) = false
is_first _ = true

-- a line that has a moment in version 2: any but the head and the last lines
abbrev pub is_timed : Output → Bool
is_timed TraceHead = false
is_timed Done = false
is_timed (FaultLine line word) = false
is_timed FaultLong = false
is_timed Usage = false
is_timed _ = true

-- a line of version 2: a moment and a space stand before its text, where it has a moment
abbrev pub line_text2 : ℕ → Output → List ℕ
line_text2 moment line = if is_timed line then decimal moment ++ codes " " ++ line_text line else line_text line

-- as many bytes as that has at most: a moment has at most 20 digits
abbrev pub text_room2 : Output → ℕ
text_room2 line = 21 + text_room line
