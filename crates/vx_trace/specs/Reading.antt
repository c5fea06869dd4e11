-- Reading a line: a slow program beside the texts, which answers the line of a text.
use Rattle.std.specs.Prelude.{ℕ, ◌+◌, ◌-◌, ◌^◌, Bool, true, false, not, ◌&&◌, ◌==◌, nat_lt, nat_le, if◌then◌else◌, List, [], ◌∷◌, length, take, drop, slice_index, codes, Option, Some, None, option_and_then, option_map, position}
use Rattle.std.specs.List.{list_all, list_any, slice_split}
use Rattle.std.specs.Result.{result_ok}
use Rattle.std.specs.Str.{bytes_eq}
use Rattle.std.specs.Str.Parse.{digits_value}
use Rattle.hex.specs.Hex.{decode_of, decode_sized}
use Rattle.vx_calls.specs.declared.calls.Role.{Role}
use Rattle.vx_calls.specs.declared.calls.Role.TheVariants as role
use Rattle.vx_488.specs.declared.transfers.Transfer.{Transfer}
use Rattle.vx_488.specs.declared.transfers.Transfer.TheVariants.{Cmd, Put, Got, Ren, Atn, Ifc, Own}
use Rattle.vx_trace.specs.Output.{Output, Bus, Out, Irq, IrqNone, IrqClosed, WaitLock, WaitTurn, WaitBehind, WaitHeld, WaitSlice, WaitDial, GoneDown, GoneJunk, GoneLong, Done, FaultLine, FaultLong, Usage, TraceHead, Up, Call, Begin, DialDone, Srq}
use Rattle.vx_trace.specs.Text.{is_cause, is_first, is_timed}

-- a text before and behind its place i
abbrev pub cut_at : List ℕ → Option ℕ → Option (List ℕ × List ℕ)
cut_at text (Some i) = Some (take i text, drop (i + 1) text)
cut_at text None = None

-- what stands before and behind the first space
abbrev pub cut : List ℕ → Option (List ℕ × List ℕ)
cut text = cut_at text (position (λ b. b == 32) text)

-- ---- numbers and bytes

abbrev pub is_digit : ℕ → Bool
is_digit c = nat_le 48 c && nat_le c 57

-- decimal digits, at least one, and no leading zero
abbrev pub is_decimal : List ℕ → Bool
is_decimal [] = false
is_decimal (d ∷ []) = list_all is_digit (d ∷ [])
is_decimal (d ∷ e ∷ ds) = not (d == 48) && list_all is_digit (d ∷ e ∷ ds)

-- the number below this bound that a text writes
abbrev pub number_of : ℕ → List ℕ → Option ℕ
number_of bound text =
    if is_decimal text && nat_lt (digits_value 10 text) bound then Some (digits_value 10 text) else None

-- a letter a to f
abbrev pub is_lower_digit : ℕ → Bool
is_lower_digit c = nat_le 97 c && nat_le c 102

-- the bytes of pairs of hexadecimal digits in upper case
abbrev pub any_bytes_of : List ℕ → Option (List ℕ)
any_bytes_of text = if list_any is_lower_digit text then None else result_ok (decode_of text)

-- the bytes of one or more pairs
abbrev pub bytes_of : List ℕ → Option (List ℕ)
bytes_of [] = None
bytes_of (digit ∷ digits) = any_bytes_of (digit ∷ digits)

abbrev pub first_of : Option (List ℕ) → Option ℕ
first_of None = None
first_of (Some bytes) = Some (slice_index bytes 0)

-- the byte of one pair of hexadecimal digits in upper case
abbrev pub byte_of : List ℕ → Option ℕ
byte_of digits = if list_any is_lower_digit digits then None else first_of (result_ok (decode_sized digits 1))

-- ---- transfers

-- the transfer of a letter and a byte
abbrev pub of_letter : ℕ → ℕ → Option Transfer
of_letter letter b =
    if letter == 99 then Some (Cmd b)
    else if letter == 112 then Some (Put b false)
    else if letter == 80 then Some (Put b true)
    else if letter == 103 then Some (Got b false)
    else if letter == 71 then Some (Got b true)
    else None

-- the transfer of a letter and two digits
abbrev pub lettered : List ℕ → Option Transfer
lettered [] = None
lettered (letter ∷ digits) = option_and_then (λ b. of_letter letter b) (byte_of digits)

-- the transfer of a word
abbrev pub transfer_of : List ℕ → Option Transfer
transfer_of word =
    if bytes_eq word (codes "ren0") then Some (Ren false)
    else if bytes_eq word (codes "ren1") then Some (Ren true)
    else if bytes_eq word (codes "atn0") then Some (Atn false)
    else if bytes_eq word (codes "atn1") then Some (Atn true)
    else if bytes_eq word (codes "ifc") then Some Ifc
    else if bytes_eq (take 3 word) (codes "own") then option_map (λ a. Own a) (number_of (2 ^ 8) (drop 3 word))
    else lettered word

abbrev pub with_transfer : Option (List Transfer) → Option Transfer → Option (List Transfer)
with_transfer (Some moves) (Some t) = Some (t ∷ moves)
with_transfer _ _ = None

-- the transfers of words
abbrev pub all_transfers : List (List ℕ) → Option (List Transfer)
all_transfers [] = Some []
all_transfers (word ∷ words) = with_transfer (all_transfers words) (transfer_of word)

-- the transfers of one or more words
abbrev pub moves_of : List ℕ → Option (List Transfer)
moves_of text = all_transfers (slice_split (λ b. b == 32) text)

-- ---- lines

abbrev pub irq_of : ℕ → List ℕ → Option Output
irq_of conn rest =
    if bytes_eq rest (codes "none") then Some (IrqNone conn)
    else if bytes_eq rest (codes "closed") then Some (IrqClosed conn)
    else option_map (λ bytes. Irq conn bytes) (bytes_of rest)

abbrev pub wait_for : ℕ → List ℕ → ℕ → Option Output
wait_for conn what n =
    if bytes_eq what (codes "lock") then Some (WaitLock conn n)
    else if bytes_eq what (codes "turn") then Some (WaitTurn conn n)
    else if bytes_eq what (codes "behind") then Some (WaitBehind conn n)
    else None

abbrev pub wait_of : ℕ → List ℕ → Option Output
wait_of conn rest =
    if bytes_eq rest (codes "held") then Some (WaitHeld conn)
    else if bytes_eq rest (codes "slice") then Some (WaitSlice conn)
    else if bytes_eq rest (codes "dial") then Some (WaitDial conn)
    else option_and_then (λ p. option_and_then (λ n. wait_for conn p.0 n) (number_of (2 ^ 32) p.1)) (cut rest)

abbrev pub gone_of : ℕ → List ℕ → Option Output
gone_of conn rest =
    if bytes_eq rest (codes "down") then Some (GoneDown conn)
    else if bytes_eq rest (codes "junk") then Some (GoneJunk conn)
    else if bytes_eq rest (codes "long") then Some (GoneLong conn)
    else None

-- a channel of this name
abbrev pub role_of : List ℕ → Option Role
role_of text = if bytes_eq text (codes "core") then Some role.Core else if bytes_eq text (codes "abort") then Some role.Abort else None

abbrev pub dial_of : ℕ → List ℕ → Option Output
dial_of conn rest =
    if bytes_eq rest (codes "ok") then Some (DialDone conn true)
    else if bytes_eq rest (codes "fail") then Some (DialDone conn false)
    else None

-- the line of a word and a connection, and of what stands behind them: one without transfers or bytes
abbrev pub short_of : List ℕ → ℕ → List ℕ → Option Output
short_of word conn rest =
    if bytes_eq word (codes "wait") then wait_of conn rest
    else if bytes_eq word (codes "gone") then gone_of conn rest
    else if bytes_eq word (codes "up") then option_map (λ r. Up conn r) (role_of rest)
    else if bytes_eq word (codes "dial") then dial_of conn rest
    else None

abbrev pub out_of : ℕ → List ℕ → Option Output
out_of conn rest = option_map (λ bytes. Out conn bytes) (bytes_of rest)

abbrev pub call_of : ℕ → List ℕ → Option Output
call_of conn rest = option_map (λ bytes. Call conn bytes) (any_bytes_of rest)

-- one without transfers
abbrev pub movesless_of : List ℕ → ℕ → List ℕ → Option Output
movesless_of word conn rest =
    if bytes_eq word (codes "out") then out_of conn rest
    else if bytes_eq word (codes "irq") then irq_of conn rest
    else if bytes_eq word (codes "call") then call_of conn rest
    else short_of word conn rest

abbrev pub bus_of : ℕ → List ℕ → Option Output
bus_of conn rest = option_map (λ moves. Bus conn moves) (moves_of rest)

-- any of them
abbrev pub by_word : List ℕ → ℕ → List ℕ → Option Output
by_word word conn rest = if bytes_eq word (codes "bus") then bus_of conn rest else movesless_of word conn rest

-- the line of a refused step, behind its first two words
abbrev pub fault_for : ℕ → List ℕ → Option Output
fault_for line word = if is_cause word then Some (FaultLine line word) else None

abbrev pub fault_of : List ℕ → Option Output
fault_of rest = option_and_then (λ p. option_and_then (λ n. fault_for n p.1) (number_of (2 ^ 64) p.0)) (cut rest)

-- the line of a word and what stands behind it
abbrev pub behind_word : List ℕ → List ℕ → Option Output
behind_word word rest =
    option_and_then (λ p. option_and_then (λ conn. by_word word conn p.1) (number_of (2 ^ 32) p.0)) (cut rest)

abbrev pub begin_of : List ℕ → Option Output
begin_of number = option_map (λ conn. Begin conn) (number_of (2 ^ 32) number)

-- the line of a text with a number
abbrev pub numbered_of : List ℕ → Option Output
numbered_of text =
    if bytes_eq (take 11 text) (codes "fault line ") then fault_of (drop 11 text)
    else if bytes_eq (take 6 text) (codes "begin ") then begin_of (drop 6 text)
    else option_and_then (λ p. behind_word p.0 p.1) (cut text)

-- the line of a text, its LF and its moment left out
abbrev pub line_of : List ℕ → Option Output
line_of text =
    if bytes_eq text (codes "done") then Some Done
    else if bytes_eq text (codes "fault long") then Some FaultLong
    else if bytes_eq text (codes "usage: vxplay COMMAND") then Some Usage
    else if bytes_eq text (codes "vxtrace 2") then Some TraceHead
    else if bytes_eq text (codes "srq 0") then Some (Srq false)
    else if bytes_eq text (codes "srq 1") then Some (Srq true)
    else numbered_of text

-- a text without its last byte, which is LF
abbrev pub without_end : List ℕ → Option (List ℕ)
without_end text =
    if bytes_eq (drop (length text - 1) text) (codes "\n") then Some (take (length text - 1) text) else None

-- the line whose own text this is
abbrev pub reading : List ℕ → Option Output
reading text = option_and_then line_of (without_end text)

-- ---- versions

abbrev pub if_first : Output → Option Output
if_first line = if is_first line then Some line else None

-- the line of version 1 of a text, its LF left out
abbrev pub line1_of : List ℕ → Option Output
line1_of text = option_and_then if_first (line_of text)

-- the moment that a text begins with, and what stands behind it
abbrev pub moment_of : List ℕ → Option (ℕ × List ℕ)
moment_of text = option_and_then (λ p. option_map (λ moment. (moment, p.1)) (number_of (2 ^ 64) p.0)) (cut text)

-- a line with a moment
abbrev pub if_timed : ℕ → Output → Option (ℕ × Output)
if_timed moment line = if is_timed line then Some (moment, line) else None

-- a line without one
abbrev pub if_untimed : Output → Option (ℕ × Output)
if_untimed line = if is_timed line then None else Some (0, line)

-- the line of a text behind a moment, and of one without
abbrev pub timed_of : ℕ → List ℕ → Option (ℕ × Output)
timed_of moment text = option_and_then (if_timed moment) (line_of text)

abbrev pub untimed_of : List ℕ → Option (ℕ × Output)
untimed_of text = option_and_then if_untimed (line_of text)

abbrev pub line2_with : List ℕ → Option (ℕ × List ℕ) → Option (ℕ × Output)
line2_with text None = untimed_of text
line2_with text (Some p) = timed_of p.0 p.1

-- the line of version 2 of a text, its LF left out, and its moment
abbrev pub line2_of : List ℕ → Option (ℕ × Output)
line2_of text = line2_with text (moment_of text)

-- the line of version 1 that a text is
abbrev pub reading1 : List ℕ → Option Output
reading1 text = option_and_then line1_of (without_end text)

-- the line of version 2 that a text is
abbrev pub reading2 : List ℕ → Option (ℕ × Output)
reading2 text = option_and_then line2_of (without_end text)
