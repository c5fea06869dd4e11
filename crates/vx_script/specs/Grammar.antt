-- To be believed.
-- The grammar of a script: its lines, and what each line says.
use Rattle.std.specs.Prelude.{ℕ, ◌-◌, ◌^◌, Bool, true, false, ◌||◌, ◌==◌, nat_lt, if◌then◌else◌, List, [], ◌∷◌, length, codes, Option, Some, None, option_and_then, option_map}
use Rattle.std.specs.Str.{bytes_eq}
use Rattle.vx_calls.specs.declared.calls.Role.{Role}
use Rattle.vx_calls.specs.declared.calls.Role.TheVariants as role
use Rattle.vx_script.specs.declared.TheConstants.{LINE_MAX}
use Rattle.vx_script.specs.declared.values.Address.{Address}
use Rattle.vx_script.specs.Command.{Command, Up, In, Down, At, Poll, Sample, Take, Dial, Inst, Plug, Pull, Set, Fail}
use Rattle.vx_script.specs.Words.{cut, number_up_to, positive_up_to, connection_of, address_of, bytes_of, byte_of, is_name}

-- what a line says: nothing, a command, or nothing that the grammar has
pub data Reading : Type 0 where
  Skipped : Reading
  Does : Command → Reading
  Outside : Reading

-- ---- lines of a connection

abbrev pub role_of : List ℕ → Option Role
role_of text = if bytes_eq text (codes "core") then Some role.Core else if bytes_eq text (codes "abort") then Some role.Abort else None

-- whether a dial came up
abbrev pub dialed_of : List ℕ → Option Bool
dialed_of text = if bytes_eq text (codes "ok") then Some true else if bytes_eq text (codes "fail") then Some false else None

-- the command of a word and a connection
abbrev pub at_connection : List ℕ → ℕ → Option Command
at_connection word conn =
    if bytes_eq word (codes "down") then Some (Down conn)
    else if bytes_eq word (codes "poll") then Some (Poll conn)
    else if bytes_eq word (codes "take") then Some (Take conn)
    else None

-- the command of a word, a connection and what stands behind its number
abbrev pub behind_connection : List ℕ → ℕ → List ℕ → Option Command
behind_connection word conn rest =
    if bytes_eq word (codes "up") then option_map (λ role. Up conn role) (role_of rest)
    else if bytes_eq word (codes "in") then option_map (λ bytes. In conn bytes) (bytes_of rest)
    else if bytes_eq word (codes "dial") then option_map (λ up. Dial conn up) (dialed_of rest)
    else None

abbrev pub of_connection : List ℕ → ℕ → Option (List ℕ) → Option Command
of_connection word conn None = at_connection word conn
of_connection word conn (Some rest) = behind_connection word conn rest

-- ---- lines of a bus address

abbrev pub is_bus_word : List ℕ → Bool
is_bus_word word =
    bytes_eq word (codes "inst") || bytes_eq word (codes "plug") || bytes_eq word (codes "pull") || bytes_eq word (codes "set")

-- the command of a word and an address
abbrev pub at_address : List ℕ → Address → Option Command
at_address word a = if bytes_eq word (codes "pull") then Some (Pull a.p a.s) else None

-- the command of a word, an address and what stands behind it; the text of an `inst` is all that is left of the line
abbrev pub behind_address : List ℕ → Address → List ℕ → Option Command
behind_address word a rest =
    if bytes_eq word (codes "inst") then Some (Inst a.p a.s rest)
    else if bytes_eq word (codes "plug") then (if is_name rest then Some (Plug a.p a.s rest) else None)
    else if bytes_eq word (codes "set") then option_map (λ b. Set a.p a.s b) (byte_of rest)
    else None

abbrev pub of_address : List ℕ → Address → Option (List ℕ) → Option Command
of_address word a None = at_address word a
of_address word a (Some rest) = behind_address word a rest

-- ---- all lines

-- the command of a word and what stands behind it
abbrev pub behind_word : List ℕ → List ℕ → Option Command
behind_word word rest =
    if bytes_eq word (codes "at") then option_map (λ moment. At moment) (number_up_to (2 ^ 64 - 1) rest)
    else if bytes_eq word (codes "fail") then option_map (λ n. Fail n) (positive_up_to (2 ^ 32 - 1) rest)
    else if is_bus_word word then option_and_then (λ a. of_address word a (cut 32 rest).1) (address_of (cut 32 rest).0)
    else option_and_then (λ conn. of_connection word conn (cut 32 rest).1) (connection_of (cut 32 rest).0)

-- the command of a line's first word and of what stands behind it, where something does
abbrev pub command_of : List ℕ → Option (List ℕ) → Option Command
command_of word None = if bytes_eq word (codes "sample") then Some Sample else None
command_of word (Some rest) = behind_word word rest

-- an empty line, and one that begins with #, say nothing
abbrev pub is_skipped : List ℕ → Bool
is_skipped [] = true
is_skipped (b ∷ bs) = b == 35

abbrev pub said_by : Option Command → Reading
said_by None = Outside
said_by (Some command) = Does command

-- what a line says, however long it is
abbrev pub said : List ℕ → Reading
said line = if is_skipped line then Skipped else said_by (command_of (cut 32 line).0 (cut 32 line).1)

-- what a line of a script says: one above the limit nothing that the grammar has
abbrev pub reading : List ℕ → Reading
reading line = if nat_lt LINE_MAX (length line) then Outside else said line
