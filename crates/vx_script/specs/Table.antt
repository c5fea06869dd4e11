-- The table of a script's lines: for each command, the lines that write it.
use Rattle.std.specs.Prelude.{◌≡◌, ℕ, ◌^◌, ◌<◌, ◌≤◌, Bool, true, false, List, [], ◌∷◌, length, codes, decimal, Option, Some, None, Ok, ◌⊎◌}
use Rattle.std.specs.List.{All, join_with_byte}
use Rattle.hex.specs.Hex.{decode_of}
use Rattle.vx_calls.specs.declared.calls.Role.{Role}
use Rattle.vx_calls.specs.declared.calls.Role.TheVariants as role
use Rattle.vx_script.specs.declared.TheConstants.{LINE_MAX, LINE2_MAX, NAME_MAX}
use Rattle.vx_script.specs.Command.{Command, Up, In, Down, At, Poll, Sample, Take, Dial, Inst, Plug, Pull, Set, Fail}
use Rattle.vx_script.specs.Grammar.{Reading, Skipped, Does, Outside}
use Rattle.vx_script.specs.Plain.{IsConnection, IsAddress}
use Rattle.vx_script.specs.Timed.{Timed, Blank, DoesAt, Strange, is_at}

-- ---- the words of a line

-- words, and one space between each two
abbrev pub spaced : List (List ℕ) → List ℕ
spaced words = join_with_byte 32 words

abbrev pub role_word : Role → List ℕ
role_word role.Core = codes "core"
role_word role.Abort = codes "abort"

abbrev pub dial_word : Bool → List ℕ
dial_word true = codes "ok"
dial_word false = codes "fail"

-- a bus address: its primary part, or both parts and a comma between them
abbrev pub address_word : ℕ → Option ℕ → List ℕ
address_word p None = decimal p
address_word p (Some s) = join_with_byte 44 (decimal p ∷ decimal s ∷ [])

-- a word of one or more pairs of hexadecimal digits, in either case, is these bytes
pub record IsHex (word bytes : List ℕ) : Type 0 where
  pub some : 0 < length bytes
  pub pairs : decode_of word ≡ Ok bytes

-- the name of a spare instrument: 1 to 16 lower case letters
pub record IsName (word : List ℕ) : Type 0 where
  pub some : 1 ≤ length word
  pub within : length word ≤ NAME_MAX
  pub letters : All (λ c. (97 ≤ c) × (c ≤ 122)) word

-- ---- the table

-- A line writes a command. A number has one spelling, in decimal without a leading zero; the text of an `inst` is all that is left of
-- the line.
abbrev pub Writes : Command → List ℕ → Type 0
Writes (Up conn role) line = IsConnection conn × (line ≡ spaced (codes "up" ∷ decimal conn ∷ role_word role ∷ []))
Writes (In conn bytes) line =
    IsConnection conn × ((word : List ℕ) × IsHex word bytes × (line ≡ spaced (codes "in" ∷ decimal conn ∷ word ∷ [])))
Writes (Down conn) line = IsConnection conn × (line ≡ spaced (codes "down" ∷ decimal conn ∷ []))
Writes (At moment) line = (moment < 2 ^ 64) × (line ≡ spaced (codes "at" ∷ decimal moment ∷ []))
Writes (Poll conn) line = IsConnection conn × (line ≡ spaced (codes "poll" ∷ decimal conn ∷ []))
Writes Sample line = line ≡ codes "sample"
Writes (Take conn) line = IsConnection conn × (line ≡ spaced (codes "take" ∷ decimal conn ∷ []))
Writes (Dial conn up) line = IsConnection conn × (line ≡ spaced (codes "dial" ∷ decimal conn ∷ dial_word up ∷ []))
Writes (Inst p s text) line = IsAddress p s × (line ≡ spaced (codes "inst" ∷ address_word p s ∷ text ∷ []))
Writes (Plug p s name) line = IsAddress p s × IsName name × (line ≡ spaced (codes "plug" ∷ address_word p s ∷ name ∷ []))
Writes (Pull p s) line = IsAddress p s × (line ≡ spaced (codes "pull" ∷ address_word p s ∷ []))
Writes (Set p s b) line =
    IsAddress p s × ((word : List ℕ) × IsHex word (b ∷ []) × (line ≡ spaced (codes "set" ∷ address_word p s ∷ word ∷ [])))
Writes (Fail n) line = (1 ≤ n) × (n < 2 ^ 32) × (line ≡ spaced (codes "fail" ∷ decimal n ∷ []))

-- a line to skip: it is empty, or begins with #
abbrev pub IsRemark : List ℕ → Type 0
IsRemark line = (line ≡ []) ⊎ ((rest : List ℕ) × (line ≡ 35 ∷ rest))

-- the line is none to skip, and writes no command
abbrev pub IsOutside : List ℕ → Type 0
IsOutside line = (IsRemark line → ⊥) × ((command : Command) → Writes command line → ⊥)

-- what a line says, by the table
abbrev pub Says : List ℕ → Reading → Type 0
Says line Skipped = IsRemark line
Says line (Does command) = Writes command line
Says line Outside = IsOutside line

-- the same of a line that is no longer than it may; a longer one is outside the grammar, whatever it says
abbrev pub SaysWithin : List ℕ → Reading → Type 0
SaysWithin line Skipped = (length line ≤ LINE_MAX) × IsRemark line
SaysWithin line (Does command) = (length line ≤ LINE_MAX) × Writes command line
SaysWithin line Outside = (LINE_MAX < length line) ⊎ IsOutside line

-- ---- version 2

-- a line of version 2 writes a command at a moment: the moment, a space, and a line that writes the command, which is no `at`
abbrev pub WritesAt : ℕ → Command → List ℕ → Type 0
WritesAt moment command line =
    (moment < 2 ^ 64) × (is_at command ≡ false) × ((text : List ℕ) × Writes command text × (line ≡ spaced (decimal moment ∷ text ∷ [])))

-- the line is none to skip, and writes no command at any moment
abbrev pub IsStrange : List ℕ → Type 0
IsStrange line = (IsRemark line → ⊥) × ((moment : ℕ) (command : Command) → WritesAt moment command line → ⊥)

-- what a line of version 2 says, by the table; one that is longer than it may be is outside the grammar, whatever it says
abbrev pub TimedSays : List ℕ → Timed → Type 0
TimedSays line Blank = (length line ≤ LINE2_MAX) × IsRemark line
TimedSays line (DoesAt moment command) = (length line ≤ LINE2_MAX) × WritesAt moment command line
TimedSays line Strange = (LINE2_MAX < length line) ⊎ IsStrange line
