-- A command that is read of a line is written by it, by the table.
use Rattle.std.proofs.Common.{◌≡◌, ℕ, ◌-◌, ◌^◌, Bool, true, false, List, ◌∷◌, ◌++◌, Option, Some, None, sym, ap, ◌∙◌, subst, arith, codes, decimal}
use Rattle.std.specs.Prelude.{option_map}
use Rattle.std.proofs.lemmas.Option.{same_Some}
use Rattle.vx_lemmas.proofs.Laws.Options.{mapped, gone_on}
use Rattle.vx_calls.specs.declared.calls.Role.{Role}
use Rattle.vx_calls.specs.declared.calls.Role.TheVariants as role
use Rattle.vx_calls.specs.declared.limits.TheConstants.{CONNECTION_LAST}
use Rattle.vx_script.specs.declared.values.Address.{Address}
use Rattle.vx_script.specs.Command.{Command, Up, In, Down, At, Poll, Sample, Take, Dial, Inst, Plug, Pull, Set, Fail}
use Rattle.vx_script.specs.Grammar.{role_of, dialed_of, at_connection, behind_connection, of_connection, is_bus_word, at_address, behind_address, of_address, behind_word, command_of}
use Rattle.vx_script.specs.Plain.{IsConnection, IsAddress}
use Rattle.vx_script.specs.Table.{role_word, dial_word, address_word, Writes}
use Rattle.vx_script.specs.Words.{cut, number_up_to, positive_up_to, connection_of, address_of, bytes_of, byte_of, is_name}
use Rattle.vx_lemmas.proofs.Laws.Conditions.{by_test, by_text}
use Rattle.vx_script.proofs.Cuts.{Joined, joined}
use Rattle.vx_script.proofs.Numbers.{positive-read, number-read}
use Rattle.vx_script.proofs.Parts.{address-read, bytes-read, byte-read, name-read}

-- a line that writes a command writes the one that it is
makes : (made c : Command) (line : List ℕ) → Writes made line → made ≡ c → Writes c line
makes made c line writes e =
    let P : Command → Type 0 = λ x. Writes x line in
    subst P e writes

same : (made c : Command) → Some made ≡ Some c → made ≡ c
same made c e = same_Some made c e

-- a word and what stands behind it
led : (word known rest : List ℕ) → word ≡ known → word ++ 32 ∷ rest ≡ known ++ 32 ∷ rest
led word known rest w = ap (λ (x : List ℕ). x ++ 32 ∷ rest) w

behind : (front rest rest' : List ℕ) → rest ≡ rest' → front ++ 32 ∷ rest ≡ front ++ 32 ∷ rest'
behind front rest rest' r = ap (λ (x : List ℕ). front ++ 32 ∷ x) r

-- ---- lines of a connection

role-read : (text : List ℕ) (r : Role) → role_of text ≡ Some r → text ≡ role_word r
role-read text r e =
    by_text text (codes "core") (Some role.Core) _ r e (λ w h. w ∙ ap role_word (same_Some role.Core r h))
    (λ e. by_text text (codes "abort") (Some role.Abort) None r e (λ w h. w ∙ ap role_word (same_Some role.Abort r h)) (λ e. absurd cc))

dial-read : (text : List ℕ) (up : Bool) → dialed_of text ≡ Some up → text ≡ dial_word up
dial-read text up e =
    by_text text (codes "ok") (Some true) _ up e (λ w h. w ∙ ap dial_word (same_Some true up h))
    (λ e. by_text text (codes "fail") (Some false) None up e (λ w h. w ∙ ap dial_word (same_Some false up h)) (λ e. absurd cc))

connection-alone : (word : List ℕ) (conn : ℕ) (c : Command) → IsConnection conn → at_connection word conn ≡ Some c → Writes c (word ++ 32 ∷ decimal conn)
connection-alone word conn c range e =
    by_text word (codes "down") (Some (Down conn)) _ c e (λ w h. makes (Down conn) c (word ++ 32 ∷ decimal conn) (range, led word (codes "down") (decimal conn) w) (same (Down conn) c h))
    (λ e. by_text word (codes "poll") (Some (Poll conn)) _ c e (λ w h. makes (Poll conn) c (word ++ 32 ∷ decimal conn) (range, led word (codes "poll") (decimal conn) w) (same (Poll conn) c h))
    (λ e. by_text word (codes "take") (Some (Take conn)) None c e (λ w h. makes (Take conn) c (word ++ 32 ∷ decimal conn) (range, led word (codes "take") (decimal conn) w) (same (Take conn) c h))
    (λ e. absurd cc)))

connection-behind : (word rest : List ℕ) (conn : ℕ) (c : Command) → IsConnection conn → behind_connection word conn rest ≡ Some c → Writes c (word ++ 32 ∷ (decimal conn ++ 32 ∷ rest))
connection-behind word rest conn c range e =
    by_text word (codes "up") (option_map (λ r. Up conn r) (role_of rest)) _ c e
    (λ w h.
    let found = mapped (λ r. Up conn r) (role_of rest) c h in
    makes (Up conn found.0) c (word ++ 32 ∷ (decimal conn ++ 32 ∷ rest))
    (range, led word (codes "up") (decimal conn ++ 32 ∷ rest) w ∙ behind (codes "up") _ _ (behind (decimal conn) rest (role_word found.0) (role-read rest found.0 found.1))) found.2)
    (λ e. by_text word (codes "in") (option_map (λ bytes. In conn bytes) (bytes_of rest)) _ c e
    (λ w h.
    let found = mapped (λ bytes. In conn bytes) (bytes_of rest) c h in
    makes (In conn found.0) c (word ++ 32 ∷ (decimal conn ++ 32 ∷ rest))
    (range, (rest, bytes-read rest found.0 found.1, led word (codes "in") (decimal conn ++ 32 ∷ rest) w)) found.2)
    (λ e. by_text word (codes "dial") (option_map (λ up. Dial conn up) (dialed_of rest)) None c e
    (λ w h.
    let found = mapped (λ up. Dial conn up) (dialed_of rest) c h in
    makes (Dial conn found.0) c (word ++ 32 ∷ (decimal conn ++ 32 ∷ rest))
    (range, led word (codes "dial") (decimal conn ++ 32 ∷ rest) w ∙ behind (codes "dial") _ _ (behind (decimal conn) rest (dial_word found.0) (dial-read rest found.0 found.1))) found.2)
    (λ e. absurd cc)))

-- the line of a word, a connection's number and perhaps a rest
connection-line : (word text front : List ℕ) (o : Option (List ℕ)) (conn : ℕ) (c : Command) → IsConnection conn → front ≡ decimal conn → Joined 32 text front o
    → of_connection word conn o ≡ Some c → Writes c (word ++ 32 ∷ text)
connection-line word text front None conn c range spelled parts e =
    let P : List ℕ → Type 0 = λ r. Writes c (word ++ 32 ∷ r) in
    subst P (sym (parts ∙ spelled)) (connection-alone word conn c range e)
connection-line word text front (Some rest) conn c range spelled parts e =
    let P : List ℕ → Type 0 = λ r. Writes c (word ++ 32 ∷ r) in
    subst P (sym (parts ∙ ap (λ (f : List ℕ). f ++ 32 ∷ rest) spelled)) (connection-behind word rest conn c range e)

-- ---- lines of a bus address

address-alone : (word : List ℕ) (a : Address) (c : Command) → IsAddress a.p a.s → at_address word a ≡ Some c → Writes c (word ++ 32 ∷ address_word a.p a.s)
address-alone word a c range e =
    by_text word (codes "pull") (Some (Pull a.p a.s)) None c e (λ w h. makes (Pull a.p a.s) c (word ++ 32 ∷ address_word a.p a.s) (range, led word (codes "pull") (address_word a.p a.s) w) (same (Pull a.p a.s) c h))
    (λ e. absurd cc)

address-behind : (word rest : List ℕ) (a : Address) (c : Command) → IsAddress a.p a.s → behind_address word a rest ≡ Some c
    → Writes c (word ++ 32 ∷ (address_word a.p a.s ++ 32 ∷ rest))
address-behind word rest a c range e =
    by_text word (codes "inst") (Some (Inst a.p a.s rest)) _ c e
    (λ w h. makes (Inst a.p a.s rest) c (word ++ 32 ∷ (address_word a.p a.s ++ 32 ∷ rest)) (range, led word (codes "inst") (address_word a.p a.s ++ 32 ∷ rest) w) (same (Inst a.p a.s rest) c h))
    (λ e. by_text word (codes "plug") _ _ c e
    (λ w h. by_test (is_name rest) (Some (Plug a.p a.s rest)) None c h
    (λ named h. makes (Plug a.p a.s rest) c (word ++ 32 ∷ (address_word a.p a.s ++ 32 ∷ rest)) (range, name-read rest named, led word (codes "plug") (address_word a.p a.s ++ 32 ∷ rest) w) (same (Plug a.p a.s rest) c h))
    (λ named h. absurd cc))
    (λ e. by_text word (codes "set") (option_map (λ b. Set a.p a.s b) (byte_of rest)) None c e
    (λ w h.
    let found = mapped (λ b. Set a.p a.s b) (byte_of rest) c h in
    makes (Set a.p a.s found.0) c (word ++ 32 ∷ (address_word a.p a.s ++ 32 ∷ rest)) (range, (rest, byte-read rest found.0 found.1, led word (codes "set") (address_word a.p a.s ++ 32 ∷ rest) w)) found.2)
    (λ e. absurd cc)))

address-line : (word text front : List ℕ) (o : Option (List ℕ)) (a : Address) (c : Command) → IsAddress a.p a.s → front ≡ address_word a.p a.s → Joined 32 text front o
    → of_address word a o ≡ Some c → Writes c (word ++ 32 ∷ text)
address-line word text front None a c range spelled parts e =
    let P : List ℕ → Type 0 = λ r. Writes c (word ++ 32 ∷ r) in
    subst P (sym (parts ∙ spelled)) (address-alone word a c range e)
address-line word text front (Some rest) a c range spelled parts e =
    let P : List ℕ → Type 0 = λ r. Writes c (word ++ 32 ∷ r) in
    subst P (sym (parts ∙ ap (λ (f : List ℕ). f ++ 32 ∷ rest) spelled)) (address-behind word rest a c range e)

-- ---- all lines

word-line : (word rest : List ℕ) (c : Command) → behind_word word rest ≡ Some c → Writes c (word ++ 32 ∷ rest)
word-line word rest c e =
    by_text word (codes "at") (option_map (λ moment. At moment) (number_up_to (2 ^ 64 - 1) rest)) _ c e
    (λ w h.
    let found = mapped (λ moment. At moment) (number_up_to (2 ^ 64 - 1) rest) c h in
    let number = number-read (2 ^ 64 - 1) rest found.0 (omega arith) found.1 in
    let within = number.within in
    makes (At found.0) c (word ++ 32 ∷ rest) (omega arith, led word (codes "at") rest w ∙ behind (codes "at") rest (decimal found.0) number.spelled) found.2)
    (λ e. by_text word (codes "fail") (option_map (λ n. Fail n) (positive_up_to (2 ^ 32 - 1) rest)) _ c e
    (λ w h.
    let found = mapped (λ n. Fail n) (positive_up_to (2 ^ 32 - 1) rest) c h in
    let number = positive-read (2 ^ 32 - 1) rest found.0 (omega arith) found.1 in
    let within = number.within in
    makes (Fail found.0) c (word ++ 32 ∷ rest) (number.least, omega arith, led word (codes "fail") rest w ∙ behind (codes "fail") rest (decimal found.0) number.spelled) found.2)
    (λ e. by_test (is_bus_word word) _ _ c e
    (λ bus h.
    let found = gone_on (λ a. of_address word a (cut 32 rest).1) (address_of (cut 32 rest).0) c h in
    let read = address-read (cut 32 rest).0 found.0 found.1 in
    address-line word rest (cut 32 rest).0 (cut 32 rest).1 found.0 c read.range read.spelled (joined 32 rest) found.2)
    (λ bus h.
    let found = gone_on (λ conn. of_connection word conn (cut 32 rest).1) (connection_of (cut 32 rest).0) c h in
    let number = positive-read CONNECTION_LAST (cut 32 rest).0 found.0 (omega arith) found.1 in
    connection-line word rest (cut 32 rest).0 (cut 32 rest).1 found.0 c (number.least, number.within) number.spelled (joined 32 rest) found.2)))

whole-line : (line word : List ℕ) (o : Option (List ℕ)) (c : Command) → Joined 32 line word o → command_of word o ≡ Some c → Writes c line
whole-line line word None c parts e =
    by_text word (codes "sample") (Some Sample) None c e (λ w h. makes Sample c line (parts ∙ w) (same Sample c h)) (λ e. absurd cc)
whole-line line word (Some rest) c parts e =
    let P : List ℕ → Type 0 = λ l. Writes c l in
    subst P (sym parts) (word-line word rest c e)

-- the command that is read of a line is written by it
pub command-read : (line : List ℕ) (c : Command) → command_of (cut 32 line).0 (cut 32 line).1 ≡ Some c → Writes c line
command-read line c e = whole-line line (cut 32 line).0 (cut 32 line).1 c (joined 32 line) e
