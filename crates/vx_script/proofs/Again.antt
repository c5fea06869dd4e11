-- A command that a line writes, by the table, is read of it.
use Rattle.std.proofs.Common.{◌≡◌, ℕ, ◌-◌, ◌^◌, Bool, true, false, List, ◌∷◌, ◌++◌, Option, Some, None, refl, ap, ◌∙◌, arith, codes, decimal, cond}
use Rattle.std.specs.Prelude.{option_map, option_and_then}
use Rattle.vx_calls.specs.declared.calls.Role.{Role}
use Rattle.vx_calls.specs.declared.calls.Role.TheVariants as role
use Rattle.vx_calls.specs.declared.limits.TheConstants.{CONNECTION_LAST}
use Rattle.vx_script.specs.Command.{Command, Up, In, Down, At, Poll, Sample, Take, Dial, Inst, Plug, Pull, Set, Fail}
use Rattle.vx_script.specs.Grammar.{role_of, dialed_of, at_connection, behind_connection, of_connection, at_address, behind_address, of_address, behind_word, command_of, is_skipped}
use Rattle.vx_script.specs.Plain.{IsConnection, IsAddress}
use Rattle.vx_script.specs.Table.{role_word, dial_word, address_word, Writes}
use Rattle.vx_script.specs.Words.{cut, connection_of, address_of, address_at}
use Rattle.vx_text.proofs.Laws.Cuts.{lacks}
use Rattle.vx_script.proofs.Cuts.{cut-again, cut-whole}
use Rattle.vx_script.proofs.Numbers.{positive-again, number-again, decimal-lacks}
use Rattle.vx_script.proofs.Parts.{address-again, address-lacks, bytes-again, byte-again, name-again}

-- what a line was cut to
abbrev Cut : Type 0
Cut = List ℕ × Option (List ℕ)

-- the command of a line
abbrev pub command_in : List ℕ → Option Command
command_in line = command_of (cut 32 line).0 (cut 32 line).1

-- a line of a word and what stands behind it
led : (word rest : List ℕ) → lacks 32 word ≡ true → command_in (word ++ 32 ∷ rest) ≡ behind_word word rest
led word rest h = ap (λ (c : Cut). command_of c.0 c.1) (cut-again 32 word rest h)

role-again : (r : Role) → role_of (role_word r) ≡ Some r
role-again role.Core = refl
role-again role.Abort = refl

dial-again : (up : Bool) → dialed_of (dial_word up) ≡ Some up
dial-again true = refl
dial-again false = refl

-- ---- lines of a connection

connection-lacks : (conn : ℕ) → IsConnection conn → lacks 32 (decimal conn) ≡ true
connection-lacks conn range = let within = range.1 in decimal-lacks 32 conn (omega arith) (omega arith)

connection-again : (conn : ℕ) → IsConnection conn → connection_of (decimal conn) ≡ Some conn
connection-again conn range = positive-again CONNECTION_LAST conn (omega arith) range.0 range.1

-- the command of a word and of a text that begins with a connection's number
abbrev connected : List ℕ → Cut → Option Command
connected word c = option_and_then (λ conn. of_connection word conn c.1) (connection_of c.0)

connected-alone : (word : List ℕ) (conn : ℕ) → IsConnection conn → connected word (cut 32 (decimal conn)) ≡ at_connection word conn
connected-alone word conn range =
    ap (λ (c : Cut). connected word c) (cut-whole 32 (decimal conn) (connection-lacks conn range))
    ∙ ap (λ (o : Option ℕ). option_and_then (λ n. of_connection word n None) o) (connection-again conn range)

connected-behind : (word rest : List ℕ) (conn : ℕ) → IsConnection conn → connected word (cut 32 (decimal conn ++ 32 ∷ rest)) ≡ behind_connection word conn rest
connected-behind word rest conn range =
    ap (λ (c : Cut). connected word c) (cut-again 32 (decimal conn) rest (connection-lacks conn range))
    ∙ ap (λ (o : Option ℕ). option_and_then (λ n. of_connection word n (Some rest)) o) (connection-again conn range)

-- ---- lines of a bus address

-- the command of a word and of a text that begins with an address
abbrev addressed : List ℕ → Cut → Option Command
addressed word c = option_and_then (λ a. of_address word a c.1) (address_of c.0)

addressed-alone : (word : List ℕ) (p : ℕ) (s : Option ℕ) → IsAddress p s → addressed word (cut 32 (address_word p s)) ≡ at_address word (address_at p s)
addressed-alone word p s range =
    ap (λ (c : Cut). addressed word c) (cut-whole 32 (address_word p s) (address-lacks p s range))
    ∙ ap (option_and_then (λ a. of_address word a None)) (address-again p s range)

addressed-behind : (word rest : List ℕ) (p : ℕ) (s : Option ℕ) → IsAddress p s
    → addressed word (cut 32 (address_word p s ++ 32 ∷ rest)) ≡ behind_address word (address_at p s) rest
addressed-behind word rest p s range =
    ap (λ (c : Cut). addressed word c) (cut-again 32 (address_word p s) rest (address-lacks p s range))
    ∙ ap (option_and_then (λ a. of_address word a (Some rest))) (address-again p s range)

-- ---- all lines

pub command-again : (c : Command) (line : List ℕ) → Writes c line → command_in line ≡ Some c
command-again (Up conn r) line (range, e) =
    ap command_in e ∙ led (codes "up") (decimal conn ++ 32 ∷ role_word r) refl ∙ connected-behind (codes "up") (role_word r) conn range ∙ ap (option_map (λ x. Up conn x)) (role-again r)
command-again (In conn bytes) line (range, (word, hex, e)) =
    ap command_in e ∙ led (codes "in") (decimal conn ++ 32 ∷ word) refl ∙ connected-behind (codes "in") word conn range ∙ ap (option_map (λ x. In conn x)) (bytes-again word bytes hex)
command-again (Down conn) line (range, e) = ap command_in e ∙ led (codes "down") (decimal conn) refl ∙ connected-alone (codes "down") conn range
command-again (At moment) line (below, e) =
    ap command_in e ∙ led (codes "at") (decimal moment) refl ∙ ap (option_map (λ m. At m)) (number-again (2 ^ 64 - 1) moment (omega arith) (omega arith))
command-again (Poll conn) line (range, e) = ap command_in e ∙ led (codes "poll") (decimal conn) refl ∙ connected-alone (codes "poll") conn range
command-again Sample line e = ap command_in e
command-again (Take conn) line (range, e) = ap command_in e ∙ led (codes "take") (decimal conn) refl ∙ connected-alone (codes "take") conn range
command-again (Dial conn up) line (range, e) =
    ap command_in e ∙ led (codes "dial") (decimal conn ++ 32 ∷ dial_word up) refl ∙ connected-behind (codes "dial") (dial_word up) conn range ∙ ap (option_map (λ x. Dial conn x)) (dial-again up)
command-again (Inst p s text) line (range, e) = ap command_in e ∙ led (codes "inst") (address_word p s ++ 32 ∷ text) refl ∙ addressed-behind (codes "inst") text p s range
command-again (Plug p s name) line (range, named, e) =
    ap command_in e ∙ led (codes "plug") (address_word p s ++ 32 ∷ name) refl ∙ addressed-behind (codes "plug") name p s range
    ∙ ap (λ (b : Bool). cond b (Some (Plug p s name)) None) (name-again name named)
command-again (Pull p s) line (range, e) = ap command_in e ∙ led (codes "pull") (address_word p s) refl ∙ addressed-alone (codes "pull") p s range
command-again (Set p s b) line (range, (word, hex, e)) =
    ap command_in e ∙ led (codes "set") (address_word p s ++ 32 ∷ word) refl ∙ addressed-behind (codes "set") word p s range ∙ ap (option_map (λ x. Set p s x)) (byte-again word b hex)
command-again (Fail n) line (least, below, e) =
    ap command_in e ∙ led (codes "fail") (decimal n) refl ∙ ap (option_map (λ x. Fail x)) (positive-again (2 ^ 32 - 1) n (omega arith) least (omega arith))

-- no line that writes a command is one to skip
pub unskipped : (c : Command) (line : List ℕ) → Writes c line → is_skipped line ≡ false
unskipped (Up conn r) line (range, e) = ap is_skipped e
unskipped (In conn bytes) line (range, (word, hex, e)) = ap is_skipped e
unskipped (Down conn) line (range, e) = ap is_skipped e
unskipped (At moment) line (below, e) = ap is_skipped e
unskipped (Poll conn) line (range, e) = ap is_skipped e
unskipped Sample line e = ap is_skipped e
unskipped (Take conn) line (range, e) = ap is_skipped e
unskipped (Dial conn up) line (range, e) = ap is_skipped e
unskipped (Inst p s text) line (range, e) = ap is_skipped e
unskipped (Plug p s name) line (range, named, e) = ap is_skipped e
unskipped (Pull p s) line (range, e) = ap is_skipped e
unskipped (Set p s b) line (range, (word, hex, e)) = ap is_skipped e
unskipped (Fail n) line (least, below, e) = ap is_skipped e
