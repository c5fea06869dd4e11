-- To be believed.
-- The calls of a link, one by one, and where it is asked for more bytes.
use Rattle.std.specs.Prelude.{◌≡◌, ℕ, ⊤, false, List, [], ◌∷◌, ◌++◌, take}
use Rattle.std.specs.List.{flat_map}
use Rattle.vx_io_traits.specs.declared.links.Link.{Ghosts}
use Rattle.vx_io_traits.specs.declared.ReadOut.{ReadOut}
use Rattle.vx_io_traits.specs.declared.ReadOut.TheVariants.{Got, End, Failed}
use Rattle.vx_io_traits.specs.declared.WriteOut.{WriteOut}
use Rattle.vx_io_traits.specs.declared.WriteOut.TheVariants.{Took, Failed as Refused}
use Rattle.vx_record.specs.Records.{records}
use Rattle.vx_stream.specs.Answered.{Answered, messages, replies}

-- a call of a link: a receive into a slice, its answer, and the slice then; or a send of these bytes, and its answer
pub data LinkCall : Type 0 where
  Receive : (slice : List ℕ) (answer : ReadOut) (filled : List ℕ) → LinkCall
  Send : (bytes : List ℕ) (answer : WriteOut) → LinkCall

-- these calls, one after the other, are what was done to a link, and there was no other
abbrev pub Calls : {L : Type 0} → Ghosts L → L → List LinkCall → L → Type 0
Calls ways link [] link' = link' ≡ link
Calls {L} ways link (Receive slice answer filled ∷ more) link' = (mid : L) × ways.receives link slice answer filled mid × Calls ways mid more link'
Calls {L} ways link (Send bytes answer ∷ more) link' = (mid : L) × ways.sends link bytes answer mid × Calls ways mid more link'

-- the bytes that a call gave, and those that it took
abbrev pub call_gave : LinkCall → List ℕ
call_gave (Receive slice (Got n) filled) = take n filled
call_gave (Receive slice End filled) = []
call_gave (Receive slice Failed filled) = []
call_gave (Send bytes answer) = []

abbrev pub call_took : LinkCall → List ℕ
call_took (Receive slice answer filled) = []
call_took (Send bytes (Took n)) = take n bytes
call_took (Send bytes Refused) = []

-- the bytes that calls gave, and those that they took, each in order
abbrev pub given_by : List LinkCall → List ℕ
given_by calls = flat_map call_gave calls

abbrev pub taken_by : List LinkCall → List ℕ
taken_by calls = flat_map call_took calls

-- at each receive among these calls, this holds of the calls before it
abbrev pub AtReceives : (List LinkCall → Type 0) → (before calls : List LinkCall) → Type 0
AtReceives P before [] = ⊤
AtReceives P before (Receive slice answer filled ∷ more) = P before × AtReceives P (before ++ Receive slice answer filled ∷ []) more
AtReceives P before (Send bytes answer ∷ more) = AtReceives P (before ++ Send bytes answer ∷ []) more

-- Nothing is owed behind these calls: each record of the bytes that the link gave by them was answered, none is junk or too long, and
-- the link took the replies to all of them, whole.
pub record OwesNone (limit : ℕ) (answered : List Answered) (calls : List LinkCall) : Type 0 where
  pub earlier : List Answered
  pub later : List Answered
  pub cut : answered ≡ earlier ++ later
  pub came : (records limit (given_by calls)).records ≡ messages earlier
  pub short : (records limit (given_by calls)).too_long ≡ false
  pub replied : taken_by calls ≡ replies earlier

-- While these messages were answered the link gave the bytes `received` and took `written`, by calls of which each receive came only
-- where nothing was owed.
pub record InTurn {L : Type 0} (ways : Ghosts L) (limit : ℕ) (answered : List Answered) (link : L) (received written : List ℕ) (link' : L) : Type 0 where
  pub calls : List LinkCall
  pub made : Calls ways link calls link'
  pub gave : given_by calls ≡ received
  pub took : taken_by calls ≡ written
  pub turns : AtReceives (OwesNone limit answered) [] calls

-- no receive is among these calls
abbrev pub AreSends : List LinkCall → Type 0
AreSends [] = ⊤
AreSends (Receive slice answer filled ∷ more) = ⊥
AreSends (Send bytes answer ∷ more) = AreSends more

-- a link took these bytes, and was asked for none
pub record OnlyTook {L : Type 0} (ways : Ghosts L) (link : L) (written : List ℕ) (link' : L) : Type 0 where
  pub calls : List LinkCall
  pub made : Calls ways link calls link'
  pub only : AreSends calls
  pub took : taken_by calls ≡ written
