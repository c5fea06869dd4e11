-- To be believed.
-- What every instrument keeps: its laws, call by call (IEEE 488.1, 2.5 to 2.11).
use Rattle.std.specs.Prelude.{◌≡◌, ◌<◌, ◌≤◌, ℕ, ◌+◌, ◌*◌, ◌/◌, ◌%◌, Bool, true, false, ◌&&◌, ◌==◌, nat_lt, if◌then◌else◌, List, [], ◌∷◌, ◌++◌, length}
use Rattle.vx_488.specs.Heard.{Byte}
use Rattle.vx_inst.specs.declared.TheConstants.{INST_MAX}
use Rattle.vx_inst.specs.View.{View}

-- a status byte without bit 6, and that bit
abbrev pub without_rqs : ℕ → ℕ
without_rqs b = b / 128 * 128 + b % 64

abbrev pub rqs_bit : ℕ → Bool
rqs_bit b = b / 64 % 2 == 1

-- ready, with room for a byte
abbrev pub takes_byte : View → Bool
takes_byte v = v.ready && nat_lt (length v.inbox) INST_MAX

abbrev pub has_byte : List Byte → Bool
has_byte [] = false
has_byte (b ∷ bs) = true

-- ready, with a byte to give
abbrev pub gives_byte : View → Bool
gives_byte v = v.ready && has_byte v.out

-- the bytes to give are those of before and perhaps more
abbrev pub IsLonger : List Byte → List Byte → Type 0
IsLonger old new = (more : List Byte) × (new ≡ old ++ more)

-- a status byte without the bit that asks for service, bit 6
abbrev pub IsStatus : ℕ → Type 0
IsStatus stb = (stb < 256) × (rqs_bit stb ≡ false)

-- What holds of an instrument at every moment: its inbox and what it has to give are within their room, and bit 6 of its
-- status byte is zero.
abbrev pub IsInstSound : View → Type 0
IsInstSound v = (length v.inbox ≤ INST_MAX) × (length v.out ≤ INST_MAX) × IsStatus v.stb

-- A byte that it takes joins its inbox; with END its message is whole, the inbox is empty, and a reply may be appended.
abbrev pub InstTakes : View → ℕ → Bool → View → Type 0
InstTakes old b false new = (new.inbox ≡ old.inbox ++ b ∷ []) × (new.out ≡ old.out)
InstTakes old b true new = (new.inbox ≡ []) × IsLonger old.out new.out

-- It gives the front of what it has to give.
abbrev pub InstGives : View → Byte → View → Type 0
InstGives old b new = (old.out ≡ b ∷ new.out) × (new.inbox ≡ old.inbox)

-- its status byte, with bit 6 where it asks for service
abbrev pub status_byte : View → ℕ
status_byte v = v.stb + (if v.rqs then 64 else 0)

-- A serial poll ends its asking for service. All else but its readiness is as before.
abbrev pub IsInstPolled : View → View → Type 0
IsInstPolled old new = new ≡ record old { rqs = false; ready = new.ready }

-- A clear empties what it took and what it has to give.
abbrev pub IsCleared : View → View → Type 0
IsCleared old new = (new.inbox ≡ []) × (new.out ≡ []) × (new.stb ≡ old.stb) × (new.rqs ≡ old.rqs)

-- A trigger, and a moment, may append a reply.
abbrev pub IsTriggered : View → View → Type 0
IsTriggered old new = (new.inbox ≡ old.inbox) × IsLonger old.out new.out

abbrev pub IsInstTold : View → View → Type 0
IsInstTold old new = (new.inbox ≡ old.inbox) × IsLonger old.out new.out

-- the view with a status byte that is set
abbrev pub with_status : View → ℕ → View
with_status v b = record v { stb = without_rqs b; rqs = rqs_bit b }
