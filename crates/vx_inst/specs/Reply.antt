-- To be believed.
-- A reply: the bytes that an instrument has to give for a message or a trigger.
use Rattle.std.specs.Prelude.{ℕ, ◌+◌, true, false, nat_le, if◌then◌else◌, List, [], ◌∷◌, ◌++◌, length}
use Rattle.vx_488.specs.Heard.{Byte}
use Rattle.vx_inst.specs.declared.TheConstants.{INST_MAX}

-- a byte with and without END
abbrev pub marked : ℕ → Byte
marked b = record { value = b; end = true }

abbrev pub unmarked : ℕ → Byte
unmarked b = record { value = b; end = false }

-- a reply's bytes, with END on the last
abbrev pub ended : List ℕ → List Byte
ended [] = []
ended (b ∷ []) = marked b ∷ []
ended (b ∷ c ∷ bs) = unmarked b ∷ ended (c ∷ bs)

-- what there is to give with a reply behind it; without it where that would be above the room
abbrev pub reply_appended : List Byte → List ℕ → List Byte
reply_appended out reply = if nat_le (length out + length reply) INST_MAX then out ++ ended reply else out
