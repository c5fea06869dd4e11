-- How records are spelled on a stream, fragment by fragment (RFC 5531, section 11), and what `records` finds there.
use Rattle.std.specs.Prelude.{◌≡◌, ℕ, ◌+◌, ◌^◌, ◌<◌, ◌≤◌, ◌⊎◌, true, false, ⊤, List, [], ◌∷◌, ◌++◌, length}
use Rattle.byteorder.specs.Endian.{big_bytes}
use Rattle.vx_record.specs.Fragments.{fragment_length, last_header}
use Rattle.vx_record.specs.Records.{records}
use Rattle.vx_record.specs.Runs.{joined}

-- fragments of these bytes, none of which is the last of its record
abbrev pub unfinished : List (List ℕ) → List ℕ
unfinished [] = []
unfinished (body ∷ later) = big_bytes 4 (length body) ++ body ++ unfinished later

-- a record in fragments, of which the last one has these bytes
abbrev pub finished : List (List ℕ) → List ℕ → List ℕ
finished bodies final = unfinished bodies ++ last_header (length final) ++ final

-- the length of each fragment fits its header
abbrev pub AllFit : List (List ℕ) → Type 0
AllFit [] = ⊤
AllFit (body ∷ later) = (length body < 2 ^ 31) × AllFit later

-- a record in any fragments is read whole, whatever stands behind it
abbrev pub WholeLaw : Type 0
WholeLaw = (limit : ℕ) (bodies : List (List ℕ)) (final behind : List ℕ) → AllFit bodies → length final < 2 ^ 31
    → length (joined bodies ++ final) ≤ limit
    → records limit (finished bodies final ++ behind)
    ≡ record (records limit behind) { records = (joined bodies ++ final) ∷ (records limit behind).records }

-- a header that takes its record above the limit ends the stream, whatever stands behind it
abbrev pub LongLaw : Type 0
LongLaw = (limit : ℕ) (bodies : List (List ℕ)) (header behind : List ℕ) → AllFit bodies → length header ≡ 4
    → length (joined bodies) ≤ limit → limit < length (joined bodies) + fragment_length header
    → records limit (unfinished bodies ++ header ++ behind)
    ≡ record { records = []; rest = unfinished bodies ++ header ++ behind; too_long = true }

-- a header that isn't whole, or a fragment that isn't and fits
abbrev pub IsPart : ℕ → ℕ → List ℕ → Type 0
IsPart limit kept tail = (length tail < 4) ⊎ ((header : List ℕ) × (body : List ℕ) × (tail ≡ header ++ body) × (length header ≡ 4)
    × (kept + fragment_length header ≤ limit) × (length body < fragment_length header))

-- where neither is there, the stream waits for more
abbrev pub ShortLaw : Type 0
ShortLaw = (limit : ℕ) (bodies : List (List ℕ)) (tail : List ℕ) → AllFit bodies → length (joined bodies) ≤ limit
    → IsPart limit (length (joined bodies)) tail
    → records limit (unfinished bodies ++ tail) ≡ record { records = []; rest = unfinished bodies ++ tail; too_long = false }
