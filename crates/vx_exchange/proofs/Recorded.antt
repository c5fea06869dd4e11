-- How long the bytes of a handle are in a message.
use Rattle.std.proofs.Common.{◌≡◌, ◌+◌, ◌≤◌, ℕ, List, length, arith, length-append}
use Rattle.std.proofs.lemmas.List.{length-replicate}
use Rattle.vx_codec.specs.Spelling.{opaque, padding, pad_len}

-- at most 40 bytes and their zeros are no more than that
padded-short : (n : ℕ) → n ≤ 40 → n + pad_len n ≤ 40
padded-short n few = omega arith

-- the spelling of so few bytes is short
pub opaque-short : (value : List ℕ) → length value ≤ 40 → length (opaque value) ≤ 44
opaque-short value few =
    let both = length-append value (padding (length value)) in
    let zeros : length (padding (length value)) ≡ pad_len (length value) = length-replicate (pad_len (length value)) 0 in
    let short = padded-short (length value) few in
    omega arith
