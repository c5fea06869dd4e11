-- To be believed.
-- Lists of transfers: when two transfers are one, and the bytes that were got.
use Rattle.std.specs.Prelude.{ℕ, Bool, true, false, not, ◌&&◌, ◌==◌, if◌then◌else◌, Option, Some, None}
use Rattle.vx_488.specs.declared.transfers.Transfer.{Transfer}
use Rattle.vx_488.specs.declared.transfers.Transfer.TheVariants.{Cmd, Put, Got, Ren, Atn, Ifc, Own}

abbrev pub same_bool : Bool → Bool → Bool
same_bool a b = if a then b else not b

abbrev pub same_transfer : Transfer → Transfer → Bool
same_transfer (Cmd a) (Cmd b) = a == b
same_transfer (Put a end) (Put b last) = (a == b) && same_bool end last
same_transfer (Got a end) (Got b last) = (a == b) && same_bool end last
same_transfer (Ren a) (Ren b) = same_bool a b
same_transfer (Atn a) (Atn b) = same_bool a b
same_transfer Ifc Ifc = true
same_transfer (Own a) (Own b) = a == b
same_transfer _ _ = false

abbrev pub is_got : Transfer → Bool
is_got (Got b end) = true
is_got _ = false

-- the byte that a transfer got, and whether END stood on it
abbrev pub got_of : Transfer → Option (ℕ × Bool)
got_of (Got b end) = Some (b, end)
got_of _ = None

-- the gateway takes a new own address
abbrev pub is_own : Transfer → Bool
is_own (Own a) = true
is_own _ = false
