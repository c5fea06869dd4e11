-- What an answer shows.
use Rattle.std.proofs.Common.{◌≡◌, ℕ, List, [], ◌∷◌, length, take, drop, None, Some, Ok, Err, sym, ap, ◌∙◌}
use Rattle.std.specs.Prelude.{if◌then◌else◌}
use Rattle.std.proofs.lemmas.Bool.{ne_eqb}
use Rattle.std.proofs.lemmas.List.{take_at, drop_at, nil_from_length}
use Rattle.vx_xdr.specs.declared.fault.XdrErr.{XdrErr}
use Rattle.vx_xdr.specs.Writing.{WritesFirst}
use Rattle.vx_rpc.specs.Header.{CallBody}
use Rattle.vx_rpc.specs.CallMeaning.{Called, OfOtherVersion, call_meaning}
use Rattle.vx_rpc.specs.Wording.{words}
use Rattle.vx_portmap.specs.declared.table.Mapping.{Mapping}
use Rattle.vx_portmap.specs.Answering.{mapping_at, one_mapping, answer, reply_numbers, worded, reply}

-- a text that was written at the front is there
pub first-shown : (text old new : List ℕ) (n : ℕ) → WritesFirst text old n new → take n new ≡ text
first-shown text old new n wrote = ap (take n) wrote.bytes ∙ take_at text _ n (sym wrote.len)

-- and what stood behind it is there still
pub behind-shown : (text old new : List ℕ) (n : ℕ) → WritesFirst text old n new → drop n new ≡ drop n old
behind-shown text old new n wrote = ap (drop n) wrote.bytes ∙ drop_at text _ n (sym wrote.len)

-- the reply to a call of another version of RPC
pub mismatch-shown : (ports : List Mapping) (message old new : List ℕ) (n xid : ℕ) → OfOtherVersion xid ≡ call_meaning message
    → WritesFirst (words (xid ∷ 1 ∷ 1 ∷ 0 ∷ 2 ∷ 2 ∷ [])) old n new → Some (take n new) ≡ reply ports message
mismatch-shown ports message old new n xid is wrote =
    ap Some (first-shown (words (xid ∷ 1 ∷ 1 ∷ 0 ∷ 2 ∷ 2 ∷ [])) old new n wrote) ∙ ap (λ m. worded (reply_numbers ports m)) is

-- the reply to a call
pub call-shown : (ports : List Mapping) (message old new numbers : List ℕ) (n xid : ℕ) (call : CallBody) → Called xid call ≡ call_meaning message
    → numbers ≡ answer ports call → WritesFirst (words (xid ∷ 1 ∷ 0 ∷ 0 ∷ 0 ∷ numbers)) old n new → Some (take n new) ≡ reply ports message
call-shown ports message old new numbers n xid call is same wrote =
    ap Some (first-shown (words (xid ∷ 1 ∷ 0 ∷ 0 ∷ 0 ∷ numbers)) old new n wrote ∙ ap (λ ns. words (xid ∷ 1 ∷ 0 ∷ 0 ∷ 0 ∷ ns)) same)
    ∙ ap (λ m. worded (reply_numbers ports m)) is

-- a mapping with no byte behind it
pub read-only : (args rest : List ℕ) (asked : Mapping) → mapping_at args ≡ Ok (asked, rest) → rest ≡ [] → Some asked ≡ one_mapping (mapping_at args)
read-only args rest asked is ends = sym (ap one_mapping (is ∙ ap (λ r. Ok (asked, r)) ends))

-- a mapping with bytes behind it
pub read-more : (args rest : List ℕ) (asked : Mapping) → mapping_at args ≡ Ok (asked, rest) → (rest ≡ [] → ⊥) → None ≡ one_mapping (mapping_at args)
read-more args rest asked is more =
    sym (ap one_mapping is ∙ ap (λ b. if b then Some asked else None) (ne_eqb (length rest) 0 (λ none. more (nil_from_length rest none))))

-- no mapping
pub read-none : (args : List ℕ) (e : XdrErr) → mapping_at args ≡ Err e → None ≡ one_mapping (mapping_at args)
read-none args e is = sym (ap one_mapping is)
