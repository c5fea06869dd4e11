-- Texts written one behind the other, and numbers written as words.
use Rattle.std.proofs.Common.{◌≡◌, ℕ, ◌+◌, ◌*◌, ◌<◌, ◌≤◌, List, [], ◌∷◌, ◌++◌, length, get_or, take, refl, sym, ap, ◌∙◌, subst, append-nil, arith, length-append}
use Rattle.std.specs.List.{flat_map}
use Rattle.std.proofs.lemmas.List.{take_more}
use Rattle.std.proofs.lemmas.List.Concat.{flat_map-append}
use Rattle.vx_xdr.specs.Writing.{overwritten, Writes}
use Rattle.vx_xdr.proofs.Laws.{overwritten-twice}
use Rattle.vx_rpc.specs.Wording.{words}
use Rattle.vx_rpc.proofs.Laws.{words-append, length-words}
use Rattle.vx_portmap.specs.declared.table.Mapping.{Mapping}
use Rattle.vx_portmap.specs.Answering.{entry, success, dump_results}

-- a text was written, and another behind it
pub writes-then : (a b old mid new : List ℕ) (at between end : ℕ) → at ≤ length old → Writes a at old between mid → Writes b between mid end new
    → Writes (a ++ b) at old end new
writes-then a b old mid new at between end within first second =
    let place = first.place in
    let end_is = second.place in
    record {
      bytes = second.bytes ∙ ap (λ (t : List ℕ). overwritten t between b) first.bytes ∙ overwritten-twice old at a b between within place;
      place = omega (arith, length-append a b);
      within = second.within;
    }

-- each entry is five numbers
pub length-entries : (ms : List Mapping) → length (flat_map entry ms) ≡ 5 * length ms
length-entries [] = refl
length-entries (m ∷ ms) = let e = length-entries ms in omega (arith, length-append (entry m) (flat_map entry ms))

-- a list of mappings between two words
pub dump-written : (ms : List Mapping) (old first second new : List ℕ) (at p q end : ℕ) → at ≤ length old → Writes (words (0 ∷ [])) at old p first
    → Writes (words (flat_map entry ms)) p first q second → Writes (words (0 ∷ [])) q second end new → Writes (words (success (dump_results ms))) at old end new
dump-written ms old first second new at p q end within zero entries last =
    let rest : Writes (words (flat_map entry ms) ++ words (0 ∷ [])) p first end new = writes-then _ _ first second new p q end zero.within entries last in
    let both : words (flat_map entry ms) ++ words (0 ∷ []) ≡ words (dump_results ms) = sym (words-append (flat_map entry ms) (0 ∷ [])) in
    writes-then (words (0 ∷ [])) (words (dump_results ms)) old first new at p end within zero (subst (λ t. Writes t p first end new) both rest)

-- how many bytes that is
pub length-dump : (ms : List Mapping) → length (words (success (dump_results ms))) ≡ 20 * length ms + 8
length-dump ms =
    let all = length-words (success (dump_results ms)) in
    let both = length-append (flat_map entry ms) (0 ∷ []) in
    let entries = length-entries ms in
    omega arith

-- one more entry
pub entries-more : (ms : List Mapping) (i : ℕ) (d : Mapping) → i < length ms
    → words (flat_map entry (take (i + 1) ms)) ≡ words (flat_map entry (take i ms)) ++ words (entry (get_or ms i d))
entries-more ms i d h =
    ap (λ xs. words (flat_map entry xs)) (take_more ms i d h)
    ∙ ap words (flat_map-append entry (take i ms) (get_or ms i d ∷ []) ∙ ap (λ xs. flat_map entry (take i ms) ++ xs) (append-nil (entry (get_or ms i d))))
    ∙ words-append (flat_map entry (take i ms)) (entry (get_or ms i d))
