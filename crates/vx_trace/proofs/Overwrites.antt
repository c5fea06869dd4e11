-- Texts that were written over parts of a list.
use Rattle.std.proofs.Common.{◌≡◌, ℕ, ◌+◌, ◌≤◌, List, [], ◌++◌, length, take, drop, sym, ap, ◌∙◌, append_assoc, append-nil, add-zero, zero-add, arith}
use Rattle.std.proofs.lemmas.List.{drop-drop, drop_at, take-append-drop, length-append, length-take}
use borrow.Rule.Slice.PartMut.{put_mid}
use Rattle.vx_trace.specs.Writing.{overwritten, WritesFirst}
use Rattle.vx_xdr.proofs.Laws.{overwritten-twice}

-- a text behind a text that was written, of what two calls left
pub overwritten_twice : (old middle new : List ℕ) (at p : ℕ) (a b : List ℕ) → new ≡ overwritten middle p b → middle ≡ overwritten old at a → p ≡ at + length a → at ≤ length old → new ≡ overwritten old at (a ++ b)
overwritten_twice old middle new at p a b second first e h = second ∙ ap (λ (m : List ℕ). overwritten m p b) first ∙ overwritten-twice old at a b p h e

-- a text at the list's start, before one that was written behind it
pub overwritten-front : (old front text : List ℕ) → length front ≤ length old → overwritten (overwritten old (length front) text) 0 front ≡ overwritten old 0 (front ++ text)
overwritten-front old front text h =
    let k = length front in
    let rest = drop (k + length text) old in
    let behind : drop k (overwritten old k text) ≡ text ++ rest =
    ap (drop k) (append_assoc (take k old) text rest) ∙ drop_at (take k old) (text ++ rest) k (omega (arith, length-take k old)) in
    let end : k + length text ≡ 0 + length (front ++ text) = sym (length-append front text) ∙ sym (zero-add (length (front ++ text))) in
    ap (λ (n : ℕ). front ++ drop n (overwritten old k text)) (zero-add k) ∙ ap (λ (t : List ℕ). front ++ t) behind
    ∙ sym (append_assoc front text rest) ∙ ap (λ (n : ℕ). (front ++ text) ++ drop n old) end

-- no text leaves the list as it was
pub overwritten-nil : (old : List ℕ) (at : ℕ) → old ≡ overwritten old at []
overwritten-nil old at = rw (append-nil, add-zero) (sym (take-append-drop at old))

-- a text in the place of a part as long
pub overwritten-part : (old text : List ℕ) (at k : ℕ) → k ≡ length text → put_mid at k old text ≡ overwritten old at text
overwritten-part old text at k e = rw (drop-drop k at old, e) (sym (append_assoc (take at old) text (drop (at + length text) old)))

-- a text that was written at the start
pub overwritten-first : (old new text : List ℕ) (n : ℕ) → new ≡ overwritten old 0 text → n ≡ length text → WritesFirst text old n new
overwritten-first old new text n e len = record {
  bytes = e ∙ ap (λ (k : ℕ). text ++ drop k old) (zero-add (length text) ∙ sym len);
  len = len;
}
