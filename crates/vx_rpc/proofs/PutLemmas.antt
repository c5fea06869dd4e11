-- Words written one behind the other.
use Rattle.std.proofs.Common.{◌≡◌, ℕ, ◌+◌, ◌*◌, ◌<◌, ◌≤◌, List, ◌++◌, length, get_or, take, drop, sym, ap, ◌∙◌, arith}
use Rattle.std.proofs.lemmas.List.{length-take, take_all}
use Rattle.vx_xdr.specs.Spelling.{word}
use Rattle.vx_xdr.specs.Writing.{overwritten, WritesFirst}
use Rattle.vx_xdr.proofs.Laws.{overwritten-twice}
use Rattle.vx_rpc.specs.Wording.{words}
use Rattle.vx_rpc.proofs.Laws.{length-words, words-more}

-- one more word was written behind the first of them
pub word-written : (ns old out new : List ℕ) (i w : ℕ) → i < length ns → w ≡ 4 * i → out ≡ overwritten old 0 (words (take i ns)) → new ≡ overwritten out w (word (get_or ns i 0)) → new ≡ overwritten old 0 (words (take (i + 1) ns))
word-written ns old out new i w h e out_is new_is =
    let len : w ≡ 0 + length (words (take i ns)) = omega (arith, length-words (take i ns), length-take i ns) in
    new_is
    ∙ ap (λ (t : List ℕ). overwritten t w (word (get_or ns i 0))) out_is
    ∙ overwritten-twice old 0 (words (take i ns)) (word (get_or ns i 0)) w (omega arith) len
    ∙ ap (overwritten old 0) (sym (words-more ns i h))

-- all the words were written
pub words-written : (ns old out : List ℕ) (i w : ℕ) → length ns ≤ i → w ≡ 4 * i → i ≤ length ns → out ≡ overwritten old 0 (words (take i ns)) → WritesFirst (words ns) old w out
words-written ns old out i w h e h' out_is =
    let all : take i ns ≡ ns = take_all i ns h in
    let len : w ≡ length (words ns) = omega (arith, length-words ns) in
    record {
      bytes = out_is ∙ ap (λ (t : List ℕ). overwritten old 0 (words t)) all ∙ ap (λ (n : ℕ). words ns ++ drop n old) (omega arith);
      len = len;
    }
