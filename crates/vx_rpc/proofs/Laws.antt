-- Laws of words that are written one behind the other, proved.
pub mod Sorted
use Rattle.std.proofs.Common.{◌≡◌, ℕ, ◌+◌, ◌*◌, ◌<◌, List, [], ◌∷◌, ◌++◌, length, get_or, take, refl, ap, ◌∙◌, append-nil, arith}
use Rattle.std.proofs.lemmas.List.{length-append, take_more}
use Rattle.std.proofs.lemmas.List.Concat.{flat_map-append}
use Rattle.vx_xdr.specs.Spelling.{word}
use Rattle.vx_rpc.specs.Wording.{words}

-- the words of numbers, and then of more of them
pub words-append : (ms ns : List ℕ) → words (ms ++ ns) ≡ words ms ++ words ns
words-append ms ns = flat_map-append word ms ns

-- each number is four bytes
pub length-words : (ns : List ℕ) → length (words ns) ≡ 4 * length ns
length-words [] = refl
length-words (n ∷ ns) = let e = length-words ns in omega (arith, length-append (word n) (words ns))

-- one more number
pub words-more : (ns : List ℕ) (i : ℕ) → i < length ns → words (take (i + 1) ns) ≡ words (take i ns) ++ word (get_or ns i 0)
words-more ns i h = ap words (take_more ns i 0 h) ∙ words-append (take i ns) (get_or ns i 0 ∷ []) ∙ ap (λ (t : List ℕ). words (take i ns) ++ t) (append-nil (word (get_or ns i 0)))
