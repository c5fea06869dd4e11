-- The transfers of a bus line: writing them one by one, and reading them word by word.
use Rattle.std.proofs.Common.{◌≡◌, ℕ, ◌+◌, ◌<◌, ◌≤◌, Bool, true, false, List, [], ◌∷◌, ◌++◌, length, get_or, set, take, drop, Option, Some, None, refl, sym, ap, ◌∙◌, append_assoc, append-nil, arith, ◌⊎◌, inl, inr}
use Rattle.std.specs.Prelude.{codes}
use Rattle.std.proofs.lemmas.List.{take_more, take_more_set, take-append-drop, length-append}
use Rattle.std.proofs.lemmas.List.Concat.{flat_map-append}
use Rattle.vx_lemmas.proofs.Laws.Hexadecimal.{length_upper}
use Rattle.vx_488.specs.declared.transfers.Transfer.{Transfer}
use Rattle.vx_488.specs.declared.transfers.Transfer.TheVariants.{Cmd, Put, Got, Ifc}
use Rattle.vx_trace.specs.Text.{transfer_text, moves_text}
use Rattle.vx_trace.specs.Reading.{cut, transfer_of, with_transfer, all_transfers, moves_of}
use Rattle.vx_trace.proofs.Cuts.{cut-some, cut-none}

-- ---- writing

-- a letter and two digits, and the word of interface clear, are three bytes
length_put : (b : ℕ) (end : Bool) → length (transfer_text (Put b end)) ≡ 3
length_put b false = omega (arith, length_upper (b ∷ []))
length_put b true = omega (arith, length_upper (b ∷ []))

length_got : (b : ℕ) (end : Bool) → length (transfer_text (Got b end)) ≡ 3
length_got b false = omega (arith, length_upper (b ∷ []))
length_got b true = omega (arith, length_upper (b ∷ []))

abbrev text_length : Transfer → ℕ
text_length t = length (transfer_text t)

pub three_bytes : (t : Transfer) → ((x : ℕ) × (t ≡ Cmd x)) ⊎ (((x : ℕ) × (end : Bool) × (t ≡ Put x end)) ⊎ (((x : ℕ) × (end : Bool) × (t ≡ Got x end)) ⊎ (t ≡ Ifc))) → length (transfer_text t) ≡ 3
three_bytes t (inl h) = let len = length_upper (h.0 ∷ []) in ap text_length h.1 ∙ (omega arith)
three_bytes t (inr (inl h)) = ap text_length h.2 ∙ length_put h.0 h.1
three_bytes t (inr (inr (inl h))) = ap text_length h.2 ∙ length_got h.0 h.1
three_bytes t (inr (inr (inr h))) = ap text_length h

abbrev pub spaced : Transfer → List ℕ
spaced t = codes " " ++ transfer_text t

-- one transfer more
pub moves-more : (moves : List Transfer) (i : ℕ) (d : Transfer) → i < length moves → moves_text (take (i + 1) moves) ≡ moves_text (take i moves) ++ spaced (get_or moves i d)
moves-more moves i d h =
    ap moves_text (take_more moves i d h) ∙ flat_map-append spaced (take i moves) (get_or moves i d ∷ [])
    ∙ ap (λ (r : List ℕ). moves_text (take i moves) ++ r) (append-nil (spaced (get_or moves i d)))

-- the first transfers are no longer than all
pub moves-front : (moves : List Transfer) (i : ℕ) → length (moves_text (take i moves)) ≤ length (moves_text moves)
moves-front moves i =
    let whole : moves_text moves ≡ moves_text (take i moves) ++ moves_text (drop i moves) =
    ap moves_text (sym (take-append-drop i moves)) ∙ flat_map-append spaced (take i moves) (drop i moves) in
    omega (arith, ap length whole, length-append (moves_text (take i moves)) (moves_text (drop i moves)))

-- ---- reading

-- transfers before those of a rest
abbrev pub after : List Transfer → Option (List Transfer) → Option (List Transfer)
after front None = None
after front (Some moves) = Some (front ++ moves)

-- a word more
pub moves-cut : (text word rest : List ℕ) → cut text ≡ Some (word, rest) → moves_of text ≡ with_transfer (moves_of rest) (transfer_of word)
moves-cut text word rest e = ap all_transfers (cut-some text word rest e).split

-- the last word
pub moves-last : (text : List ℕ) → cut text ≡ None → moves_of text ≡ with_transfer (Some []) (transfer_of text)
moves-last text e = ap all_transfers (cut-none text e)

-- a word that is no transfer
pub after-none : (front : List Transfer) (o : Option (List Transfer)) → after front (with_transfer o None) ≡ None
after-none front None = refl
after-none front (Some moves) = refl

-- a transfer more, written behind those before it
pub after-more : (room : List Transfer) (count : ℕ) (t : Transfer) (o : Option (List Transfer)) → count < length room → after (take count room) (with_transfer o (Some t)) ≡ after (take (count + 1) (set room count t)) o
after-more room count t None h = refl
after-more room count t (Some moves) h = let e = take_more_set room count t h in ap Some (rw e (sym (append_assoc (take count room) (t ∷ []) moves)))

pub after-last : (room : List Transfer) (count : ℕ) (t : Transfer) → count < length room → after (take count room) (with_transfer (Some []) (Some t)) ≡ Some (take (count + 1) (set room count t))
after-last room count t h = let e = take_more_set room count t h in ap Some (sym e)

-- a text that is cut is longer than its parts
pub cut-length : (text word rest : List ℕ) → cut text ≡ Some (word, rest) → length word + 1 + length rest ≡ length text
cut-length text word rest e = let joined = (cut-some text word rest e).joined in omega (arith, ap length joined, length-append word (32 ∷ rest))
