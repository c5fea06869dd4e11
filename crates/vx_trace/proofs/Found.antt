-- What is read was the line's text.
use Rattle.std.proofs.Common.{◌≡◌, ℕ, ◌-◌, ◌^◌, ◌<◌, Bool, true, false, List, [], ◌∷◌, ◌++◌, length, take, drop, Option, Some, None, refl, sym, ap, ◌∙◌, append_assoc, arith, codes, decimal, cond, subst}
use Rattle.std.specs.Prelude.{option_map, option_and_then, ◌==◌, flat_map}
use Rattle.std.specs.List.{All, slice_split, onto_first}
use Rattle.std.proofs.lemmas.Bool.{eqb-true}
use Rattle.std.proofs.lemmas.List.{take-append-drop}
use Rattle.std.proofs.lemmas.List.Elements.{All-nil, All-cons}
use Rattle.std.proofs.lemmas.Option.{same_Some}
use Rattle.hex.specs.Hex.{encode_upper}
use Rattle.vx_calls.specs.declared.calls.Role.{Role}
use Rattle.vx_calls.specs.declared.calls.Role.TheVariants as role
use Rattle.vx_488.specs.declared.transfers.Transfer.{Transfer}
use Rattle.vx_488.specs.declared.transfers.Transfer.TheVariants.{Cmd, Put, Got, Ren, Atn, Ifc, Own}
use Rattle.vx_trace.specs.Output.{Output, Bus, Out, Irq, IrqNone, IrqClosed, WaitLock, WaitTurn, WaitBehind, WaitHeld, WaitSlice, WaitDial, GoneDown, GoneJunk, GoneLong, Done, FaultLine, FaultLong, Usage, TraceHead, Up, Call, Begin, DialDone, Srq}
use Rattle.vx_trace.specs.Text.{transfer_text, moves_text, role_text, line_text, IsByteTransfer, IsLine, is_cause}
use Rattle.vx_trace.specs.Reading.{cut, number_of, byte_of, any_bytes_of, bytes_of, of_letter, lettered, transfer_of, with_transfer, all_transfers, moves_of, irq_of, wait_for, wait_of, gone_of, role_of, dial_of, by_word, begin_of, fault_for, fault_of, behind_word, numbered_of, line_of, without_end}
use Rattle.vx_trace.proofs.Hexadecimal.{bytes-all, any-bytes-read, bytes-read, byte-read}
use Rattle.vx_trace.proofs.Cuts.{is_space, cut-some}
use Rattle.vx_lemmas.proofs.Laws.Conditions.{by_test, by_text}
use Rattle.vx_trace.proofs.Choices.{by_map, by_then}
use Rattle.vx_trace.proofs.Numbers.{number-read}

-- ---- transfers

-- a transfer whose text this is
record TransferRead (word : List ℕ) (t : Transfer) : Type 0 where
  fits : IsByteTransfer t
  spelled : transfer_text t ≡ word

transfer-is : (word : List ℕ) (made t : Transfer) → IsByteTransfer made → transfer_text made ≡ word → Some made ≡ Some t → TransferRead word t
transfer-is word made t fits spelled e =
    let P : Transfer → Type 0 = λ u. TransferRead word u in
    subst P (same_Some made t e) (record { fits = fits; spelled = spelled })

letter-read : (letter b : ℕ) (digits : List ℕ) (t : Transfer) → b < 2 ^ 8 → encode_upper (b ∷ []) ≡ digits → of_letter letter b ≡ Some t → TransferRead (letter ∷ digits) t
letter-read letter b digits t fits same e =
    by_test (letter == 99) (Some (Cmd b)) _ t e (λ k h. transfer-is _ (Cmd b) t fits (whole 99 k) h)
    (λ k e. by_test (letter == 112) (Some (Put b false)) _ t e (λ k h. transfer-is _ (Put b false) t fits (whole 112 k) h)
    (λ k e. by_test (letter == 80) (Some (Put b true)) _ t e (λ k h. transfer-is _ (Put b true) t fits (whole 80 k) h)
    (λ k e. by_test (letter == 103) (Some (Got b false)) _ t e (λ k h. transfer-is _ (Got b false) t fits (whole 103 k) h)
    (λ k e. by_test (letter == 71) (Some (Got b true)) None t e (λ k h. transfer-is _ (Got b true) t fits (whole 71 k) h)
    (λ k e. absurd cc)))))
  where
    whole : (n : ℕ) → (letter == n) ≡ true → n ∷ encode_upper (b ∷ []) ≡ letter ∷ digits
    whole n k = let l = eqb-true letter n k in rw (same, l) refl

lettered-read : (word : List ℕ) (t : Transfer) → lettered word ≡ Some t → TransferRead word t
lettered-read [] t e = absurd cc
lettered-read (letter ∷ digits) t e =
    by_then (λ b. of_letter letter b) (byte_of digits) t e (λ b h g. let byte = byte-read digits b h in letter-read letter b digits t byte.0 byte.1 g)

transfer-read : (word : List ℕ) (t : Transfer) → transfer_of word ≡ Some t → TransferRead word t
transfer-read word t e =
    by_text word (codes "ren0") (Some (Ren false)) _ t e (λ w h. transfer-is word (Ren false) t tt (sym w) h)
    (λ e. by_text word (codes "ren1") (Some (Ren true)) _ t e (λ w h. transfer-is word (Ren true) t tt (sym w) h)
    (λ e. by_text word (codes "atn0") (Some (Atn false)) _ t e (λ w h. transfer-is word (Atn false) t tt (sym w) h)
    (λ e. by_text word (codes "atn1") (Some (Atn true)) _ t e (λ w h. transfer-is word (Atn true) t tt (sym w) h)
    (λ e. by_text word (codes "ifc") (Some Ifc) _ t e (λ w h. transfer-is word Ifc t tt (sym w) h)
    (λ e. by_text (take 3 word) (codes "own") _ (lettered word) t e (λ w h. own-read w h) (λ e. lettered-read word t e))))))
  where
    own-read : take 3 word ≡ codes "own" → option_map (λ a. Own a) (number_of (2 ^ 8) (drop 3 word)) ≡ Some t → TransferRead word t
    own-read w h =
        by_map (λ a. Own a) (number_of (2 ^ 8) (drop 3 word)) t h (λ a g s.
        let number = number-read (2 ^ 8) (drop 3 word) a (omega arith) g in
        transfer-is word (Own a) t number.0 (ap (λ (r : List ℕ). codes "own" ++ r) number.1 ∙ ap (λ (f : List ℕ). f ++ drop 3 word) (sym w) ∙ take-append-drop 3 word) (ap (λ (u : Transfer). Some u) s))

-- words, a space before each
abbrev spaced_words : List (List ℕ) → List ℕ
spaced_words words = flat_map (λ w. 32 ∷ w) words

record MovesRead (words : List (List ℕ)) (moves : List Transfer) : Type 0 where
  fit : All IsByteTransfer moves
  spelled : moves_text moves ≡ spaced_words words
  many : length moves ≡ length words

words-read : (words : List (List ℕ)) (moves : List Transfer) → all_transfers words ≡ Some moves → MovesRead words moves
words-read [] moves e =
    let P : List Transfer → Type 0 = λ ms. MovesRead [] ms in
    subst P (same_Some [] moves e) (record { fit = All-nil IsByteTransfer; spelled = refl; many = refl })
words-read (w ∷ ws) moves e = both (all_transfers ws) (transfer_of w) (λ ms h. words-read ws ms h) refl e
  where
    both : (o : Option (List Transfer)) (t : Option Transfer) → ((ms : List Transfer) → o ≡ Some ms → MovesRead ws ms) → transfer_of w ≡ t → with_transfer o t ≡ Some moves → MovesRead (w ∷ ws) moves
    both None t f g e = absurd cc
    both (Some ms) None f g e = absurd cc
    both (Some ms) (Some t) f g e =
        let rest = f ms refl in
        let first = transfer-read w t g in
        let many = rest.many in
        let P : List Transfer → Type 0 = λ all. MovesRead (w ∷ ws) all in
        subst P (same_Some (t ∷ ms) moves e) (record {
          fit = All-cons IsByteTransfer t ms first.fits rest.fit;
          spelled = ap (λ (x : List ℕ). 32 ∷ x ++ moves_text ms) first.spelled ∙ ap (λ (x : List ℕ). (32 ∷ w) ++ x) rest.spelled;
          many = omega arith;
        })

-- the words of a text, a space before each, are the text and a space before it
onto-first : (b : ℕ) (text : List ℕ) (words : List (List ℕ)) → spaced_words words ≡ 32 ∷ text → spaced_words (onto_first b words) ≡ 32 ∷ b ∷ text
onto-first b text [] e = absurd cc
onto-first b text (w ∷ ws) e = ap (λ (x : List ℕ). 32 ∷ b ∷ x) (ap (drop 1) e)

words-joined : (text : List ℕ) → spaced_words (slice_split is_space text) ≡ 32 ∷ text
words-joined [] = refl
words-joined (b ∷ bs) = by_byte (is_space b) refl (words-joined bs)
  where
    by_byte : (t : Bool) → is_space b ≡ t → spaced_words (slice_split is_space bs) ≡ 32 ∷ bs → spaced_words (cond t ([] ∷ slice_split is_space bs) (onto_first b (slice_split is_space bs))) ≡ 32 ∷ b ∷ bs
    by_byte true e rest = let space = eqb-true b 32 e in rw (space, rest) refl
    by_byte false e rest = onto-first b bs (slice_split is_space bs) rest

words-some : (text : List ℕ) (words : List (List ℕ)) → spaced_words words ≡ 32 ∷ text → 0 < length words
words-some text [] e = absurd cc
words-some text (w ∷ ws) e = omega arith

-- ---- lines

-- a line whose text this is, but for its LF
pub record LineRead (text : List ℕ) (line : Output) : Type 0 where
  pub is : IsLine line
  pub spelled : line_text line ≡ text ++ codes "\n"

line-is : (text : List ℕ) (made line : Output) → IsLine made → line_text made ≡ text ++ codes "\n" → Some made ≡ Some line → LineRead text line
line-is text made line h spelled e =
    let P : Output → Type 0 = λ l. LineRead text l in
    subst P (same_Some made line e) (record { is = h; spelled = spelled })

-- a line of a word, a connection and a rest
told : (word : List ℕ) (conn : ℕ) (tail rest : List ℕ) (made line : Output) → IsLine made → line_text made ≡ (word ++ 32 ∷ ((decimal conn ++ 32 ∷ []) ++ tail)) ++ codes "\n"
    → tail ≡ rest → Some made ≡ Some line → LineRead (word ++ 32 ∷ (decimal conn ++ 32 ∷ rest)) line
told word conn tail rest made line h spelled same e =
    line-is (word ++ 32 ∷ (decimal conn ++ 32 ∷ rest)) made line h
    (spelled ∙ ap (λ (r : List ℕ). (word ++ 32 ∷ r) ++ codes "\n") (append_assoc (decimal conn) (32 ∷ []) tail ∙ ap (λ (r : List ℕ). decimal conn ++ 32 ∷ r) same)) e

bus-read : (conn : ℕ) (rest : List ℕ) (line : Output) → conn < 2 ^ 32 → option_map (λ moves. Bus conn moves) (moves_of rest) ≡ Some line → LineRead (codes "bus" ++ 32 ∷ (decimal conn ++ 32 ∷ rest)) line
bus-read conn rest line small e =
    by_map (λ moves. Bus conn moves) (moves_of rest) line e (λ moves h s.
    let read = words-read (slice_split is_space rest) moves h in
    let many = read.many in
    let some = words-some rest (slice_split is_space rest) (words-joined rest) in
    let text : moves_text moves ≡ 32 ∷ rest = read.spelled ∙ words-joined rest in
    line-is (codes "bus" ++ 32 ∷ (decimal conn ++ 32 ∷ rest)) (Bus conn moves) line (omega arith, (small, read.fit))
    (ap (λ (r : List ℕ). (codes "bus " ++ (decimal conn ++ r)) ++ codes "\n") text) (ap (λ (l : Output). Some l) s))

out-read : (conn : ℕ) (rest : List ℕ) (line : Output) → conn < 2 ^ 32 → option_map (λ bytes. Out conn bytes) (bytes_of rest) ≡ Some line → LineRead (codes "out" ++ 32 ∷ (decimal conn ++ 32 ∷ rest)) line
out-read conn rest line small e =
    by_map (λ bytes. Out conn bytes) (bytes_of rest) line e (λ bytes h s.
    let read = bytes-read rest bytes h in
    told (codes "out") conn (encode_upper bytes) rest (Out conn bytes) line (read.1, (small, bytes-all bytes read.0.fit)) refl read.0.spelled (ap (λ (l : Output). Some l) s))

irq-read : (conn : ℕ) (rest : List ℕ) (line : Output) → conn < 2 ^ 32 → irq_of conn rest ≡ Some line → LineRead (codes "irq" ++ 32 ∷ (decimal conn ++ 32 ∷ rest)) line
irq-read conn rest line small e =
    by_text rest (codes "none") (Some (IrqNone conn)) _ line e (λ w h. told (codes "irq") conn (codes "none") rest (IrqNone conn) line (tt, small) refl (sym w) h)
    (λ e. by_text rest (codes "closed") (Some (IrqClosed conn)) _ line e (λ w h. told (codes "irq") conn (codes "closed") rest (IrqClosed conn) line (tt, small) refl (sym w) h)
    (λ e. by_map (λ bytes. Irq conn bytes) (bytes_of rest) line e (λ bytes h s.
    let read = bytes-read rest bytes h in
    told (codes "irq") conn (encode_upper bytes) rest (Irq conn bytes) line (read.1, (small, bytes-all bytes read.0.fit)) refl read.0.spelled (ap (λ (l : Output). Some l) s))))

gone-read : (conn : ℕ) (rest : List ℕ) (line : Output) → conn < 2 ^ 32 → gone_of conn rest ≡ Some line → LineRead (codes "gone" ++ 32 ∷ (decimal conn ++ 32 ∷ rest)) line
gone-read conn rest line small e =
    by_text rest (codes "down") (Some (GoneDown conn)) _ line e (λ w h. told (codes "gone") conn (codes "down") rest (GoneDown conn) line (tt, small) refl (sym w) h)
    (λ e. by_text rest (codes "junk") (Some (GoneJunk conn)) _ line e (λ w h. told (codes "gone") conn (codes "junk") rest (GoneJunk conn) line (tt, small) refl (sym w) h)
    (λ e. by_text rest (codes "long") (Some (GoneLong conn)) None line e (λ w h. told (codes "gone") conn (codes "long") rest (GoneLong conn) line (tt, small) refl (sym w) h)
    (λ e. absurd cc)))

-- a wait for a link or a connection
wait_for-read : (conn n : ℕ) (what rest : List ℕ) (line : Output) → conn < 2 ^ 32 → n < 2 ^ 32 → rest ≡ what ++ 32 ∷ decimal n → wait_for conn what n ≡ Some line → LineRead (codes "wait" ++ 32 ∷ (decimal conn ++ 32 ∷ rest)) line
wait_for-read conn n what rest line small less parts e =
    by_text what (codes "lock") (Some (WaitLock conn n)) _ line e
    (λ w h. line-is _ (WaitLock conn n) line (tt, (small, less)) (whole (codes "lock") w) h)
    (λ e. by_text what (codes "turn") (Some (WaitTurn conn n)) _ line e
    (λ w h. line-is _ (WaitTurn conn n) line (tt, (small, less)) (whole (codes "turn") w) h)
    (λ e. by_text what (codes "behind") (Some (WaitBehind conn n)) None line e
    (λ w h. line-is _ (WaitBehind conn n) line (tt, (small, less)) (whole (codes "behind") w) h)
    (λ e. absurd cc)))
  where
    whole : (word : List ℕ) → what ≡ word → (codes "wait" ++ 32 ∷ ((decimal conn ++ (32 ∷ word ++ codes " ")) ++ decimal n)) ++ codes "\n" ≡ (codes "wait" ++ 32 ∷ (decimal conn ++ 32 ∷ rest)) ++ codes "\n"
    whole word w =
        let behind : (32 ∷ word ++ codes " ") ++ decimal n ≡ 32 ∷ rest =
        append_assoc (32 ∷ word) (codes " ") (decimal n) ∙ ap (λ (r : List ℕ). 32 ∷ r) (ap (λ (x : List ℕ). x ++ 32 ∷ decimal n) (sym w) ∙ sym parts) in
        ap (λ (r : List ℕ). (codes "wait" ++ 32 ∷ r) ++ codes "\n") (append_assoc (decimal conn) (32 ∷ word ++ codes " ") (decimal n) ∙ ap (λ (r : List ℕ). decimal conn ++ r) behind)

wait-read : (conn : ℕ) (rest : List ℕ) (line : Output) → conn < 2 ^ 32 → wait_of conn rest ≡ Some line → LineRead (codes "wait" ++ 32 ∷ (decimal conn ++ 32 ∷ rest)) line
wait-read conn rest line small e =
    by_text rest (codes "held") (Some (WaitHeld conn)) _ line e (λ w h. told (codes "wait") conn (codes "held") rest (WaitHeld conn) line (tt, small) refl (sym w) h)
    (λ e. by_text rest (codes "slice") (Some (WaitSlice conn)) _ line e (λ w h. told (codes "wait") conn (codes "slice") rest (WaitSlice conn) line (tt, small) refl (sym w) h)
    (λ e. by_text rest (codes "dial") (Some (WaitDial conn)) _ line e (λ w h. told (codes "wait") conn (codes "dial") rest (WaitDial conn) line (tt, small) refl (sym w) h)
    (λ e. by_then (λ p. option_and_then (λ n. wait_for conn p.0 n) (number_of (2 ^ 32) p.1)) (cut rest) line e (λ p h g.
    by_then (λ n. wait_for conn p.0 n) (number_of (2 ^ 32) p.1) line g (λ n k f.
    let number = number-read (2 ^ 32) p.1 n (omega arith) k in
    let parts = cut-some rest p.0 p.1 h in
    wait_for-read conn n p.0 rest line small number.0 (parts.joined ∙ ap (λ (r : List ℕ). p.0 ++ 32 ∷ r) (sym number.1)) f)))))

role-read : (text : List ℕ) (r : Role) → role_of text ≡ Some r → role_text r ≡ text
role-read text r e =
    by_text text (codes "core") (Some role.Core) _ r e (λ w h. ap role_text (sym (same_Some role.Core r h)) ∙ sym w)
    (λ e. by_text text (codes "abort") (Some role.Abort) None r e (λ w h. ap role_text (sym (same_Some role.Abort r h)) ∙ sym w)
    (λ e. absurd cc))

up-read : (conn : ℕ) (rest : List ℕ) (line : Output) → conn < 2 ^ 32 → option_map (λ r. Up conn r) (role_of rest) ≡ Some line → LineRead (codes "up" ++ 32 ∷ (decimal conn ++ 32 ∷ rest)) line
up-read conn rest line small e =
    by_map (λ r. Up conn r) (role_of rest) line e (λ r h s.
    told (codes "up") conn (role_text r) rest (Up conn r) line (tt, small) refl (role-read rest r h) (ap (λ (l : Output). Some l) s))

call-read : (conn : ℕ) (rest : List ℕ) (line : Output) → conn < 2 ^ 32 → option_map (λ bytes. Call conn bytes) (any_bytes_of rest) ≡ Some line → LineRead (codes "call" ++ 32 ∷ (decimal conn ++ 32 ∷ rest)) line
call-read conn rest line small e =
    by_map (λ bytes. Call conn bytes) (any_bytes_of rest) line e (λ bytes h s.
    let read = any-bytes-read rest bytes h in
    told (codes "call") conn (encode_upper bytes) rest (Call conn bytes) line (tt, (small, bytes-all bytes read.fit)) refl read.spelled (ap (λ (l : Output). Some l) s))

dial-read : (conn : ℕ) (rest : List ℕ) (line : Output) → conn < 2 ^ 32 → dial_of conn rest ≡ Some line → LineRead (codes "dial" ++ 32 ∷ (decimal conn ++ 32 ∷ rest)) line
dial-read conn rest line small e =
    by_text rest (codes "ok") (Some (DialDone conn true)) _ line e (λ w h. told (codes "dial") conn (codes "ok") rest (DialDone conn true) line (tt, small) refl (sym w) h)
    (λ e. by_text rest (codes "fail") (Some (DialDone conn false)) None line e (λ w h. told (codes "dial") conn (codes "fail") rest (DialDone conn false) line (tt, small) refl (sym w) h)
    (λ e. absurd cc))

-- the line of a word and a connection
word-read : (word rest : List ℕ) (conn : ℕ) (line : Output) → conn < 2 ^ 32 → by_word word conn rest ≡ Some line → LineRead (word ++ 32 ∷ (decimal conn ++ 32 ∷ rest)) line
word-read word rest conn line small e =
    by_text word (codes "bus") _ _ line e (λ w h. of_word (codes "bus") w (bus-read conn rest line small h))
    (λ e. by_text word (codes "out") _ _ line e (λ w h. of_word (codes "out") w (out-read conn rest line small h))
    (λ e. by_text word (codes "irq") _ _ line e (λ w h. of_word (codes "irq") w (irq-read conn rest line small h))
    (λ e. by_text word (codes "call") _ _ line e (λ w h. of_word (codes "call") w (call-read conn rest line small h))
    (λ e. by_text word (codes "wait") _ _ line e (λ w h. of_word (codes "wait") w (wait-read conn rest line small h))
    (λ e. by_text word (codes "gone") _ _ line e (λ w h. of_word (codes "gone") w (gone-read conn rest line small h))
    (λ e. by_text word (codes "up") _ _ line e (λ w h. of_word (codes "up") w (up-read conn rest line small h))
    (λ e. by_text word (codes "dial") _ None line e (λ w h. of_word (codes "dial") w (dial-read conn rest line small h))
    (λ e. absurd cc))))))))
  where
    of_word : (known : List ℕ) → word ≡ known → LineRead (known ++ 32 ∷ (decimal conn ++ 32 ∷ rest)) line → LineRead (word ++ 32 ∷ (decimal conn ++ 32 ∷ rest)) line
    of_word known w read =
        let P : List ℕ → Type 0 = λ x. LineRead (x ++ 32 ∷ (decimal conn ++ 32 ∷ rest)) line in
        subst P (sym w) read

behind-read : (word rest : List ℕ) (line : Output) → behind_word word rest ≡ Some line → LineRead (word ++ 32 ∷ rest) line
behind-read word rest line e =
    by_then (λ p. option_and_then (λ conn. by_word word conn p.1) (number_of (2 ^ 32) p.0)) (cut rest) line e (λ p h g.
    by_then (λ conn. by_word word conn p.1) (number_of (2 ^ 32) p.0) line g (λ conn k f.
    let number = number-read (2 ^ 32) p.0 conn (omega arith) k in
    let parts = cut-some rest p.0 p.1 h in
    let P : List ℕ → Type 0 = λ r. LineRead (word ++ 32 ∷ r) line in
    subst P (ap (λ (d : List ℕ). d ++ 32 ∷ p.1) number.1 ∙ sym parts.joined) (word-read word p.1 conn line number.0 f)))

fault-read : (rest : List ℕ) (line : Output) → fault_of rest ≡ Some line → LineRead (codes "fault line " ++ rest) line
fault-read rest line e =
    by_then (λ p. option_and_then (λ n. fault_for n p.1) (number_of (2 ^ 64) p.0)) (cut rest) line e (λ p h g.
    by_then (λ n. fault_for n p.1) (number_of (2 ^ 64) p.0) line g (λ n k f.
    by_test (is_cause p.1) (Some (FaultLine n p.1)) None line f
    (λ b s.
    let number = number-read (2 ^ 64) p.0 n (omega arith) k in
    let parts = cut-some rest p.0 p.1 h in
    let spelled : (decimal n ++ 32 ∷ []) ++ p.1 ≡ rest =
    append_assoc (decimal n) (32 ∷ []) p.1 ∙ ap (λ (d : List ℕ). d ++ 32 ∷ p.1) number.1 ∙ sym parts.joined in
    line-is (codes "fault line " ++ rest) (FaultLine n p.1) line (b, number.0) (ap (λ (r : List ℕ). (codes "fault line " ++ r) ++ codes "\n") spelled) s)
    (λ b s. absurd cc)))

begin-read : (rest : List ℕ) (line : Output) → begin_of rest ≡ Some line → LineRead (codes "begin " ++ rest) line
begin-read rest line e =
    by_map (λ conn. Begin conn) (number_of (2 ^ 32) rest) line e (λ conn h s.
    let number = number-read (2 ^ 32) rest conn (omega arith) h in
    line-is (codes "begin " ++ rest) (Begin conn) line (tt, number.0) (ap (λ (r : List ℕ). (codes "begin " ++ r) ++ codes "\n") number.1) (ap (λ (l : Output). Some l) s))

numbered-read : (text : List ℕ) (line : Output) → numbered_of text ≡ Some line → LineRead text line
numbered-read text line e =
    by_text (take 11 text) (codes "fault line ") (fault_of (drop 11 text)) _ line e (λ w h. front-read 11 (codes "fault line ") w (fault-read (drop 11 text) line h))
    (λ e. by_text (take 6 text) (codes "begin ") (begin_of (drop 6 text)) _ line e (λ w h. front-read 6 (codes "begin ") w (begin-read (drop 6 text) line h))
    (λ e. by_then (λ p. behind_word p.0 p.1) (cut text) line e (λ p h g.
    let P : List ℕ → Type 0 = λ x. LineRead x line in
    let parts = cut-some text p.0 p.1 h in
    subst P (sym parts.joined) (behind-read p.0 p.1 line g))))
  where
    front-read : (n : ℕ) (front : List ℕ) → take n text ≡ front → LineRead (front ++ drop n text) line → LineRead text line
    front-read n front w read =
        let P : List ℕ → Type 0 = λ x. LineRead x line in
        subst P (ap (λ (f : List ℕ). f ++ drop n text) (sym w) ∙ take-append-drop n text) read

pub line-read : (text : List ℕ) (line : Output) → line_of text ≡ Some line → LineRead text line
line-read text line e =
    by_text text (codes "done") (Some Done) _ line e (λ w h. line-is text Done line (tt, tt) (ap (λ (x : List ℕ). x ++ codes "\n") (sym w)) h)
    (λ e. by_text text (codes "fault long") (Some FaultLong) _ line e (λ w h. line-is text FaultLong line (tt, tt) (ap (λ (x : List ℕ). x ++ codes "\n") (sym w)) h)
    (λ e. by_text text (codes "usage: vxplay COMMAND") (Some Usage) _ line e (λ w h. line-is text Usage line (tt, tt) (ap (λ (x : List ℕ). x ++ codes "\n") (sym w)) h)
    (λ e. by_text text (codes "vxtrace 2") (Some TraceHead) _ line e (λ w h. line-is text TraceHead line (tt, tt) (ap (λ (x : List ℕ). x ++ codes "\n") (sym w)) h)
    (λ e. by_text text (codes "srq 0") (Some (Srq false)) _ line e (λ w h. line-is text (Srq false) line (tt, tt) (ap (λ (x : List ℕ). x ++ codes "\n") (sym w)) h)
    (λ e. by_text text (codes "srq 1") (Some (Srq true)) _ line e (λ w h. line-is text (Srq true) line (tt, tt) (ap (λ (x : List ℕ). x ++ codes "\n") (sym w)) h)
    (λ e. numbered-read text line e))))))

-- a text without its LF
pub end-read : (text body : List ℕ) → without_end text ≡ Some body → text ≡ body ++ codes "\n"
end-read text body e =
    by_text (drop (length text - 1) text) (codes "\n") (Some (take (length text - 1) text)) None body e
    (λ w s.
    let front = same_Some (take (length text - 1) text) body s in
    sym (take-append-drop (length text - 1) text) ∙ ap (λ (x : List ℕ). take (length text - 1) text ++ x) w ∙ ap (λ (x : List ℕ). x ++ codes "\n") front)
    (λ s. absurd cc)
