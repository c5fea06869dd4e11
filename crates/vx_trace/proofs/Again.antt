-- Each line is read from its text.
use Rattle.std.proofs.Common.{◌≡◌, ℕ, ◌-◌, ◌^◌, ◌<◌, Bool, true, false, List, [], ◌∷◌, ◌++◌, length, Option, Some, refl, ap, ◌∙◌, append_assoc, append-nil, arith, codes, decimal}
use Rattle.std.specs.Prelude.{option_map, option_and_then}
use Rattle.std.specs.List.{All, list_all, list_any}
use Rattle.std.proofs.lemmas.Bool.{false_from_ne_true, both_ways}
use Rattle.std.proofs.lemmas.List.{take_at, drop_at, length-append}
use Rattle.std.proofs.lemmas.List.Elements.{All-head, All-tail}
use Rattle.std.specs.Str.{bytes_eq}
use Rattle.hex.specs.Hex.{encode_upper}
use Rattle.vx_calls.specs.declared.calls.Role.{Role}
use Rattle.vx_calls.specs.declared.calls.Role.TheVariants as role
use Rattle.vx_488.specs.declared.transfers.Transfer.{Transfer}
use Rattle.vx_488.specs.declared.transfers.Transfer.TheVariants.{Cmd, Put, Got, Ren, Atn, Ifc, Own}
use Rattle.vx_trace.specs.Output.{Output, Bus, Out, Irq, IrqNone, IrqClosed, WaitLock, WaitTurn, WaitBehind, WaitHeld, WaitSlice, WaitDial, GoneDown, GoneJunk, GoneLong, Done, FaultLine, FaultLong, Usage, TraceHead, Up, Call, Begin, DialDone, Srq}
use Rattle.vx_trace.specs.Text.{transfer_text, moves_text, role_text, dial_text, line_text, IsByteTransfer, IsLine, is_cause}
use Rattle.vx_trace.specs.Reading.{cut, is_lower_digit, number_of, of_letter, lettered, transfer_of, with_transfer, moves_of, irq_of, wait_of, role_of, dial_of, by_word, fault_of, behind_word, line_of, without_end, reading}
use Rattle.vx_trace.proofs.Hexadecimal.{all-bytes, upper-plain, upper-lower, any-bytes-again, bytes-again, byte-again}
use Rattle.vx_trace.proofs.Cuts.{is_plain, cut-again, cut_plain}
use Rattle.vx_trace.proofs.Numbers.{number-again, decimal-plain}
use Rattle.vx_lemmas.proofs.Laws.Conditions.{same_bytes}
use Rattle.vx_trace.proofs.Moves.{moves-cut, moves-last}

-- ---- transfers

one-byte : (b : ℕ) → b < 2 ^ 8 → All (λ c. c < 2 ^ 8) (b ∷ [])
one-byte b h k d lt = let e : k ≡ 0 = omega arith in rw e h

-- a letter and two digits
lettered-again : (letter b : ℕ) → b < 2 ^ 8 → lettered (letter ∷ encode_upper (b ∷ [])) ≡ of_letter letter b
lettered-again letter b h = ap (option_and_then (λ c. of_letter letter c)) (byte-again b h)

transfer-again : (t : Transfer) → IsByteTransfer t → transfer_of (transfer_text t) ≡ Some t
transfer-again (Cmd b) h = lettered-again 99 b h
transfer-again (Put b false) h = lettered-again 112 b h
transfer-again (Put b true) h = lettered-again 80 b h
transfer-again (Got b false) h = lettered-again 103 b h
transfer-again (Got b true) h = lettered-again 71 b h
transfer-again (Ren false) h = refl
transfer-again (Ren true) h = refl
transfer-again (Atn false) h = refl
transfer-again (Atn true) h = refl
transfer-again Ifc h = refl
transfer-again (Own a) h = ap (option_map (λ n. Own n)) (number-again (2 ^ 8) a h (omega arith))

lettered-plain : (b : ℕ) → b < 2 ^ 8 → list_all is_plain (encode_upper (b ∷ [])) ≡ true
lettered-plain b h = upper-plain (b ∷ []) (all-bytes (b ∷ []) (one-byte b h))

pub transfer-plain : (t : Transfer) → IsByteTransfer t → list_all is_plain (transfer_text t) ≡ true
transfer-plain (Cmd b) h = lettered-plain b h
transfer-plain (Put b false) h = lettered-plain b h
transfer-plain (Put b true) h = lettered-plain b h
transfer-plain (Got b false) h = lettered-plain b h
transfer-plain (Got b true) h = lettered-plain b h
transfer-plain (Ren false) h = refl
transfer-plain (Ren true) h = refl
transfer-plain (Atn false) h = refl
transfer-plain (Atn true) h = refl
transfer-plain Ifc h = refl
transfer-plain (Own a) h = decimal-plain a (omega arith)

moves-again : (t : Transfer) (ts : List Transfer) → IsByteTransfer t → All IsByteTransfer ts → moves_of (transfer_text t ++ moves_text ts) ≡ Some (t ∷ ts)
moves-again t [] h hs =
    let word = transfer_text t in
    ap moves_of (append-nil word) ∙ moves-last word (cut_plain word (transfer-plain t h)) ∙ ap (with_transfer (Some [])) (transfer-again t h)
moves-again t (u ∷ us) h hs =
    let word = transfer_text t in
    let rest = transfer_text u ++ moves_text us in
    let more = moves-again u us (All-head IsByteTransfer u us hs) (All-tail IsByteTransfer u us hs) in
    moves-cut (word ++ 32 ∷ rest) word rest (cut-again word rest (transfer-plain t h))
    ∙ ap (λ (o : Option (List Transfer)). with_transfer o (transfer_of word)) more
    ∙ ap (with_transfer (Some (u ∷ us))) (transfer-again t h)

-- ---- lines

-- a text and then LF
pub end-again : (text : List ℕ) → without_end (text ++ codes "\n") ≡ Some text
end-again text =
    let len : length (text ++ codes "\n") - 1 ≡ length text = omega (arith, length-append text (codes "\n")) in
    let last = drop_at text (codes "\n") (length text) refl in
    let front = take_at text (codes "\n") (length text) refl in
    rw (len, last, front) refl

line-again : (text : List ℕ) (line : Output) → line_of text ≡ Some line → reading (text ++ codes "\n") ≡ Some line
line-again text line h = ap (option_and_then line_of) (end-again text) ∙ h

-- the line of a text that begins with a word and a connection
abbrev behind_first : List ℕ → Option Output
behind_first text = option_and_then (λ p. behind_word p.0 p.1) (cut text)

about-again : (word : List ℕ) (conn : ℕ) (rest : List ℕ) → list_all is_plain word ≡ true → conn < 2 ^ 32 → behind_first (word ++ 32 ∷ (decimal conn ++ 32 ∷ rest)) ≡ by_word word conn rest
about-again word conn rest h small =
    let first = cut-again word (decimal conn ++ 32 ∷ rest) h in
    let second = cut-again (decimal conn) rest (decimal-plain conn (omega arith)) in
    let number = number-again (2 ^ 32) conn small (omega arith) in
    ap (option_and_then (λ p. behind_word p.0 p.1)) first
    ∙ ap (option_and_then (λ p. option_and_then (λ n. by_word word n p.1) (number_of (2 ^ 32) p.0))) second
    ∙ ap (option_and_then (λ n. by_word word n rest)) number

-- a text with a word, a connection and a rest is read as the rest says
told-again : (word : List ℕ) (conn : ℕ) (rest text : List ℕ) (line : Output) → list_all is_plain word ≡ true → conn < 2 ^ 32
    → ((t : List ℕ) → line_of (word ++ 32 ∷ t) ≡ behind_first (word ++ 32 ∷ t)) → by_word word conn rest ≡ Some line
    → text ≡ (word ++ 32 ∷ (decimal conn ++ 32 ∷ rest)) ++ codes "\n" → reading text ≡ Some line
told-again word conn rest text line plain small first e shape =
    ap reading shape
    ∙ line-again (word ++ 32 ∷ (decimal conn ++ 32 ∷ rest)) line (first (decimal conn ++ 32 ∷ rest) ∙ about-again word conn rest plain small ∙ e)

-- a space behind the connection
joined : (word : List ℕ) (conn : ℕ) (rest : List ℕ) → (word ++ 32 ∷ ((decimal conn ++ 32 ∷ []) ++ rest)) ++ codes "\n" ≡ (word ++ 32 ∷ (decimal conn ++ 32 ∷ rest)) ++ codes "\n"
joined word conn rest = ap (λ (r : List ℕ). (word ++ 32 ∷ r) ++ codes "\n") (append_assoc (decimal conn) (32 ∷ []) rest)

-- a wait for the lock of a link, for the turn of a connection, or behind its call
lock-again : (conn lid : ℕ) → lid < 2 ^ 32 → wait_of conn (codes "lock " ++ decimal lid) ≡ Some (WaitLock conn lid)
lock-again conn lid h =
    let parts = cut-again (codes "lock") (decimal lid) refl in
    let number = number-again (2 ^ 32) lid h (omega arith) in
    rw (parts, number) refl

turn-again : (conn by : ℕ) → by < 2 ^ 32 → wait_of conn (codes "turn " ++ decimal by) ≡ Some (WaitTurn conn by)
turn-again conn by h =
    let parts = cut-again (codes "turn") (decimal by) refl in
    let number = number-again (2 ^ 32) by h (omega arith) in
    rw (parts, number) refl

behind-again : (conn by : ℕ) → by < 2 ^ 32 → wait_of conn (codes "behind " ++ decimal by) ≡ Some (WaitBehind conn by)
behind-again conn by h =
    let parts = cut-again (codes "behind") (decimal by) refl in
    let number = number-again (2 ^ 32) by h (omega arith) in
    rw (parts, number) refl

fault-again : (line : ℕ) (word : List ℕ) → line < 2 ^ 64 → is_cause word ≡ true → fault_of (decimal line ++ 32 ∷ word) ≡ Some (FaultLine line word)
fault-again line word small h =
    let parts = cut-again (decimal line) word (decimal-plain line small) in
    let number = number-again (2 ^ 64) line small (omega arith) in
    rw (parts, number, h) refl

-- a text without letters a to f is no word that has one
other-word : (text word : List ℕ) → list_any is_lower_digit text ≡ false → list_any is_lower_digit word ≡ true → bytes_eq text word ≡ false
other-word text word none some = false_from_ne_true (bytes_eq text word) (λ e. both_ways (list_any is_lower_digit text) none (ap (list_any is_lower_digit) (same_bytes text word e) ∙ some))

-- bytes in hexadecimal are neither of the words of an interrupt line
irq-bytes : (conn : ℕ) (bytes : List ℕ) → 0 < length bytes → All (λ b. b < 2 ^ 8) bytes → irq_of conn (encode_upper bytes) ≡ Some (Irq conn bytes)
irq-bytes conn bytes some h =
    let fit = all-bytes bytes h in
    let lower = upper-lower bytes fit in
    let first = other-word (encode_upper bytes) (codes "none") lower refl in
    let second = other-word (encode_upper bytes) (codes "closed") lower refl in
    let read = bytes-again bytes some fit in
    rw (first, second, read) refl

-- the name of a channel, and how a dial ended
role-again : (r : Role) → role_of (role_text r) ≡ Some r
role-again role.Core = refl
role-again role.Abort = refl

dial-again : (conn : ℕ) (up : Bool) → dial_of conn (dial_text up) ≡ Some (DialDone conn up)
dial-again conn true = refl
dial-again conn false = refl

-- each line is read from its text
pub reading-again : (line : Output) → IsLine line → reading (line_text line) ≡ Some line
reading-again (Bus conn []) h = let some = h.0 in absurd (omega arith)
reading-again (Bus conn (t ∷ ts)) h =
    told-again (codes "bus") conn (transfer_text t ++ moves_text ts) _ _ refl h.1.0 (λ r. refl)
    (ap (option_map (λ moves. Bus conn moves)) (moves-again t ts (All-head IsByteTransfer t ts h.1.1) (All-tail IsByteTransfer t ts h.1.1))) refl
reading-again (Out conn bytes) h =
    told-again (codes "out") conn (encode_upper bytes) _ _ refl h.1.0 (λ r. refl)
    (ap (option_map (λ b. Out conn b)) (bytes-again bytes h.0 (all-bytes bytes h.1.1))) (joined (codes "out") conn (encode_upper bytes))
reading-again (Irq conn bytes) h =
    told-again (codes "irq") conn (encode_upper bytes) _ _ refl h.1.0 (λ r. refl) (irq-bytes conn bytes h.0 h.1.1) (joined (codes "irq") conn (encode_upper bytes))
reading-again (IrqNone conn) h = told-again (codes "irq") conn (codes "none") _ _ refl h.1 (λ r. refl) refl (joined (codes "irq") conn (codes "none"))
reading-again (IrqClosed conn) h = told-again (codes "irq") conn (codes "closed") _ _ refl h.1 (λ r. refl) refl (joined (codes "irq") conn (codes "closed"))
reading-again (WaitLock conn lid) h =
    told-again (codes "wait") conn (codes "lock " ++ decimal lid) _ _ refl h.1.0 (λ r. refl) (lock-again conn lid h.1.1)
    (ap (λ (r : List ℕ). (codes "wait" ++ 32 ∷ r) ++ codes "\n") (append_assoc (decimal conn) (codes " lock ") (decimal lid)))
reading-again (WaitTurn conn by) h =
    told-again (codes "wait") conn (codes "turn " ++ decimal by) _ _ refl h.1.0 (λ r. refl) (turn-again conn by h.1.1)
    (ap (λ (r : List ℕ). (codes "wait" ++ 32 ∷ r) ++ codes "\n") (append_assoc (decimal conn) (codes " turn ") (decimal by)))
reading-again (WaitBehind conn by) h =
    told-again (codes "wait") conn (codes "behind " ++ decimal by) _ _ refl h.1.0 (λ r. refl) (behind-again conn by h.1.1)
    (ap (λ (r : List ℕ). (codes "wait" ++ 32 ∷ r) ++ codes "\n") (append_assoc (decimal conn) (codes " behind ") (decimal by)))
reading-again (WaitHeld conn) h = told-again (codes "wait") conn (codes "held") _ _ refl h.1 (λ r. refl) refl (joined (codes "wait") conn (codes "held"))
reading-again (WaitSlice conn) h = told-again (codes "wait") conn (codes "slice") _ _ refl h.1 (λ r. refl) refl (joined (codes "wait") conn (codes "slice"))
reading-again (WaitDial conn) h = told-again (codes "wait") conn (codes "dial") _ _ refl h.1 (λ r. refl) refl (joined (codes "wait") conn (codes "dial"))
reading-again (GoneDown conn) h = told-again (codes "gone") conn (codes "down") _ _ refl h.1 (λ r. refl) refl (joined (codes "gone") conn (codes "down"))
reading-again (GoneJunk conn) h = told-again (codes "gone") conn (codes "junk") _ _ refl h.1 (λ r. refl) refl (joined (codes "gone") conn (codes "junk"))
reading-again (GoneLong conn) h = told-again (codes "gone") conn (codes "long") _ _ refl h.1 (λ r. refl) refl (joined (codes "gone") conn (codes "long"))
reading-again Done h = refl
reading-again (FaultLine line word) h =
    let shape : line_text (FaultLine line word) ≡ (codes "fault line " ++ (decimal line ++ 32 ∷ word)) ++ codes "\n" =
    ap (λ (r : List ℕ). (codes "fault line " ++ r) ++ codes "\n") (append_assoc (decimal line) (32 ∷ []) word) in
    ap reading shape ∙ line-again (codes "fault line " ++ (decimal line ++ 32 ∷ word)) (FaultLine line word) (fault-again line word h.1 h.0)
reading-again FaultLong h = refl
reading-again Usage h = refl
reading-again TraceHead h = refl
reading-again (Up conn r) h =
    told-again (codes "up") conn (role_text r) _ _ refl h.1 (λ t. refl)
    (ap (option_map (λ x. Up conn x)) (role-again r)) (joined (codes "up") conn (role_text r))
reading-again (Call conn bytes) h =
    told-again (codes "call") conn (encode_upper bytes) _ _ refl h.1.0 (λ r. refl)
    (ap (option_map (λ b. Call conn b)) (any-bytes-again bytes (all-bytes bytes h.1.1))) (joined (codes "call") conn (encode_upper bytes))
reading-again (Begin conn) h =
    line-again (codes "begin " ++ decimal conn) (Begin conn) (ap (option_map (λ n. Begin n)) (number-again (2 ^ 32) conn h.1 (omega arith)))
reading-again (DialDone conn up) h =
    told-again (codes "dial") conn (dial_text up) _ _ refl h.1 (λ r. refl) (dial-again conn up) (joined (codes "dial") conn (dial_text up))
reading-again (Srq true) h = refl
reading-again (Srq false) h = refl
