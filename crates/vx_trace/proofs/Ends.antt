-- A line's text has no LF but its last byte.
use Rattle.std.proofs.Common.{◌≡◌, ◌≢◌, ℕ, zero, suc, ◌<◌, ◌^◌, Bool, true, false, cond, List, [], ◌∷◌, ◌++◌, length, get_or, refl, sym, ap, ◌∙◌, append_assoc, arith, codes, decimal, inl, inr}
use Rattle.std.specs.Prelude.{not, ◌==◌}
use Rattle.std.specs.List.{All, list_all, list_any}
use Rattle.std.specs.Str.{bytes_eq}
use Rattle.std.proofs.lemmas.Bool.{and_parts, and_from, or_cases, ltb-true, ne_eqb, eq-eqb, not-true, both_ways, not_from_false}
use Rattle.std.proofs.lemmas.List.Folds.{list_all-append}
use Rattle.std.proofs.lemmas.List.Elements.{All-head, All-tail, All-append}
use Rattle.hex.specs.Hex.{encode_upper}
use Rattle.vx_calls.specs.declared.calls.Role.TheVariants as role
use Rattle.vx_488.specs.declared.transfers.Transfer.{Transfer}
use Rattle.vx_trace.specs.Output.{Output, Bus, Out, Irq, IrqNone, IrqClosed, WaitLock, WaitTurn, WaitBehind, WaitHeld, WaitSlice, WaitDial, GoneDown, GoneJunk, GoneLong, Done, FaultLine, FaultLong, Usage, TraceHead, Up, Call, Begin, DialDone, Srq}
use Rattle.vx_trace.specs.Text.{transfer_text, moves_text, line_text, line_text2, is_timed, IsByteTransfer, IsLine, cause_words, is_cause}
use Rattle.vx_trace.proofs.Hexadecimal.{all-bytes, upper-plain}
use Rattle.vx_trace.proofs.Cuts.{is_plain}
use Rattle.vx_trace.proofs.Numbers.{decimal-plain}
use Rattle.vx_trace.proofs.Again.{transfer-plain}
use Rattle.vx_lemmas.proofs.Laws.Conditions.{same_bytes}

abbrev is_other : ℕ → Bool
is_other b = not (b == 10)

-- no byte of the text is LF
record Free (text : List ℕ) : Type 0 where
  free : list_all is_other text ≡ true

free-append : (a b : List ℕ) → Free a → Free b → Free (a ++ b)
free-append a b ha hb = record { free = list_all-append is_other a b ∙ and_from (list_all is_other a) (list_all is_other b) ha.free hb.free }

plain-free : (text : List ℕ) → list_all is_plain text ≡ true → list_all is_other text ≡ true
plain-free [] h = refl
plain-free (b ∷ bs) h =
    let parts = and_parts (is_plain b) (list_all is_plain bs) h in
    let above = ltb-true 32 b parts.0 in
    and_from (is_other b) (list_all is_other bs) (not_from_false (b == 10) (ne_eqb b 10 (omega arith))) (plain-free bs parts.1)

free-plain : (text : List ℕ) → list_all is_plain text ≡ true → Free text
free-plain text h = record { free = plain-free text h }

free-decimal : (n : ℕ) → n < 2 ^ 64 → Free (decimal n)
free-decimal n h = free-plain (decimal n) (decimal-plain n h)

free-bytes : (bytes : List ℕ) → All (λ b. b < 2 ^ 8) bytes → Free (encode_upper bytes)
free-bytes bytes h = free-plain (encode_upper bytes) (upper-plain bytes (all-bytes bytes h))

free-moves : (moves : List Transfer) → All IsByteTransfer moves → Free (moves_text moves)
free-moves [] h = record { free = refl }
free-moves (t ∷ ts) h =
    let first = free-plain (transfer_text t) (transfer-plain t (All-head IsByteTransfer t ts h)) in
    let rest = free-moves ts (All-tail IsByteTransfer t ts h) in
    free-append (codes " " ++ transfer_text t) (moves_text ts) (free-append (codes " ") (transfer_text t) (record { free = refl }) first) rest

one-of : (names : List (List ℕ)) (word : List ℕ) → list_all (λ name. list_all is_other name) names ≡ true → list_any (λ name. bytes_eq name word) names ≡ true → list_all is_other word ≡ true
one-of [] word h e = absurd cc
one-of (name ∷ names) word h e =
    let parts = and_parts (list_all is_other name) (list_all (λ n. list_all is_other n) names) h in
    elim (or_cases (bytes_eq name word) (list_any (λ n. bytes_eq n word) names) e) [
      | inl here ↦ ap (list_all is_other) (sym (same_bytes name word here)) ∙ parts.0
      | inr later ↦ one-of names word parts.1 later
    ]

free-cause : (word : List ℕ) → is_cause word ≡ true → Free word
free-cause word h = record { free = one-of cause_words word refl h }

all-other : (text : List ℕ) (k d : ℕ) → list_all is_other text ≡ true → k < length text → get_or text k d ≢ 10
all-other [] k d h lt e = omega arith
all-other (b ∷ bs) zero d h lt e = both_ways (b == 10) (not-true (b == 10) (and_parts (is_other b) (list_all is_other bs) h).0) (eq-eqb b 10 e)
all-other (b ∷ bs) (suc k) d h lt e = all-other bs k d (and_parts (is_other b) (list_all is_other bs) h).1 (omega arith) e

-- a text that is a front without LF, and LF
abbrev OneEnd : List ℕ → Type 0
OneEnd text = (front : List ℕ) × (text ≡ front ++ codes "\n") × All (λ b. b ≢ 10) front

ended : (front : List ℕ) → Free front → OneEnd (front ++ codes "\n")
ended front h = (front, refl, λ k d lt. all-other front k d h.free lt)

-- a word, a number, a space and a rest
free-told : (word : List ℕ) (n : ℕ) (middle rest : List ℕ) → list_all is_other word ≡ true → n < 2 ^ 64 → list_all is_other middle ≡ true → Free rest → Free (word ++ decimal n ++ middle ++ rest)
free-told word n middle rest w small m r =
    free-append (word ++ decimal n ++ middle) rest
    (free-append (word ++ decimal n) middle (free-append word (decimal n) (record { free = w }) (free-decimal n small)) (record { free = m })) r

told : (word : List ℕ) (n : ℕ) (middle rest : List ℕ) → list_all is_other word ≡ true → n < 2 ^ 64 → list_all is_other middle ≡ true → Free rest → OneEnd (word ++ decimal n ++ middle ++ rest ++ codes "\n")
told word n middle rest w small m r = ended (word ++ decimal n ++ middle ++ rest) (free-told word n middle rest w small m r)

known : (word : List ℕ) (conn : ℕ) (rest : List ℕ) → list_all is_other word ≡ true → conn < 2 ^ 32 → list_all is_other rest ≡ true → OneEnd (word ++ decimal conn ++ codes " " ++ rest ++ codes "\n")
known word conn rest w small r = told word conn (codes " ") rest w (omega arith) refl (record { free = r })

pub one-end : (line : Output) → IsLine line → OneEnd (line_text line)
one-end (Bus conn moves) h =
    let small = h.1.0 in
    ended (codes "bus " ++ decimal conn ++ moves_text moves)
    (free-append (codes "bus " ++ decimal conn) (moves_text moves) (free-append (codes "bus ") (decimal conn) (record { free = refl }) (free-decimal conn (omega arith))) (free-moves moves h.1.1))
one-end (Out conn bytes) h = let small = h.1.0 in told (codes "out ") conn (codes " ") (encode_upper bytes) refl (omega arith) refl (free-bytes bytes h.1.1)
one-end (Irq conn bytes) h = let small = h.1.0 in told (codes "irq ") conn (codes " ") (encode_upper bytes) refl (omega arith) refl (free-bytes bytes h.1.1)
one-end (IrqNone conn) h = known (codes "irq ") conn (codes "none") refl h.1 refl
one-end (IrqClosed conn) h = known (codes "irq ") conn (codes "closed") refl h.1 refl
one-end (WaitLock conn lid) h = let (small, less) = h.1 in told (codes "wait ") conn (codes " lock ") (decimal lid) refl (omega arith) refl (free-decimal lid (omega arith))
one-end (WaitTurn conn by) h = let (small, less) = h.1 in told (codes "wait ") conn (codes " turn ") (decimal by) refl (omega arith) refl (free-decimal by (omega arith))
one-end (WaitBehind conn by) h = let (small, less) = h.1 in told (codes "wait ") conn (codes " behind ") (decimal by) refl (omega arith) refl (free-decimal by (omega arith))
one-end (WaitHeld conn) h = known (codes "wait ") conn (codes "held") refl h.1 refl
one-end (WaitSlice conn) h = known (codes "wait ") conn (codes "slice") refl h.1 refl
one-end (WaitDial conn) h = known (codes "wait ") conn (codes "dial") refl h.1 refl
one-end (GoneDown conn) h = known (codes "gone ") conn (codes "down") refl h.1 refl
one-end (GoneJunk conn) h = known (codes "gone ") conn (codes "junk") refl h.1 refl
one-end (GoneLong conn) h = known (codes "gone ") conn (codes "long") refl h.1 refl
one-end Done h = ended (codes "done") (record { free = refl })
one-end (FaultLine line word) h = told (codes "fault line ") line (codes " ") word refl h.1 refl (free-cause word h.0)
one-end FaultLong h = ended (codes "fault long") (record { free = refl })
one-end Usage h = ended (codes "usage: vxplay COMMAND") (record { free = refl })
one-end TraceHead h = ended (codes "vxtrace 2") (record { free = refl })
one-end (Up conn role.Core) h = known (codes "up ") conn (codes "core") refl h.1 refl
one-end (Up conn role.Abort) h = known (codes "up ") conn (codes "abort") refl h.1 refl
one-end (Call conn bytes) h = let small = h.1.0 in told (codes "call ") conn (codes " ") (encode_upper bytes) refl (omega arith) refl (free-bytes bytes h.1.1)
one-end (Begin conn) h =
    let small = h.1 in
    ended (codes "begin " ++ decimal conn) (free-append (codes "begin ") (decimal conn) (record { free = refl }) (free-decimal conn (omega arith)))
one-end (DialDone conn true) h = known (codes "dial ") conn (codes "ok") refl h.1 refl
one-end (DialDone conn false) h = known (codes "dial ") conn (codes "fail") refl h.1 refl
one-end (Srq true) h = ended (codes "srq 1") (record { free = refl })
one-end (Srq false) h = ended (codes "srq 0") (record { free = refl })

-- a front without LF before a text with one end
behind : (front text : List ℕ) → Free front → OneEnd text → OneEnd (front ++ text)
behind front text h (body, e, others) = (
  front ++ body,
  ap (λ (t : List ℕ). front ++ t) e ∙ sym (append_assoc front body (codes "\n")),
  All-append (λ b. b ≢ 10) front body (λ k d lt. all-other front k d h.free lt) others,
)

pub one-end2 : (moment : ℕ) (line : Output) → moment < 2 ^ 64 → IsLine line → OneEnd (line_text2 moment line)
one-end2 moment line small h = by_version (is_timed line)
  where
    by_version : (timed : Bool) → OneEnd (cond timed (decimal moment ++ codes " " ++ line_text line) (line_text line))
    by_version true = behind (decimal moment ++ codes " ") (line_text line) (free-append (decimal moment) (codes " ") (free-decimal moment small) (record { free = refl })) (one-end line h)
    by_version false = one-end line h
