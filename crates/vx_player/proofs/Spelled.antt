-- The calls of a run as they come: each is one whole record on a stream that begins anew, and means that call.
use Rattle.std.proofs.Common.{◌≡◌, ◌≤◌, ◌<◌, ◌-◌, ◌+◌, ◌%◌, ◌^◌, ℕ, suc, false, List, [], ◌∷◌, ◌++◌, length, take, inl, inr, refl, sym, ap, ◌∙◌, arith, append-nil, length-append, length-take}
use Rattle.std.proofs.lemmas.Bool.{cond-false}
use Rattle.vx_calls.specs.declared.calls.Role.{Role}
use Rattle.vx_calls.specs.declared.limits.TheConstants.{RECORD_MAX}
use Rattle.vx_calls.specs.Call.{Call}
use Rattle.vx_record.specs.Fragments.{last_header, record_of}
use Rattle.vx_record.specs.Records.{Split, records}
use Rattle.vx_record.specs.Ends.{is_settled}
use Rattle.vx_record.proofs.Laws.{settled-none}
use Rattle.vx_record.proofs.Laws.Headers.{fragment_length-last_header}
use Rattle.vx_record.proofs.Laws.Spelling.{records-finished, records-open}
use Rattle.vx_exchange.specs.Meaning.{by_call, by_arguments, by_sorting, meaning}
use Rattle.vx_gen.proofs.Laws.Spelled.{IsSpelled, message, message-sorted, message-read, message-short}
use Rattle.vx_run.specs.Stream.{Whole, After, by_split, brought}

-- ---- a record on a stream that begins anew

-- a front, and some of the items behind it
take-behind : (front xs : List ℕ) (n : ℕ) → take (length front + n) (front ++ xs) ≡ front ++ take n xs
take-behind [] xs n =
    let none : 0 + n ≡ n = omega arith in
    ap (λ m. take m xs) none
take-behind (x ∷ front) xs n =
    let more : suc (length front) + n ≡ suc (length front + n) = omega arith in
    ap (λ m. take m (x ∷ (front ++ xs))) more ∙ ap (λ ys. x ∷ ys) (take-behind front xs n)

-- it is the stream's one record
record-whole : (text : List ℕ) → length text ≤ 200 → records RECORD_MAX (record_of text) ≡ record (records RECORD_MAX []) { records = text ∷ (records RECORD_MAX []).records }
record-whole text small =
    ap (records RECORD_MAX) (sym (append-nil (record_of text))) ∙ records-finished RECORD_MAX [] text [] tt (omega arith) (omega arith)

-- an empty stream has none
none-open : records RECORD_MAX [] ≡ record { records = []; rest = []; too_long = false }
none-open = records-open RECORD_MAX [] [] tt (omega arith) (inl (omega arith))

-- nor has it one before its last byte
record-open : (text : List ℕ) → 0 < length text → length text ≤ 200 → is_settled (records RECORD_MAX (take (length (record_of text) - 1) (record_of text))) ≡ false
record-open text some small =
    let header = last_header (length text) in
    let body = take (length text - 1) text in
    let size = fragment_length-last_header (length text) (omega arith) in
    let cut = length-take (length text - 1) text in
    let all = length-append header text in
    let count : length (record_of text) - 1 ≡ length header + (length text - 1) = omega arith in
    let front : take (length (record_of text) - 1) (record_of text) ≡ header ++ body = ap (λ n. take n (record_of text)) count ∙ take-behind header text (length text - 1) in
    let waits = records-open RECORD_MAX [] (header ++ body) tt (omega arith) (inr (header, body, refl, refl, omega arith, omega arith)) in
    ap (λ s. is_settled (records RECORD_MAX s)) front
    ∙ settled-none (records RECORD_MAX (header ++ body)) (ap (λ (s : Split). s.records) waits) (ap (λ (s : Split). s.too_long) waits)

-- so it is brought whole
record-brought : (text : List ℕ) → 0 < length text → length text ≤ 200 → brought [] (record_of text) ≡ Whole text
record-brought text some small =
    let split : Split = records RECORD_MAX (record_of text) in
    let one : split.records ≡ text ∷ [] = ap (λ (s : Split). s.records) (record-whole text small) ∙ ap (λ (s : Split). text ∷ s.records) none-open in
    cond-false _ After _ (record-open text some small) ∙ ap (λ rs. by_split rs split.too_long) one

-- ---- a call

-- its record is brought whole
pub message-brought : (r : Role) (xid : ℕ) (asked : Call) → IsSpelled r asked → brought [] (record_of (message r xid asked)) ≡ Whole (message r xid asked)
message-brought r xid asked is =
    let short = message-short r xid asked is in
    record-brought (message r xid asked) short.0 short.1

-- its message means it, with the lowest 32 bits of its xid
pub message-means : (r : Role) (xid : ℕ) (asked : Call) → IsSpelled r asked → meaning (message r xid asked) r ≡ by_call (xid % 2 ^ 32) asked
message-means r xid asked is = ap by_sorting (message-sorted r xid asked is) ∙ ap (by_arguments (xid % 2 ^ 32)) (message-read r asked is)
