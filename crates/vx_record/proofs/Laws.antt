-- Laws of records and of the buffer that takes them, proved.
pub mod Headers
pub mod Spelling
pub mod Ends
use Rattle.std.proofs.Common.{◌≡◌, ℕ, suc, false, List, [], sym, ap, subst, ◌∙◌, ◌==◌, Bool, true, ◌&&◌, if◌then◌else◌, refl, ◌+◌, nat_lt, length, ◌∷◌, ◌++◌, ◌-◌, append_assoc, append-nil}
use Rattle.vx_record.specs.Records.{Split, records}
use Rattle.vx_record.specs.Ends.{is_settled_by, is_settled}
use Rattle.vx_record.specs.declared.Feed.TheVariants.{Whole, TooLong, More}
use Rattle.vx_record.specs.Buffer.{BufState, fresh, closed, opened, header_byte, counted, body_bytes, step_at, step, fed, one_more_at, taken}
use Rattle.vx_record.specs.Runs.{Stream, beginning, taken_off, brought, run, behind, Shows, PiecesLaw}
use Rattle.vx_record.specs.Fragments.{fragment_length, is_last}
use Rattle.vx_record.specs.declared.Feed.{Feed}

-- where there is no record and none is too long, nothing is settled
pub settled-none : (split : Split) → split.records ≡ [] → split.too_long ≡ false → is_settled split ≡ false
settled-none split none short = ap (λ (rs : List (List ℕ)). is_settled_by rs split.too_long) none ∙ short

-- a fragment that ends leaves the limit
pub closed-limit : (s : BufState) → (closed s).limit ≡ s.limit
closed-limit s = by ((s.left == 0) && s.last) where
  by : (done : Bool) → (if done then record s { state = Whole; rest = 0 } else s).limit ≡ s.limit
  by true = refl
  by false = refl

-- so does one that begins
pub opened-limit : (s : BufState) (header : List ℕ) → (opened s header).limit ≡ s.limit
opened-limit s header =
    let behind = record s { header = []; last = is_last header; left = fragment_length header } in
    by behind (closed-limit behind) (nat_lt s.limit (length s.kept + fragment_length header)) where
      by : (behind : BufState) → (closed behind).limit ≡ s.limit → (long : Bool)
          → (if long then record s { header = []; state = TooLong } else closed behind).limit ≡ s.limit
      by behind same true = refl
      by behind same false = same

-- a byte of a header
pub header_byte-limit : (s : BufState) (byte : ℕ) → (header_byte s byte).limit ≡ s.limit
header_byte-limit s byte = by (nat_lt (length s.header) 3) where
  by : (part : Bool) → (if part then record s { header = s.header ++ byte ∷ [] } else opened s (s.header ++ byte ∷ [])).limit ≡ s.limit
  by true = refl
  by false = opened-limit s (s.header ++ byte ∷ [])

-- each byte
pub step-limit : (s : BufState) (byte : ℕ) → (step s byte).limit ≡ s.limit
step-limit s byte = by s.state where
  at : (header : Bool) → (if header then header_byte (counted s 1) byte else body_bytes (counted s 1) (byte ∷ [])).limit ≡ s.limit
  at true = header_byte-limit (counted s 1) byte
  at false = closed-limit (record (counted s 1) { kept = s.kept ++ byte ∷ []; left = s.left - 1 })

  by : (state : Feed) → (step_at state s byte).limit ≡ s.limit
  by More = at (s.left == 0)
  by Whole = refl
  by TooLong = refl

-- and each piece
pub fed-limit : (s : BufState) (bytes : List ℕ) → (fed s bytes).limit ≡ s.limit
fed-limit s [] = refl
fed-limit s (x ∷ xs) = fed-limit (step s x) xs ∙ step-limit s x

-- ---- a buffer that takes no more, or more

-- a byte that a buffer takes
pub taken-more : (s : BufState) (byte : ℕ) (bytes : List ℕ) → s.state ≡ More → taken s (byte ∷ bytes) ≡ suc (taken (step s byte) bytes)
taken-more s byte bytes more = rw more refl

-- a record that is whole or too long stays as it is
pub fed-stopped : (s : BufState) (bytes : List ℕ) → (s.state ≡ More → ⊥) → fed s bytes ≡ s
fed-stopped s [] h = refl
fed-stopped s (x ∷ xs) h = ap (λ t. fed t xs) (step-stopped s x h) ∙ fed-stopped s xs h where
  step-stopped : (s : BufState) (byte : ℕ) → (s.state ≡ More → ⊥) → step s byte ≡ s
  step-stopped s byte h = stays s.state refl where
    stays : (state : Feed) → state ≡ s.state → step_at state s byte ≡ s
    stays More e = absurd (h (sym e))
    stays Whole e = refl
    stays TooLong e = refl

-- and takes no byte
pub taken-stopped : (s : BufState) (bytes : List ℕ) → (s.state ≡ More → ⊥) → taken s bytes ≡ 0
taken-stopped s [] h = refl
taken-stopped s (x ∷ xs) h = none s.state refl where
  none : (state : Feed) → state ≡ s.state → one_more_at state (taken (step s x) xs) ≡ 0
  none More e = absurd (h (sym e))
  none Whole e = refl
  none TooLong e = refl

-- a buffer may be fed in two pieces
pub fed-append : (s : BufState) (xs ys : List ℕ) → fed s (xs ++ ys) ≡ fed (fed s xs) ys
fed-append s [] ys = refl
fed-append s (x ∷ xs) ys = fed-append (step s x) xs ys

-- ---- a stream that runs through a buffer

-- nothing is taken off before a record is whole
pub brought-more : (rs : List (List ℕ)) (s : BufState) → s.state ≡ More → brought rs s ≡ record { records = rs; buffer = s }
brought-more rs s more = rw more refl

-- a record that is whole is taken off
pub brought-whole : (rs : List (List ℕ)) (s : BufState) → s.state ≡ Whole → brought rs s ≡ record { records = rs ++ s.kept ∷ []; buffer = fresh s.limit }
brought-whole rs s whole = rw whole refl

-- one that is too long stays
pub brought-long : (rs : List (List ℕ)) (s : BufState) → s.state ≡ TooLong → brought rs s ≡ record { records = rs; buffer = s }
brought-long rs s long = rw long refl

-- nothing more comes behind a header that was refused
pub run-too_long : (rs : List (List ℕ)) (s : BufState) (bytes : List ℕ) → s.state ≡ TooLong
    → run (record { records = rs; buffer = s }) bytes ≡ record { records = rs; buffer = s }
run-too_long rs s [] e = refl
run-too_long rs s (x ∷ xs) e =
    let stays : brought rs (step s x) ≡ record { records = rs; buffer = s } = rw e refl in
    ap (λ t. run t xs) stays ∙ run-too_long rs s xs e

-- a stream may be cut anywhere
pub run-append : (t : Stream) (xs ys : List ℕ) → run t (xs ++ ys) ≡ run (run t xs) ys
run-append t [] ys = refl
run-append t (x ∷ xs) ys = run-append (brought t.records (step t.buffer x)) xs ys

-- a record that is taken off comes behind those in front
pub taken_off-behind : (f : Feed) (rs ts : List (List ℕ)) (s : BufState) → taken_off f (rs ++ ts) s ≡ behind rs (taken_off f ts s)
taken_off-behind More rs ts s = refl
taken_off-behind Whole rs ts s =
    let with : List (List ℕ) → Stream = λ all. record { records = all; buffer = fresh s.limit } in
    ap with (append_assoc rs ts (s.kept ∷ []))
taken_off-behind TooLong rs ts s = refl

-- what a stream makes of bytes is the same whatever records stand in front
pub run-behind : (rs : List (List ℕ)) (t : Stream) (xs : List ℕ) → run (behind rs t) xs ≡ behind rs (run t xs)
run-behind rs t [] = refl
run-behind rs t (x ∷ xs) =
    let s = step t.buffer x in
    ap (λ u. run u xs) (taken_off-behind s.state rs t.records s) ∙ run-behind rs (brought t.records s) xs

-- the same of a stream that has come to these records and this buffer
pub run-on : (rs : List (List ℕ)) (b : BufState) (xs : List ℕ)
    → run (record { records = rs; buffer = b }) xs ≡ behind rs (run (record { records = []; buffer = b }) xs)
run-on rs b xs =
    let with : List (List ℕ) → Stream = λ all. record { records = all; buffer = b } in
    ap (λ all. run (with all) xs) (sym (append-nil rs)) ∙ run-behind rs (with []) xs

-- a stream that has come so far goes on as its buffer does, behind its records
pub came-on : (t : Stream) (rs : List (List ℕ)) (b : BufState) (xs ys : List ℕ) → run t xs ≡ record { records = rs; buffer = b }
    → run t (xs ++ ys) ≡ behind rs (run (record { records = []; buffer = b }) ys)
came-on t rs b xs ys came = run-append t xs ys ∙ ap (λ u. run u ys) came ∙ run-on rs b ys

-- a stream in one piece is the records of its bytes
pub shown : PiecesLaw → (limit : ℕ) (xs : List ℕ) → Shows (records limit xs) (run (beginning limit) xs)
shown pieces limit xs = subst (λ ys. Shows (records limit ys) (run (beginning limit) xs)) (append-nil xs) (pieces limit (xs ∷ []))
