-- Whole records on a stream, and the one way to cut a stream into them.
use Rattle.std.proofs.Common.{◌≡◌, ℕ, suc, ◌+◌, ◌-◌, ◌<◌, ◌≤◌, ◌^◌, ◌==◌, ◌&&◌, if◌then◌else◌, Bool, true, false, List, [], ◌∷◌, ◌++◌, length, take, drop, refl, sym, ap, subst, ◌∙◌, inl, inr, ◌⊎◌, arith, append-nil}
use Rattle.std.specs.Prelude.{nat_lt}
use Rattle.std.proofs.Math.Seq.{take-append_seam, drop-append_seam}
use Rattle.std.proofs.lemmas.Bool.Decides.{nat_tests}
use Rattle.std.proofs.lemmas.Bool.{false≢true}
use Rattle.std.proofs.lemmas.List.{length-take, take-append-drop}
use Rattle.vx_calls.specs.declared.limits.TheConstants.{RECORD_MAX}
use Rattle.vx_record.specs.declared.Feed.{Feed}
use Rattle.vx_record.specs.declared.Feed.TheVariants as feed
use Rattle.vx_record.specs.Fragments.{fragment_length, is_last, last_header, record_of}
use Rattle.vx_record.specs.Records.{Split, records}
use Rattle.vx_record.specs.Buffer.{BufState, fresh, counted, closed, opened, header_byte, body_bytes, step_at, step, fed, one_more_at, taken}
use Rattle.vx_record.specs.Ends.{is_settled, IsEnd, FeedEnds}
use Rattle.vx_record.proofs.Laws.{step-limit, fed-stopped, taken-more, taken-stopped, fed-append}
use Rattle.vx_record.proofs.Laws.Ends.{feed-ends}
use Rattle.vx_record.proofs.Laws.Headers.{fragment_length-last_header}
use Rattle.vx_record.proofs.Laws.Spelling.{records-finished, records-open}
use Rattle.vx_loop.specs.Exchanges.{IsRecord}

-- the buffer that begins a record
abbrev pub first_buffer : BufState
first_buffer = fresh RECORD_MAX

-- these bytes are one whole record of this message, no longer than the limit, with nothing behind it
pub record IsWhole (limit : ℕ) (stream message : List ℕ) : Type 0 where
  pub state : (fed (fresh limit) stream).state ≡ feed.Whole
  pub kept : (fed (fresh limit) stream).kept ≡ message
  pub all : taken (fresh limit) stream ≡ length stream

-- a record that is whole, or too long, takes no more
whole-stops : (s : BufState) → s.state ≡ feed.Whole → s.state ≡ feed.More → ⊥
whole-stops s h e = let both : feed.Whole ≡ feed.More = sym h ∙ e in cc

is-open : (state : Feed) → (state ≡ feed.More) ⊎ (state ≡ feed.More → ⊥)
is-open feed.More = inl refl
is-open feed.Whole = inr (λ e. cc)
is-open feed.TooLong = inr (λ e. cc)

-- ---- what a feed takes

-- it takes no more than there is
pub taken-within : (s : BufState) (xs : List ℕ) → taken s xs ≤ length xs
taken-within s [] = omega arith
taken-within s (x ∷ xs) = by (is-open s.state) (taken-within (step s x) xs) where
  by : (s.state ≡ feed.More) ⊎ (s.state ≡ feed.More → ⊥) → taken (step s x) xs ≤ length xs → taken s (x ∷ xs) ≤ suc (length xs)
  by (inl more) rest = let is = taken-more s x xs more in omega arith
  by (inr stopped) rest = let is = taken-stopped s (x ∷ xs) stopped in omega arith

-- of one list and then another
taken-append : (s : BufState) (xs ys : List ℕ) → taken s (xs ++ ys) ≡ taken s xs + taken (fed s xs) ys
taken-append s [] ys = omega arith
taken-append s (x ∷ xs) ys = by (is-open s.state) (taken-append (step s x) xs ys) where
  by : (s.state ≡ feed.More) ⊎ (s.state ≡ feed.More → ⊥) → taken (step s x) (xs ++ ys) ≡ taken (step s x) xs + taken (fed (step s x) xs) ys
      → taken s (x ∷ xs ++ ys) ≡ taken s (x ∷ xs) + taken (fed s (x ∷ xs)) ys
  by (inl more) rest = let a = taken-more s x (xs ++ ys) more in let b = taken-more s x xs more in omega arith
  by (inr stopped) rest =
      let a = taken-stopped s (x ∷ xs ++ ys) stopped in
      let b = taken-stopped s (x ∷ xs) stopped in
      let c : taken (fed s (x ∷ xs)) ys ≡ 0 = ap (λ t. taken t ys) (fed-stopped s (x ∷ xs) stopped) ∙ taken-stopped s ys stopped in
      omega arith

-- the part that it takes brings it where the whole does
pub fed-taken : (s : BufState) (xs : List ℕ) → (fed s (take (taken s xs) xs) ≡ fed s xs) × (taken s (take (taken s xs) xs) ≡ taken s xs)
fed-taken s [] = (refl, refl)
fed-taken s (x ∷ xs) = by (is-open s.state) (fed-taken (step s x) xs) where
  by : (s.state ≡ feed.More) ⊎ (s.state ≡ feed.More → ⊥)
      → (fed (step s x) (take (taken (step s x) xs) xs) ≡ fed (step s x) xs) × (taken (step s x) (take (taken (step s x) xs) xs) ≡ taken (step s x) xs)
      → (fed s (take (taken s (x ∷ xs)) (x ∷ xs)) ≡ fed s (x ∷ xs)) × (taken s (take (taken s (x ∷ xs)) (x ∷ xs)) ≡ taken s (x ∷ xs))
  by (inl more) rest =
      let n = taken (step s x) xs in
      let is : taken s (x ∷ xs) ≡ suc n = taken-more s x xs more in
      let P : ℕ → Type 0 = λ m. (fed s (take m (x ∷ xs)) ≡ fed s (x ∷ xs)) × (taken s (take m (x ∷ xs)) ≡ m) in
      subst P (sym is) (rest.0, taken-more s x (take n xs) more ∙ ap suc rest.1)
  by (inr stopped) rest =
      let is : taken s (x ∷ xs) ≡ 0 = taken-stopped s (x ∷ xs) stopped in
      let P : ℕ → Type 0 = λ m. (fed s (take m (x ∷ xs)) ≡ fed s (x ∷ xs)) × (taken s (take m (x ∷ xs)) ≡ m) in
      subst P (sym is) (sym (fed-stopped s (x ∷ xs) stopped), refl)

-- ---- whole records

-- an empty stream has no record
pub none-yet : (limit : ℕ) → records limit [] ≡ record { records = []; rest = []; too_long = false }
none-yet limit = records-open limit [] [] tt (omega arith) (inl (omega arith))

-- a piece that a buffer takes whole, and that makes its record whole, ends a stream of one record
pub ends-record : (part piece : List ℕ) (buffer : BufState) → buffer ≡ fed first_buffer part → buffer.state ≡ feed.More → 0 < length piece
    → taken buffer piece ≡ length piece → (fed buffer piece).state ≡ feed.Whole → IsRecord (part ++ piece) (fed buffer piece).kept
ends-record part piece buffer held waits some all whole =
    let fresh_waits : (fed first_buffer part).state ≡ feed.More = ap (λ (b : BufState). b.state) (sym held) ∙ waits in
    let ends : FeedEnds RECORD_MAX (part ++ piece) (fed buffer piece) (taken buffer piece) (length piece) =
    subst (λ b. FeedEnds RECORD_MAX (part ++ piece) (fed b piece) (taken b piece) (length piece)) (sym held) (feed-ends RECORD_MAX part piece fresh_waits some) in
    record {
      whole = by (fed buffer piece).state (fed buffer piece).kept (records RECORD_MAX (part ++ piece)) whole (ends.ends all);
      shortest = ends.open_before all;
    }
  where
    by : (state : Feed) (kept : List ℕ) (split : Split) → state ≡ feed.Whole → IsEnd state kept split → split.records ≡ kept ∷ []
    by feed.More kept split is h = absurd (cc)
    by feed.Whole kept split is h = h
    by feed.TooLong kept split is h = absurd (cc)

-- a stream that isn't settled before its last byte is taken whole
taken-whole : (took len : ℕ) (settled : Bool) → took ≤ len → settled ≡ false → (took < len → settled ≡ true) → took ≡ len
taken-whole took len settled within open_before h = by (nat_lt took len) refl where
  by : (b : Bool) → nat_lt took len ≡ b → took ≡ len
  by true e = let short : took < len = grind (arith, nat_tests) in absurd (false≢true (sym open_before ∙ h short))
  by false e = let all : len ≤ took = grind (arith, nat_tests) in omega arith

-- a stream whose split is one record, and that isn't settled before its last byte, is a whole record
end-whole : (state : Feed) (kept message : List ℕ) (split : Split) → IsEnd state kept split → split.records ≡ message ∷ [] → (state ≡ feed.Whole) × (kept ≡ message)
end-whole feed.More kept message split h is = let both : [] ≡ message ∷ [] = sym h.0 ∙ is in absurd (cc)
end-whole feed.TooLong kept message split h is = let both : [] ≡ message ∷ [] = sym h.0 ∙ is in absurd (cc)
end-whole feed.Whole kept message split h is = let both : kept ∷ [] ≡ message ∷ [] = sym h ∙ is in (refl, cc)

pub whole-by : (limit : ℕ) (stream message : List ℕ) → 0 < length stream → is_settled (records limit (take (length stream - 1) stream)) ≡ false
    → (records limit stream).records ≡ message ∷ [] → IsWhole limit stream message
whole-by limit stream message some open_before is =
    let ends = feed-ends limit [] stream refl some in
    let all = taken-whole (taken (fresh limit) stream) (length stream) _ (taken-within (fresh limit) stream) open_before ends.settled_before in
    let end = end-whole (fed (fresh limit) stream).state (fed (fresh limit) stream).kept message (records limit stream) (ends.ends all) is in
    record { state = end.0; kept = end.1; all = all }

-- what the split of a stream says and what a buffer says of it are the same
pub record-is-whole : (stream message : List ℕ) → IsRecord stream message → IsWhole RECORD_MAX stream message
record-is-whole [] message r = absurd (let none : [] ≡ message ∷ [] = ap (λ (s : Split). s.records) (sym (none-yet RECORD_MAX)) ∙ r.whole in cc)
record-is-whole (x ∷ xs) message r = whole-by RECORD_MAX (x ∷ xs) message (omega arith) r.shortest r.whole

pub whole-is-record : (stream message : List ℕ) → IsWhole RECORD_MAX stream message → IsRecord stream message
whole-is-record [] message w = absurd (let both : feed.More ≡ feed.Whole = w.state in cc)
whole-is-record (x ∷ xs) message w = subst (IsRecord (x ∷ xs)) w.kept (ends-record [] (x ∷ xs) first_buffer refl refl (omega arith) w.all w.state)

-- a whole record has a byte
pub whole-some : (stream message : List ℕ) → IsWhole RECORD_MAX stream message → stream ≡ [] → ⊥
whole-some [] message w none = let both : feed.More ≡ feed.Whole = w.state in cc
whole-some (x ∷ xs) message w none = cc

-- without its last bytes it has none yet
pub front-more : (stream message : List ℕ) (n : ℕ) → IsWhole RECORD_MAX stream message → n < length stream → (fed first_buffer (take n stream)).state ≡ feed.More
front-more stream message n w less = by (is-open (fed first_buffer (take n stream)).state) where
  by : ((fed first_buffer (take n stream)).state ≡ feed.More) ⊎ ((fed first_buffer (take n stream)).state ≡ feed.More → ⊥) → (fed first_buffer (take n stream)).state ≡ feed.More
  by (inl more) = more
  by (inr stopped) =
      let parts = taken-append first_buffer (take n stream) (drop n stream) in
      let cut : taken first_buffer (take n stream ++ drop n stream) ≡ taken first_buffer stream = ap (taken first_buffer) (take-append-drop n stream) in
      let none = taken-stopped (fed first_buffer (take n stream)) (drop n stream) stopped in
      let some = taken-within first_buffer (take n stream) in
      let len = length-take n stream in
      let all = w.all in
      absurd (omega arith)

-- ---- a greater limit

-- the same buffer with another limit
abbrev wide : ℕ → BufState → BufState
wide big s = record s { limit = big }

-- where a fragment ends
closed-wide : (big : ℕ) (s : BufState) → closed (wide big s) ≡ wide big (closed s)
closed-wide big s = by ((s.left == 0) && s.last) where
  by : (done : Bool) → (if done then record (wide big s) { state = feed.Whole; rest = 0 } else wide big s) ≡ wide big (if done then record s { state = feed.Whole; rest = 0 } else s)
  by true = refl
  by false = refl

-- where one begins that fits
opened-wide : (big : ℕ) (s : BufState) (header : List ℕ) → s.limit ≤ big → ((opened s header).state ≡ feed.TooLong → ⊥) → opened (wide big s) header ≡ wide big (opened s header)
opened-wide big s header more fits =
    by (nat_lt s.limit size) (nat_lt big size) refl refl fits where
      size : ℕ
      size = length s.kept + fragment_length header

      behind : BufState
      behind = record s { header = []; last = is_last header; left = fragment_length header }

      by : (long long_still : Bool) → nat_lt s.limit size ≡ long → nat_lt big size ≡ long_still
          → ((if long then record s { header = []; state = feed.TooLong } else closed behind).state ≡ feed.TooLong → ⊥)
          → (if long_still then record (wide big s) { header = []; state = feed.TooLong } else closed (wide big behind))
          ≡ wide big (if long then record s { header = []; state = feed.TooLong } else closed behind)
      by true still e f fits = absurd (fits refl)
      by false true e f fits = let short : size ≤ s.limit = grind (arith, nat_tests) in let long : big < size = grind (arith, nat_tests) in absurd (omega arith)
      by false false e f fits = closed-wide big behind

-- a stream byte does the same to it, unless it makes the record too long
step-wide : (big : ℕ) (s : BufState) (byte : ℕ) → s.limit ≤ big → ((step s byte).state ≡ feed.TooLong → ⊥) → step (wide big s) byte ≡ wide big (step s byte)
step-wide big s byte more fits = by s.state fits where
  header : (part : Bool) → ((if part then record (counted s 1) { header = s.header ++ byte ∷ [] } else opened (counted s 1) (s.header ++ byte ∷ [])).state ≡ feed.TooLong → ⊥)
      → (if part then record (wide big (counted s 1)) { header = s.header ++ byte ∷ [] } else opened (wide big (counted s 1)) (s.header ++ byte ∷ []))
      ≡ wide big (if part then record (counted s 1) { header = s.header ++ byte ∷ [] } else opened (counted s 1) (s.header ++ byte ∷ []))
  header true fits = refl
  header false fits = opened-wide big (counted s 1) (s.header ++ byte ∷ []) more fits

  at : (none : Bool) → ((if none then header_byte (counted s 1) byte else body_bytes (counted s 1) (byte ∷ [])).state ≡ feed.TooLong → ⊥)
      → (if none then header_byte (wide big (counted s 1)) byte else body_bytes (wide big (counted s 1)) (byte ∷ []))
      ≡ wide big (if none then header_byte (counted s 1) byte else body_bytes (counted s 1) (byte ∷ []))
  at true fits = header (nat_lt (length s.header) 3) fits
  at false fits = closed-wide big (record (counted s 1) { kept = s.kept ++ byte ∷ []; left = s.left - 1 })

  by : (state : Feed) → ((step_at state s byte).state ≡ feed.TooLong → ⊥) → step_at state (wide big s) byte ≡ wide big (step_at state s byte)
  by feed.More fits = at (s.left == 0) fits
  by feed.Whole fits = refl
  by feed.TooLong fits = refl

-- a buffer that isn't too long at the end was so at no byte
fits-first : (s : BufState) (xs : List ℕ) → ((fed s xs).state ≡ feed.TooLong → ⊥) → s.state ≡ feed.TooLong → ⊥
fits-first s xs fits long =
    fits (ap (λ (t : BufState). t.state) (fed-stopped s xs (λ more. let both : feed.TooLong ≡ feed.More = sym long ∙ more in cc)) ∙ long)

-- where it isn't too long it takes the same bytes to the same record by a greater limit
fed-wide : (big : ℕ) (s : BufState) (xs : List ℕ) → s.limit ≤ big → ((fed s xs).state ≡ feed.TooLong → ⊥)
    → (fed (wide big s) xs ≡ wide big (fed s xs)) × (taken (wide big s) xs ≡ taken s xs)
fed-wide big s [] more fits = (refl, refl)
fed-wide big s (x ∷ xs) more fits =
    let one = step-wide big s x more (fits-first (step s x) xs fits) in
    let limit = step-limit s x in
    let rest = fed-wide big (step s x) xs (omega arith) fits in
    (ap (λ t. fed t xs) one ∙ rest.0, ap (λ t. one_more_at s.state (taken t xs)) one ∙ ap (one_more_at s.state) rest.1)

-- a whole record is one by a greater limit too
pub whole-wider : (small big : ℕ) (stream message : List ℕ) → small ≤ big → IsWhole small stream message → IsWhole big stream message
whole-wider small big stream message more w =
    let same = fed-wide big (fresh small) stream more (λ long. let both : feed.Whole ≡ feed.TooLong = sym w.state ∙ long in cc) in
    record {
      state = ap (λ (s : BufState). s.state) same.0 ∙ w.state;
      kept = ap (λ (s : BufState). s.kept) same.0 ∙ w.kept;
      all = same.1 ∙ w.all;
    }

-- ---- a message as a record of one fragment

part-open : (message : List ℕ) → length message ≤ RECORD_MAX
    → (records RECORD_MAX (take (length (record_of message) - 1) (record_of message))) ≡ record {
      records = [];
      rest = take (length (record_of message) - 1) (record_of message);
      too_long = false;
    }
part-open [] short = records-open RECORD_MAX [] _ tt (omega arith) (inl (omega arith))
part-open (b ∷ bs) short =
    let header = last_header (length (b ∷ bs)) in
    let len = fragment_length-last_header (length (b ∷ bs)) (omega arith) in
    let body = length-take (length bs) (b ∷ bs) in
    let at : length (record_of (b ∷ bs)) - 1 ≡ suc (suc (suc (suc (length bs)))) = omega arith in
    subst (λ n. records RECORD_MAX (take n (record_of (b ∷ bs))) ≡ record { records = []; rest = take n (record_of (b ∷ bs)); too_long = false }) (sym at)
    (records-open RECORD_MAX [] (header ++ take (length bs) (b ∷ bs)) tt (omega arith)
    (inr (header, take (length bs) (b ∷ bs), refl, refl, (omega arith), (omega arith))))

pub record-whole : (message : List ℕ) → length message ≤ RECORD_MAX → IsWhole RECORD_MAX (record_of message) message
record-whole message short =
    let all = records-finished RECORD_MAX [] message [] tt (omega arith) (omega arith) in
    let is : (records RECORD_MAX (record_of message)).records ≡ message ∷ [] =
    ap (λ xs. (records RECORD_MAX xs).records) (sym (append-nil (record_of message))) ∙ ap (λ (s : Split). s.records) all
    ∙ ap (λ (s : Split). message ∷ s.records) (none-yet RECORD_MAX) in
    whole-by RECORD_MAX (record_of message) message (omega arith) (ap is_settled (part-open message short)) is

-- whoever takes so long a record has one then
pub record-settled : (limit : ℕ) (message : List ℕ) → length message < 2 ^ 31 → length message ≤ limit → is_settled (records limit (record_of message)) ≡ true
record-settled limit message small short =
    ap (λ xs. is_settled (records limit xs)) (sym (append-nil (record_of message))) ∙ ap is_settled (records-finished limit [] message [] tt small short)

-- ---- a stream is cut into records in one way

-- two fronts of a list of the same length
fronts : (a b xs ys : List ℕ) → a ++ xs ≡ b ++ ys → length a ≡ length b → (a ≡ b) × (xs ≡ ys)
fronts a b xs ys h e = (
  sym (take-append_seam a xs) ∙ ap (take (length a)) h ∙ ap (λ n. take n (b ++ ys)) e ∙ take-append_seam b ys,
  sym (drop-append_seam a xs) ∙ ap (drop (length a)) h ∙ ap (λ n. drop n (b ++ ys)) e ∙ drop-append_seam b ys,
)

taken-front : (a xs message : List ℕ) → IsWhole RECORD_MAX a message → taken first_buffer (a ++ xs) ≡ length a
taken-front a xs message w =
    let n = taken-append first_buffer a xs in
    let none = taken-stopped (fed first_buffer a) xs (whole-stops (fed first_buffer a) w.state) in
    let all = w.all in
    omega arith

pub whole-unique : (a b xs ys m n : List ℕ) → IsWhole RECORD_MAX a m → IsWhole RECORD_MAX b n → a ++ xs ≡ b ++ ys → (a ≡ b) × (xs ≡ ys)
whole-unique a b xs ys m n w v h =
    fronts a b xs ys h (sym (taken-front a xs m w) ∙ ap (taken first_buffer) h ∙ taken-front b ys n v)

-- a stream with no whole record doesn't begin with one
pub open-front : (a xs part m : List ℕ) → IsWhole RECORD_MAX a m → (fed first_buffer part).state ≡ feed.More → part ≡ a ++ xs → ⊥
open-front a xs part m w waits h =
    let stays : fed first_buffer (a ++ xs) ≡ fed first_buffer a = fed-append first_buffer a xs ∙ fed-stopped (fed first_buffer a) xs (whole-stops (fed first_buffer a) w.state) in
    let both : feed.Whole ≡ feed.More = sym w.state ∙ ap (λ (s : BufState). s.state) (sym stays) ∙ ap (λ ps. (fed first_buffer ps).state) (sym h) ∙ waits in
    cc
