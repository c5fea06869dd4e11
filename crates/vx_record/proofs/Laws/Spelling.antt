-- What the records of a stream are, by the fragments that are spelled on it.
use Rattle.std.proofs.Common.{◌≡◌, ℕ, suc, ◌+◌, ◌-◌, ◌^◌, ◌<◌, ◌≤◌, inl, inr, true, false, nat_lt, List, [], ◌∷◌, ◌++◌, length, take, drop, refl, ap, ◌∙◌, arith, append_assoc, append-nil, length-append}
use Rattle.std.proofs.lemmas.Grind.{common_steps}
use Rattle.std.proofs.lemmas.Bool.Decides.{nat_tests}
use Rattle.byteorder.specs.Endian.{big_bytes}
use Rattle.vx_record.specs.Fragments.{fragment_length, is_last, last_header}
use Rattle.vx_record.specs.Records.{Front, Short, Long, Record, front, Split, split_by, split, records}
use Rattle.vx_record.specs.Runs.{joined}
use Rattle.vx_record.specs.Spelled.{unfinished, finished, AllFit, IsPart}
use Rattle.vx_record.proofs.Laws.Headers.{fragment_length-last_header, is_last-last_header, fragment_length-more, is_last-more}
use Rattle.vx_record.proofs.Streams.{split-any}

-- ---- one fragment

-- a fragment that isn't the last is put behind what is kept
front-more : (fuel limit : ℕ) (kept header body stream : List ℕ) → length header ≡ 4 → fragment_length header ≡ length body
    → is_last header ≡ false → length kept + length body ≤ limit
    → front (suc fuel) limit kept (header ++ body ++ stream) ≡ front fuel limit (kept ++ body) stream
front-more fuel limit kept (a ∷ b ∷ c ∷ d ∷ []) body stream four size last fits =
    let header = a ∷ b ∷ c ∷ d ∷ [] in
    let all = length-append body stream in
    let room : nat_lt limit (length kept + fragment_length header) ≡ false = grind (arith, nat_tests) in
    let there : nat_lt (length (body ++ stream)) (fragment_length header) ≡ false = grind (arith, nat_tests) in
    let part : take (fragment_length header) (body ++ stream) ≡ body = rw size (grind (arith, common_steps)) in
    let left : drop (fragment_length header) (body ++ stream) ≡ stream = rw size (grind (arith, common_steps)) in
    rw (room, there, last, part, left) refl
front-more fuel limit kept (a ∷ b ∷ c ∷ d ∷ e ∷ more) body stream four size last fits = absurd (omega arith)
front-more fuel limit kept (a ∷ b ∷ c ∷ []) body stream four size last fits = absurd (omega arith)
front-more fuel limit kept (a ∷ b ∷ []) body stream four size last fits = absurd (omega arith)
front-more fuel limit kept (a ∷ []) body stream four size last fits = absurd (omega arith)
front-more fuel limit kept [] body stream four size last fits = absurd (omega arith)

-- the last one makes the record
front-last : (fuel limit : ℕ) (kept header body stream : List ℕ) → length header ≡ 4 → fragment_length header ≡ length body
    → is_last header ≡ true → length kept + length body ≤ limit
    → front (suc fuel) limit kept (header ++ body ++ stream) ≡ Record (kept ++ body) stream
front-last fuel limit kept (a ∷ b ∷ c ∷ d ∷ []) body stream four size last fits =
    let header = a ∷ b ∷ c ∷ d ∷ [] in
    let all = length-append body stream in
    let room : nat_lt limit (length kept + fragment_length header) ≡ false = grind (arith, nat_tests) in
    let there : nat_lt (length (body ++ stream)) (fragment_length header) ≡ false = grind (arith, nat_tests) in
    let part : take (fragment_length header) (body ++ stream) ≡ body = rw size (grind (arith, common_steps)) in
    let left : drop (fragment_length header) (body ++ stream) ≡ stream = rw size (grind (arith, common_steps)) in
    rw (room, there, last, part, left) refl
front-last fuel limit kept (a ∷ b ∷ c ∷ d ∷ e ∷ more) body stream four size last fits = absurd (omega arith)
front-last fuel limit kept (a ∷ b ∷ c ∷ []) body stream four size last fits = absurd (omega arith)
front-last fuel limit kept (a ∷ b ∷ []) body stream four size last fits = absurd (omega arith)
front-last fuel limit kept (a ∷ []) body stream four size last fits = absurd (omega arith)
front-last fuel limit kept [] body stream four size last fits = absurd (omega arith)

-- one above the limit refuses it
front-long : (fuel limit : ℕ) (kept header stream : List ℕ) → length header ≡ 4 → limit < length kept + fragment_length header
    → front (suc fuel) limit kept (header ++ stream) ≡ Long
front-long fuel limit kept (a ∷ b ∷ c ∷ d ∷ []) stream four above =
    let header = a ∷ b ∷ c ∷ d ∷ [] in
    let room : nat_lt limit (length kept + fragment_length header) ≡ true = grind (arith, nat_tests) in
    rw room refl
front-long fuel limit kept (a ∷ b ∷ c ∷ d ∷ e ∷ more) stream four above = absurd (omega arith)
front-long fuel limit kept (a ∷ b ∷ c ∷ []) stream four above = absurd (omega arith)
front-long fuel limit kept (a ∷ b ∷ []) stream four above = absurd (omega arith)
front-long fuel limit kept (a ∷ []) stream four above = absurd (omega arith)
front-long fuel limit kept [] stream four above = absurd (omega arith)

-- one that isn't there whole leaves it open
front-short : (fuel limit : ℕ) (kept header body : List ℕ) → length header ≡ 4 → length kept + fragment_length header ≤ limit
    → length body < fragment_length header → front (suc fuel) limit kept (header ++ body) ≡ Short
front-short fuel limit kept (a ∷ b ∷ c ∷ d ∷ []) body four fits short =
    let header = a ∷ b ∷ c ∷ d ∷ [] in
    let room : nat_lt limit (length kept + fragment_length header) ≡ false = grind (arith, nat_tests) in
    let there : nat_lt (length body) (fragment_length header) ≡ true = grind (arith, nat_tests) in
    rw (room, there) refl
front-short fuel limit kept (a ∷ b ∷ c ∷ d ∷ e ∷ more) body four fits short = absurd (omega arith)
front-short fuel limit kept (a ∷ b ∷ c ∷ []) body four fits short = absurd (omega arith)
front-short fuel limit kept (a ∷ b ∷ []) body four fits short = absurd (omega arith)
front-short fuel limit kept (a ∷ []) body four fits short = absurd (omega arith)
front-short fuel limit kept [] body four fits short = absurd (omega arith)

front-tail : (fuel limit : ℕ) (kept tail : List ℕ) → length tail < 4 → front (suc fuel) limit kept tail ≡ Short
front-tail fuel limit kept [] h = refl
front-tail fuel limit kept (a ∷ []) h = refl
front-tail fuel limit kept (a ∷ b ∷ []) h = refl
front-tail fuel limit kept (a ∷ b ∷ c ∷ []) h = refl
front-tail fuel limit kept (a ∷ b ∷ c ∷ d ∷ more) h = absurd (omega arith)

-- ---- several fragments

length-unfinished : (bodies : List (List ℕ)) → length bodies ≤ length (unfinished bodies)
length-unfinished [] = omega arith
length-unfinished (body ∷ later) = omega (arith, length-unfinished later, length-append body (unfinished later))

front-unfinished : (bodies : List (List ℕ)) (fuel limit : ℕ) (kept stream : List ℕ) → AllFit bodies → length kept + length (joined bodies) ≤ limit
    → front (length bodies + fuel) limit kept (unfinished bodies ++ stream) ≡ front fuel limit (kept ++ joined bodies) stream
front-unfinished [] fuel limit kept stream fit fits =
    let none : 0 + fuel ≡ fuel = omega arith in
    rw (none, append-nil) refl
front-unfinished (body ∷ later) fuel limit kept stream fit fits =
    let header = big_bytes 4 (length body) in
    let count : suc (length later) + fuel ≡ suc (length later + fuel) = omega arith in
    let all = length-append body (joined later) in
    let grown = length-append kept body in
    ap (λ n. front n limit kept (unfinished (body ∷ later) ++ stream)) count
    ∙ ap (front (suc (length later + fuel)) limit kept) (append_assoc (header ++ body) (unfinished later) stream)
    ∙ front-more (length later + fuel) limit kept header body (unfinished later ++ stream) refl (fragment_length-more (length body) fit.0)
    (is_last-more (length body) fit.0) (omega arith)
    ∙ front-unfinished later fuel limit (kept ++ body) stream fit.1 (omega arith)
    ∙ ap (λ k. front fuel limit k stream) (append_assoc kept body (joined later))

-- what stands behind the fragments decides what the stream begins with
front-behind : (limit : ℕ) (bodies : List (List ℕ)) (tail : List ℕ) (f : Front) → AllFit bodies → length (joined bodies) ≤ limit
    → ((fuel : ℕ) → front (suc fuel) limit (joined bodies) tail ≡ f)
    → front (suc (length (unfinished bodies ++ tail))) limit [] (unfinished bodies ++ tail) ≡ f
front-behind limit bodies tail f fit fits ends =
    let stream = unfinished bodies ++ tail in
    let size = length-append (unfinished bodies) tail in
    let longer = length-unfinished bodies in
    let fuel = length stream - length bodies in
    let count : suc (length stream) ≡ length bodies + suc fuel = omega arith in
    ap (λ n. front n limit [] stream) count ∙ front-unfinished bodies (suc fuel) limit [] tail fit (omega arith) ∙ ends fuel

-- ---- whole streams

records-record : (limit : ℕ) (stream bytes behind : List ℕ) → front (suc (length stream)) limit [] stream ≡ Record bytes behind
    → length behind < length stream
    → records limit stream ≡ record (records limit behind) { records = bytes ∷ (records limit behind).records }
unfolding records
records-record limit stream bytes behind e shorter =
    ap (split_by (split (length stream) limit) stream) e
    ∙ ap (λ (s : Split). record s { records = bytes ∷ s.records }) (split-any (length stream) (suc (length behind)) limit behind shorter (omega arith))

records-long : (limit : ℕ) (stream : List ℕ) → front (suc (length stream)) limit [] stream ≡ Long
    → records limit stream ≡ record { records = []; rest = stream; too_long = true }
unfolding records
records-long limit stream e = ap (split_by (split (length stream) limit) stream) e

records-short : (limit : ℕ) (stream : List ℕ) → front (suc (length stream)) limit [] stream ≡ Short
    → records limit stream ≡ record { records = []; rest = stream; too_long = false }
unfolding records
records-short limit stream e = ap (split_by (split (length stream) limit) stream) e

-- a record in any fragments is read whole
pub records-finished : (limit : ℕ) (bodies : List (List ℕ)) (final behind : List ℕ) → AllFit bodies → length final < 2 ^ 31
    → length (joined bodies ++ final) ≤ limit
    → records limit (finished bodies final ++ behind)
    ≡ record (records limit behind) { records = (joined bodies ++ final) ∷ (records limit behind).records }
records-finished limit bodies final behind fit small fits =
    let header = last_header (length final) in
    let tail = header ++ final ++ behind in
    let kept = length-append (joined bodies) final in
    let apart : finished bodies final ++ behind ≡ unfinished bodies ++ tail = simp append_assoc in
    let shorter : length behind < length (unfinished bodies ++ tail) =
    omega (arith, length-append (unfinished bodies) tail, length-append (header ++ final) behind, length-append header final) in
    ap (records limit) apart
    ∙ records-record limit (unfinished bodies ++ tail) (joined bodies ++ final) behind
    (front-behind limit bodies tail (Record (joined bodies ++ final) behind) fit (omega arith)
    (λ fuel. front-last fuel limit (joined bodies) header final behind refl (fragment_length-last_header (length final) small)
    (is_last-last_header (length final) small) (omega arith)))
    shorter

-- a header that takes its record above the limit ends the stream
pub records-refused : (limit : ℕ) (bodies : List (List ℕ)) (header behind : List ℕ) → AllFit bodies → length header ≡ 4
    → length (joined bodies) ≤ limit → limit < length (joined bodies) + fragment_length header
    → records limit (unfinished bodies ++ header ++ behind)
    ≡ record { records = []; rest = unfinished bodies ++ header ++ behind; too_long = true }
records-refused limit bodies header behind fit four fits above =
    records-long limit (unfinished bodies ++ header ++ behind)
    (ap (λ s. front (suc (length s)) limit [] s) (append_assoc (unfinished bodies) header behind)
    ∙ front-behind limit bodies (header ++ behind) Long fit fits (λ fuel. front-long fuel limit (joined bodies) header behind four above))

-- a stream with neither waits for more
pub records-open : (limit : ℕ) (bodies : List (List ℕ)) (tail : List ℕ) → AllFit bodies → length (joined bodies) ≤ limit
    → IsPart limit (length (joined bodies)) tail
    → records limit (unfinished bodies ++ tail) ≡ record { records = []; rest = unfinished bodies ++ tail; too_long = false }
records-open limit bodies tail fit fits (inl few) =
    records-short limit (unfinished bodies ++ tail)
    (front-behind limit bodies tail Short fit fits (λ fuel. front-tail fuel limit (joined bodies) tail few))
records-open limit bodies tail fit fits (inr (header, body, e, four, room, short)) =
    records-short limit (unfinished bodies ++ tail)
    (front-behind limit bodies tail Short fit fits
    (λ fuel. ap (front (suc fuel) limit (joined bodies)) e ∙ front-short fuel limit (joined bodies) header body four room short))
