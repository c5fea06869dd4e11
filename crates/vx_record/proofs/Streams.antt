-- A stream that runs through a buffer is the records of the whole stream.
use Rattle.std.proofs.Common.{◌≡◌, ℕ, zero, suc, ◌+◌, ◌-◌, ◌^◌, ◌<◌, ◌≤◌, ◌==◌, min, Bool, true, false, nat_lt, if◌then◌else◌, List, [], ◌∷◌, ◌++◌, length, take, drop, refl, sym, ap, subst, ◌∙◌, arith, append_assoc, append-nil, length-drop, take-append-drop}
use Rattle.std.proofs.lemmas.List.{length-take-le}
use Rattle.std.proofs.lemmas.Grind.{common_steps}
use Rattle.std.proofs.lemmas.Bool.Decides.{nat_tests}
use Rattle.vx_record.specs.declared.Feed.{Feed}
use Rattle.vx_record.specs.declared.Feed.TheVariants.{More, Whole, TooLong}
use Rattle.vx_record.specs.Fragments.{fragment_length, is_last}
use Rattle.vx_record.specs.Records.{Front, Short, Long, Record, front, Split, split_by, split, records}
use Rattle.vx_record.specs.Buffer.{BufState, fresh, counted, closed, opened, body_bytes, step, fed, taken}
use Rattle.vx_record.specs.Runs.{Stream, beginning, brought, run, run_pieces, joined, is_too_long, Shows}
use Rattle.vx_record.proofs.Laws.{taken-more, fed-stopped, taken-stopped, brought-more, run-too_long, run-append}
use Rattle.vx_record.proofs.Feeding.{body_bytes-part, step-body, more_front}

-- ---- cuts

pub run_pieces-joined : (t : Stream) (pieces : List (List ℕ)) → run_pieces t pieces ≡ run t (joined pieces)
run_pieces-joined t [] = refl
run_pieces-joined t (piece ∷ pieces) = run_pieces-joined (run t piece) pieces ∙ sym (run-append t piece (joined pieces))

-- ---- a feed is a front of a run

pub run-fed : (rs : List (List ℕ)) (s : BufState) (piece : List ℕ) → s.state ≡ More
    → run (record { records = rs; buffer = s }) piece ≡ run (brought rs (fed s piece)) (drop (taken s piece) piece)
run-fed rs s [] more = sym (brought-more rs s more)
run-fed rs s (x ∷ xs) more =
    after (step s x).state refl (λ m. run-fed rs (step s x) xs m) ∙ rw (taken-more s x xs more) refl where
      after : (state : Feed) → state ≡ (step s x).state
          → ((step s x).state ≡ More → run (record { records = rs; buffer = step s x }) xs ≡ run (brought rs (fed (step s x) xs)) (drop (taken (step s x) xs) xs))
          → run (brought rs (step s x)) xs ≡ run (brought rs (fed (step s x) xs)) (drop (taken (step s x) xs) xs)
      after More e later = ap (λ t. run t xs) (brought-more rs (step s x) (sym e)) ∙ later (sym e)
      after Whole e later =
          let stopped : (step s x).state ≡ More → ⊥ = λ m. absurd (let both : Whole ≡ More = e ∙ m in cc) in
          rw (fed-stopped (step s x) xs stopped, taken-stopped (step s x) xs stopped) refl
      after TooLong e later =
          let stopped : (step s x).state ≡ More → ⊥ = λ m. absurd (let both : TooLong ≡ More = e ∙ m in cc) in
          rw (fed-stopped (step s x) xs stopped, taken-stopped (step s x) xs stopped) refl

-- ---- fragments

-- a run over a front of a fragment's bytes keeps them at once
run-body : (rs : List (List ℕ)) (s : BufState) (bytes ys : List ℕ) → s.state ≡ More → 0 < length bytes → length bytes ≤ s.left
    → run (record { records = rs; buffer = s }) (bytes ++ ys) ≡ run (brought rs (body_bytes (counted s (length bytes)) bytes)) ys
run-body rs s [] ys more some h = absurd (omega arith)
run-body rs s (x ∷ []) ys more some h = ap (λ t. run (brought rs t) ys) (step-body s x more (omega arith))
run-body rs s (x ∷ y ∷ xs) ys more some h =
    let s' : BufState = record (counted s 1) { kept = s.kept ++ x ∷ []; left = s.left - 1 } in
    let first : step s x ≡ s' = step-body s x more (omega arith) ∙ body_bytes-part (counted s 1) (x ∷ []) (omega arith) in
    ap (λ t. run (brought rs t) ((y ∷ xs) ++ ys)) first ∙ ap (λ t. run t ((y ∷ xs) ++ ys)) (brought-more rs s' more)
    ∙ run-body rs s' (y ∷ xs) ys more (omega arith) (omega arith) ∙ ap (λ t. run (brought rs t) ys) (more_front s x (y ∷ xs) h)

-- a buffer at the beginning of a fragment
abbrev at_header : ℕ → List ℕ → Bool → ℕ → BufState
at_header limit kept last rest =
    record { limit = limit; kept = kept; header = []; last = last; left = 0; state = More; rest = rest }

-- a buffer behind a header
abbrev in_body : ℕ → List ℕ → Bool → ℕ → ℕ → BufState
in_body limit kept last left rest =
    record { limit = limit; kept = kept; header = []; last = last; left = left; state = More; rest = rest }

-- four bytes open a fragment
run-header : (rs : List (List ℕ)) (limit : ℕ) (kept : List ℕ) (last : Bool) (rest a b c d : ℕ) (bytes : List ℕ)
    → run (record { records = rs; buffer = at_header limit kept last rest }) (a ∷ b ∷ c ∷ d ∷ bytes)
    ≡ run (brought rs (opened (at_header limit kept last (min (rest + 4) (2 ^ 62))) (a ∷ b ∷ c ∷ d ∷ []))) bytes
run-header rs limit kept last rest a b c d bytes =
    let count : min (min (min (min (rest + 1) (2 ^ 62) + 1) (2 ^ 62) + 1) (2 ^ 62) + 1) (2 ^ 62) ≡ min (rest + 4) (2 ^ 62) = omega arith in
    ap (λ n. run (brought rs (opened (at_header limit kept last n) (a ∷ b ∷ c ∷ d ∷ []))) bytes) count

opened-long : (s : BufState) (header : List ℕ) → nat_lt s.limit (length s.kept + fragment_length header) ≡ true
    → opened s header ≡ record s { header = []; state = TooLong }
opened-long s header e = rw e refl

opened-fits : (s : BufState) (header : List ℕ) → nat_lt s.limit (length s.kept + fragment_length header) ≡ false
    → opened s header ≡ closed (record s { header = []; last = is_last header; left = fragment_length header })
opened-fits s header e = rw e refl

-- a fragment of which bytes are left isn't at its end
closed-more : (s : BufState) → 0 < s.left → closed s ≡ s
closed-more s h = let more : (s.left == 0) ≡ false = grind (arith, nat_tests) in rw more refl

-- a front of a fragment's bytes, which may be none of them
run-part : (rs : List (List ℕ)) (limit : ℕ) (kept : List ℕ) (last : Bool) (left rest : ℕ) (bytes ys : List ℕ) → length bytes ≤ left
    → run (brought rs (closed (in_body limit kept last left (min rest (2 ^ 62))))) (bytes ++ ys)
    ≡ run (brought rs (closed (in_body limit (kept ++ bytes) last (left - length bytes) (min (rest + length bytes) (2 ^ 62))))) ys
run-part rs limit kept last left rest [] ys h =
    let k : kept ++ [] ≡ kept = grind (arith, common_steps) in
    let l : left - 0 ≡ left = omega arith in
    let r : rest + 0 ≡ rest = omega arith in
    rw (k, l, r) refl
run-part rs limit kept last left rest (x ∷ xs) ys h =
    let s : BufState = in_body limit kept last left (min rest (2 ^ 62)) in
    let count : min (min rest (2 ^ 62) + length (x ∷ xs)) (2 ^ 62) ≡ min (rest + length (x ∷ xs)) (2 ^ 62) = omega arith in
    ap (λ t. run (brought rs t) ((x ∷ xs) ++ ys)) (closed-more s (omega arith))
    ∙ run-body rs s (x ∷ xs) ys refl (omega arith) h
    ∙ ap (λ n. run (brought rs (closed (in_body limit (kept ++ x ∷ xs) last (left - length (x ∷ xs)) n))) ys) count

-- ---- what a stream begins with, and where its run comes to

-- a run from the beginning of a fragment over a stream of so many bytes, by what the stream begins with
abbrev Came : List (List ℕ) → ℕ → ℕ → ℕ → Front → Stream → Type 0
Came rs limit rest size Short t = (t.records ≡ rs) × (t.buffer.state ≡ More) × (t.buffer.rest ≡ min (rest + size) (2 ^ 62))
Came rs limit rest size Long t = (t.records ≡ rs) × (t.buffer.state ≡ TooLong)
Came rs limit rest size (Record bytes behind) t =
    (t ≡ run (record { records = rs ++ bytes ∷ []; buffer = fresh limit }) behind) × (length behind < size)

-- what came from further on came from here
came_from : (rs : List (List ℕ)) (limit rest rest' size size' : ℕ) (f : Front) (t : Stream) → size' ≤ size
    → min (rest' + size') (2 ^ 62) ≡ min (rest + size) (2 ^ 62) → Came rs limit rest' size' f t → Came rs limit rest size f t
came_from rs limit rest rest' size size' Short t shorter same c = (c.0, c.1, c.2 ∙ same)
came_from rs limit rest rest' size size' Long t shorter same c = c
came_from rs limit rest rest' size size' (Record bytes behind) t shorter same c = (c.0, omega (arith, c.1))

-- a last fragment at its end makes its record whole
brought-whole : (rs : List (List ℕ)) (limit : ℕ) (kept : List ℕ) (last : Bool) (left rest : ℕ) → left ≡ 0 → last ≡ true
    → brought rs (closed (in_body limit kept last left rest)) ≡ record { records = rs ++ kept ∷ []; buffer = fresh limit }
brought-whole rs limit kept last left rest l e = rw (l, e) refl

-- another fragment at its end is followed by a header
brought-next : (rs : List (List ℕ)) (limit : ℕ) (kept : List ℕ) (last : Bool) (left rest : ℕ) → left ≡ 0 → last ≡ false
    → brought rs (closed (in_body limit kept last left rest)) ≡ record { records = rs; buffer = at_header limit kept false rest }
brought-next rs limit kept last left rest l e = rw (l, e) refl

-- a fragment that isn't there whole waits for more
brought-wait : (rs : List (List ℕ)) (limit : ℕ) (kept : List ℕ) (last : Bool) (left rest : ℕ) → 0 < left
    → brought rs (closed (in_body limit kept last left rest)) ≡ record { records = rs; buffer = in_body limit kept last left rest }
brought-wait rs limit kept last left rest h = ap (brought rs) (closed-more (in_body limit kept last left rest) h)

-- the run behind a header that fits, over the bytes of its fragment that are there
run-fragment : (rs : List (List ℕ)) (limit : ℕ) (kept : List ℕ) (last : Bool) (rest : ℕ) (header part stream : List ℕ)
    → nat_lt limit (length kept + fragment_length header) ≡ false → length part ≤ fragment_length header
    → run (brought rs (opened (at_header limit kept last (min (rest + 4) (2 ^ 62))) header)) (part ++ stream)
    ≡ run (brought rs (closed (in_body limit (kept ++ part) (is_last header) (fragment_length header - length part)
    (min (rest + 4 + length part) (2 ^ 62))))) stream
run-fragment rs limit kept last rest header part stream fits h =
    ap (λ t. run (brought rs t) (part ++ stream)) (opened-fits (at_header limit kept last (min (rest + 4) (2 ^ 62))) header fits)
    ∙ run-part rs limit kept (is_last header) (fragment_length header) (rest + 4) part stream h

-- behind a header, by whether it takes the record above the limit, whether its fragment is there whole, and whether it is
-- the last one
came-header : (more : ℕ) (rs : List (List ℕ)) (limit rest : ℕ) (kept : List ℕ) (last : Bool) (header body : List ℕ)
    → length body < more
    → ((kept : List ℕ) (rest : ℕ) → let stream = drop (fragment_length header) body in
    length stream < more → Came rs limit (min rest (2 ^ 62)) (length stream) (front more limit kept stream)
    (run (record { records = rs; buffer = at_header limit kept false (min rest (2 ^ 62)) }) stream))
    → (long short final : Bool) → nat_lt limit (length kept + fragment_length header) ≡ long → nat_lt (length body) (fragment_length header) ≡ short
    → is_last header ≡ final
    → Came rs limit rest (4 + length body)
    (if long then Long else (if short then Short else (if final then Record (kept ++ take (fragment_length header) body) (drop (fragment_length header) body)
    else front more limit (kept ++ take (fragment_length header) body) (drop (fragment_length header) body))))
    (run (brought rs (opened (at_header limit kept last (min (rest + 4) (2 ^ 62))) header)) body)
came-header more rs limit rest kept last header body h later true short final e1 e2 e3 =
    let s = at_header limit kept last (min (rest + 4) (2 ^ 62)) in
    let refused : run (brought rs (opened s header)) body ≡ record { records = rs; buffer = record s { header = []; state = TooLong } } =
    ap (λ t. run (brought rs t) body) (opened-long s header e1) ∙ run-too_long rs (record s { header = []; state = TooLong }) body refl in
    (ap (λ t. t.records) refused, ap (λ t. t.buffer.state) refused)
came-header more rs limit rest kept last header body h later false true final e1 e2 e3 =
    let size = fragment_length header in
    let shorter : length body < size = grind (arith, nat_tests) in
    let s = at_header limit kept last (min (rest + 4) (2 ^ 62)) in
    let waits : run (brought rs (opened s header)) body
    ≡ record { records = rs; buffer = in_body limit (kept ++ body) (is_last header) (size - length body) (min (rest + 4 + length body) (2 ^ 62)) } =
    ap (run (brought rs (opened s header))) (sym (append-nil body)) ∙ run-fragment rs limit kept last rest header body [] e1 (omega arith)
    ∙ brought-wait rs limit (kept ++ body) (is_last header) (size - length body) (min (rest + 4 + length body) (2 ^ 62)) (omega arith) in
    (ap (λ t. t.records) waits, ap (λ t. t.buffer.state) waits, ap (λ t. t.buffer.rest) waits ∙ omega arith)
came-header more rs limit rest kept last header body h later false false true e1 e2 e3 =
    let size = fragment_length header in
    let there : size ≤ length body = grind (arith, nat_tests) in
    let s = at_header limit kept last (min (rest + 4) (2 ^ 62)) in
    let part = take size body in
    let same : length part ≡ size = length-take-le size body there in (
      ap (run (brought rs (opened s header))) (sym (take-append-drop size body))
          ∙ run-fragment rs limit kept last rest header part (drop size body) e1 (omega arith)
          ∙ ap (λ t. run t (drop size body)) (brought-whole rs limit (kept ++ part) (is_last header) (size - length part)
          (min (rest + 4 + length part) (2 ^ 62)) (omega arith) e3),
      omega (arith, length-drop size body),
    )
came-header more rs limit rest kept last header body h later false false false e1 e2 e3 =
    let size = fragment_length header in
    let there : size ≤ length body = grind (arith, nat_tests) in
    let s = at_header limit kept last (min (rest + 4) (2 ^ 62)) in
    let part = take size body in
    let same : length part ≡ size = length-take-le size body there in
    let left = length-drop size body in
    let rest' = rest + 4 + length part in
    let goes_on : run (brought rs (opened s header)) body
    ≡ run (record { records = rs; buffer = at_header limit (kept ++ part) false (min rest' (2 ^ 62)) }) (drop size body) =
    ap (run (brought rs (opened s header))) (sym (take-append-drop size body))
    ∙ run-fragment rs limit kept last rest header part (drop size body) e1 (omega arith)
    ∙ ap (λ t. run t (drop size body)) (brought-next rs limit (kept ++ part) (is_last header) (size - length part) (min rest' (2 ^ 62)) (omega arith) e3) in
    subst (Came rs limit rest (4 + length body) (front more limit (kept ++ part) (drop size body))) (sym goes_on)
    (came_from rs limit rest (min rest' (2 ^ 62)) (4 + length body) (length (drop size body)) (front more limit (kept ++ part) (drop size body)) _
    (omega arith) (omega arith) (later (kept ++ part) rest' (omega arith)))

-- a run from the beginning of a fragment comes to what the stream begins with
came-front : (fuel : ℕ) (rs : List (List ℕ)) (limit rest : ℕ) (kept : List ℕ) (last : Bool) (stream : List ℕ) → length stream < fuel
    → Came rs limit (min rest (2 ^ 62)) (length stream) (front fuel limit kept stream)
    (run (record { records = rs; buffer = at_header limit kept last (min rest (2 ^ 62)) }) stream)
came-front zero rs limit rest kept last stream h = absurd (omega arith)
came-front (suc more) rs limit rest kept last [] h = (refl, refl, omega arith)
came-front (suc more) rs limit rest kept last (a ∷ []) h = (refl, refl, omega arith)
came-front (suc more) rs limit rest kept last (a ∷ b ∷ []) h = (refl, refl, omega arith)
came-front (suc more) rs limit rest kept last (a ∷ b ∷ c ∷ []) h = (refl, refl, omega arith)
came-front (suc more) rs limit rest kept last (a ∷ b ∷ c ∷ d ∷ body) h =
    let header = a ∷ b ∷ c ∷ d ∷ [] in
    let stream = a ∷ b ∷ c ∷ d ∷ body in
    let rest' = min rest (2 ^ 62) in
    let came = came-header more rs limit rest' kept last header body (omega arith)
    (λ kept' later shorter. came-front more rs limit later kept' false (drop (fragment_length header) body) shorter)
    (nat_lt limit (length kept + fragment_length header)) (nat_lt (length body) (fragment_length header)) (is_last header) refl refl refl in
    subst (Came rs limit rest' (length stream) (front (suc more) limit kept stream)) (sym (run-header rs limit kept last rest' a b c d body))
    (came_from rs limit rest' rest' (length stream) (4 + length body) (front (suc more) limit kept stream) _ (omega arith) (omega arith) came)

-- ---- whole streams

-- a run has come as far as its split says, behind these records
record Comes (rs : List (List ℕ)) (split : Split) (t : Stream) : Type 0 where
  records : t.records ≡ rs ++ split.records
  too_long : is_too_long t.buffer.state ≡ split.too_long
  rest : split.too_long ≡ false → t.buffer.rest ≡ min (length split.rest) (2 ^ 62)

comes-by : (rs : List (List ℕ)) (limit : ℕ) (stream : List ℕ) (later : List ℕ → Split) (f : Front) (t : Stream)
    → Came rs limit 0 (length stream) f t
    → ((rs : List (List ℕ)) (behind : List ℕ) → length behind < length stream
    → Comes rs (later behind) (run (record { records = rs; buffer = fresh limit }) behind))
    → Comes rs (split_by later stream f) t
comes-by rs limit stream later Short t came rec =
    record { records = came.0 ∙ sym (append-nil rs); too_long = ap is_too_long came.1; rest = λ _. came.2 ∙ omega arith }
comes-by rs limit stream later Long t came rec =
    record { records = came.0 ∙ sym (append-nil rs); too_long = ap is_too_long came.1; rest = λ no. absurd (let both : true ≡ false = no in cc) }
comes-by rs limit stream later (Record bytes behind) t came rec =
    let others = rec (rs ++ bytes ∷ []) behind came.1 in
    subst (Comes rs (split_by later stream (Record bytes behind))) (sym came.0)
    (record { records = others.records ∙ append_assoc rs (bytes ∷ []) (later behind).records; too_long = others.too_long; rest = others.rest })

run-split : (fuel : ℕ) (rs : List (List ℕ)) (limit : ℕ) (stream : List ℕ) → length stream < fuel
    → Comes rs (split fuel limit stream) (run (record { records = rs; buffer = fresh limit }) stream)
run-split zero rs limit stream h = absurd (omega arith)
run-split (suc more) rs limit stream h =
    comes-by rs limit stream (split more limit) (front (suc (length stream)) limit [] stream) (run (record { records = rs; buffer = fresh limit }) stream)
    (came-front (suc (length stream)) rs limit 0 [] false stream (omega arith))
    (λ rs' behind shorter. run-split more rs' limit behind (omega arith))

-- a stream in any pieces is the records of the whole stream
pub pieces-records : (limit : ℕ) (pieces : List (List ℕ)) → Shows (records limit (joined pieces)) (run_pieces (beginning limit) pieces)
unfolding records
pieces-records limit pieces =
    let stream = joined pieces in
    let comes = run-split (suc (length stream)) [] limit stream (omega arith) in
    subst (Shows (split (suc (length stream)) limit stream)) (sym (run_pieces-joined (beginning limit) pieces))
    (record { records = comes.records; too_long = comes.too_long; rest = comes.rest })

-- ---- how far a split looks

-- any count above the stream's length splits it alike
pub split-any : (fuel other limit : ℕ) (stream : List ℕ) → length stream < fuel → length stream < other → split fuel limit stream ≡ split other limit stream
split-any zero other limit stream h g = absurd (omega arith)
split-any (suc fuel) zero limit stream h g = absurd (omega arith)
split-any (suc fuel) (suc other) limit stream h g =
    by (front (suc (length stream)) limit [] stream) (came-front (suc (length stream)) [] limit 0 [] false stream (omega arith))
    (λ behind shorter. split-any fuel other limit behind (omega arith) (omega arith)) where
      by : (f : Front) → Came [] limit 0 (length stream) f (run (record { records = []; buffer = fresh limit }) stream)
          → ((behind : List ℕ) → length behind < length stream → split fuel limit behind ≡ split other limit behind)
          → split_by (split fuel limit) stream f ≡ split_by (split other limit) stream f
      by Short came same = refl
      by Long came same = refl
      by (Record bytes behind) came same = ap (λ (s : Split). record s { records = bytes ∷ s.records }) (same behind came.1)
