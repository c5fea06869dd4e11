-- A buffer that a stream is fed to stands where the whole stream's split says.
use Rattle.std.proofs.Common.{◌≡◌, ℕ, suc, ◌+◌, ◌-◌, ◌<◌, ◌≤◌, Bool, true, false, List, [], ◌∷◌, ◌++◌, length, take, drop, refl, sym, ap, subst, ◌∙◌, ◌⊎◌, inl, inr, arith, length-append}
use Rattle.std.proofs.lemmas.Grind.{common_steps}
use Rattle.vx_record.specs.declared.Feed.{Feed}
use Rattle.vx_record.specs.declared.Feed.TheVariants.{More, Whole, TooLong}
use Rattle.vx_record.specs.Records.{Split, records}
use Rattle.vx_record.specs.Buffer.{BufState, fresh, step, fed, taken}
use Rattle.vx_record.specs.Runs.{Stream, beginning, taken_off, brought, run, is_too_long, Shows}
use Rattle.vx_record.specs.Ends.{is_settled_by, is_settled, IsEnd, EndLaw}
use Rattle.vx_record.proofs.Laws.{settled-none, fed-append, fed-stopped, taken-more, taken-stopped, brought-more, run-too_long, run-append, shown}
use Rattle.vx_record.proofs.Streams.{run-fed, pieces-records}

-- ---- what a feed takes

-- a record takes more bytes, or it doesn't
is_open : (state : Feed) → (state ≡ More) ⊎ (state ≡ More → ⊥)
is_open More = inl refl
is_open Whole = inr (λ e. cc)
is_open TooLong = inr (λ e. cc)

-- what takes more at the end took more at the beginning
open-first : (s : BufState) (xs : List ℕ) → (fed s xs).state ≡ More → s.state ≡ More
open-first s xs more = by (is_open s.state) where
  by : (s.state ≡ More) ⊎ (s.state ≡ More → ⊥) → s.state ≡ More
  by (inl e) = e
  by (inr stopped) = ap (λ t. t.state) (sym (fed-stopped s xs stopped)) ∙ more

-- what took a byte took more
taken-first : (s : BufState) (xs : List ℕ) → 0 < taken s xs → s.state ≡ More
taken-first s xs some = by (is_open s.state) where
  by : (s.state ≡ More) ⊎ (s.state ≡ More → ⊥) → s.state ≡ More
  by (inl e) = e
  by (inr stopped) = absurd (omega (arith, taken-stopped s xs stopped))

-- what takes more at the end took all
taken-open : (s : BufState) (xs : List ℕ) → (fed s xs).state ≡ More → taken s xs ≡ length xs
taken-open s [] more = refl
taken-open s (x ∷ xs) more = taken-more s x xs (open-first s (x ∷ xs) more) ∙ ap suc (taken-open (step s x) xs more)

-- what takes more before the last byte takes all
front-open : (s : BufState) (x : ℕ) (xs : List ℕ) → (fed s (take (length xs) (x ∷ xs))).state ≡ More → taken s (x ∷ xs) ≡ suc (length xs)
front-open s x [] more = taken-more s x [] more
front-open s x (y ∷ xs) more =
    taken-more s x (y ∷ xs) (open-first s (take (length (y ∷ xs)) (x ∷ y ∷ xs)) more) ∙ ap suc (front-open (step s x) y xs more)

-- what takes all takes more before the last byte
front-taken : (s : BufState) (x : ℕ) (xs : List ℕ) → taken s (x ∷ xs) ≡ suc (length xs) → (fed s (take (length xs) (x ∷ xs))).state ≡ More
front-taken s x [] all = taken-first s (x ∷ []) (omega arith)
front-taken s x (y ∷ xs) all =
    let more = taken-more s x (y ∷ xs) (taken-first s (x ∷ y ∷ xs) (omega arith)) in
    front-taken (step s x) y xs (omega arith)

-- ---- where a stream stands

-- a run that takes more at the end has taken no record off
run-open : (limit : ℕ) (stream : List ℕ) → (fed (fresh limit) stream).state ≡ More
    → run (beginning limit) stream ≡ record { records = []; buffer = fed (fresh limit) stream }
run-open limit stream more =
    let all = taken-open (fresh limit) stream more in
    let none : drop (taken (fresh limit) stream) stream ≡ [] = rw all (grind (arith, common_steps)) in
    run-fed [] (fresh limit) stream refl ∙ ap (run (brought [] (fed (fresh limit) stream))) none ∙ brought-more [] (fed (fresh limit) stream) more

-- a stream that a buffer took whole ends as the buffer says
end-shown : (state : Feed) (s : BufState) (split : Split) → state ≡ s.state → Shows split (taken_off state [] s) → IsEnd state s.kept split
end-shown More s split e shows = (sym shows.records, sym shows.too_long ∙ ap is_too_long (sym e))
end-shown Whole s split e shows = sym shows.records
end-shown TooLong s split e shows = (sym shows.records, sym shows.too_long ∙ ap is_too_long (sym e))

-- ---- whether a stream is settled

-- a run takes no record back
run-length : (t : Stream) (xs : List ℕ) → length t.records ≤ length (run t xs).records
run-length t [] = omega arith
run-length t (x ∷ xs) =
    omega (arith, brought-length (step t.buffer x).state, run-length (brought t.records (step t.buffer x)) xs) where
      brought-length : (state : Feed) → length t.records ≤ length (taken_off state t.records (step t.buffer x)).records
      brought-length More = omega arith
      brought-length Whole = omega (arith, length-append t.records ((step t.buffer x).kept ∷ []))
      brought-length TooLong = omega arith

settled-some : (rs : List (List ℕ)) (long : Bool) → 0 < length rs → is_settled_by rs long ≡ true
settled-some [] long some = absurd (omega arith)
settled-some (r ∷ rs) long some = refl

settled-long : (rs : List (List ℕ)) (long : Bool) → long ≡ true → is_settled_by rs long ≡ true
settled-long [] long e = e
settled-long (r ∷ rs) long e = refl

-- a record that is whole or too long settles whatever stands behind it
settled-shown : (state : Feed) (s : BufState) (behind : List ℕ) (split : Split) → state ≡ s.state → (state ≡ More → ⊥)
    → Shows split (run (taken_off state [] s) behind) → is_settled split ≡ true
settled-shown More s behind split e stopped shows = absurd (stopped refl)
settled-shown Whole s behind split e stopped shows =
    let t : Stream = record { records = s.kept ∷ []; buffer = fresh s.limit } in
    settled-some split.records split.too_long (omega (arith, run-length t behind, ap length shows.records))
settled-shown TooLong s behind split e stopped shows =
    let stays : is_too_long (run (record { records = []; buffer = s }) behind).buffer.state ≡ true =
    ap (λ t. is_too_long t.buffer.state) (run-too_long [] s behind (sym e)) ∙ ap is_too_long (sym e) in
    settled-long split.records split.too_long (sym shows.too_long ∙ stays)

-- a stream behind which a buffer takes no more is settled
stopped-settled : (limit : ℕ) (stream : List ℕ) → ((fed (fresh limit) stream).state ≡ More → ⊥) → is_settled (records limit stream) ≡ true
stopped-settled limit stream stopped =
    let s = fed (fresh limit) stream in
    settled-shown s.state s (drop (taken (fresh limit) stream) stream) (records limit stream) refl stopped
    (subst (Shows (records limit stream)) (run-fed [] (fresh limit) stream refl) (shown pieces-records limit stream))

-- one behind which it takes more isn't
open-settled : (limit : ℕ) (stream : List ℕ) → (fed (fresh limit) stream).state ≡ More → is_settled (records limit stream) ≡ false
open-settled limit stream more =
    let shows = subst (Shows (records limit stream)) (run-open limit stream more) (shown pieces-records limit stream) in
    settled-none (records limit stream) (sym shows.records) (sym shows.too_long ∙ ap is_too_long more)

-- ---- a feed of a piece

-- the stream and the piece, but for the last byte
front-append : (stream : List ℕ) (x : ℕ) (xs : List ℕ) (n : ℕ) → n ≡ length stream + length xs
    → take n (stream ++ x ∷ xs) ≡ stream ++ take (length xs) (x ∷ xs)
front-append [] x xs n e = ap (λ k. take k (x ∷ xs)) (e ∙ omega arith)
front-append (y ∷ stream) x xs n e =
    let size : n ≡ suc (length stream + length xs) = omega arith in
    ap (λ k. take k ((y ∷ stream) ++ x ∷ xs)) size ∙ ap (λ l. y ∷ l) (front-append stream x xs (length stream + length xs) refl)

-- a feed of a piece says where the stream stands behind it
pub feed-ends : EndLaw
feed-ends limit stream [] more some = absurd (omega arith)
feed-ends limit stream (x ∷ xs) more some =
    let s = fed (fresh limit) stream in
    let all = stream ++ x ∷ xs in
    let front = take (length all - 1) all in
    let same : front ≡ stream ++ take (length xs) (x ∷ xs) =
    front-append stream x xs (length all - 1) (omega (arith, length-append stream (x ∷ xs))) in
    let before : fed (fresh limit) front ≡ fed s (take (length xs) (x ∷ xs)) =
    ap (fed (fresh limit)) same ∙ fed-append (fresh limit) stream (take (length xs) (x ∷ xs)) in
    record {
      settled_before = λ part. stopped-settled limit front (λ open_front.
          absurd (omega (arith, part, front-open s x xs (ap (λ t. t.state) (sym before) ∙ open_front))));
      open_before = λ took. open-settled limit front (ap (λ t. t.state) before ∙ front-taken s x xs took);
      ends = λ took.
          let none : drop (taken s (x ∷ xs)) (x ∷ xs) ≡ [] = rw took (grind (arith, common_steps)) in
          let came : run (beginning limit) all ≡ brought [] (fed s (x ∷ xs)) =
          run-append (beginning limit) stream (x ∷ xs) ∙ ap (λ t. run t (x ∷ xs)) (run-open limit stream more)
          ∙ run-fed [] s (x ∷ xs) more ∙ ap (run (brought [] (fed s (x ∷ xs)))) none in
          end-shown (fed s (x ∷ xs)).state (fed s (x ∷ xs)) (records limit all) refl
          (subst (Shows (records limit all)) came (shown pieces-records limit all));
    }
