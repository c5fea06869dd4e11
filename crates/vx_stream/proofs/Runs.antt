-- A feed of a piece, as a part of the stream's run.
use Rattle.std.proofs.Common.{◌≡◌, ◌+◌, ◌-◌, ℕ, List, [], ◌∷◌, length, take, drop, refl, sym, ap, ◌∙◌, arith}
use Rattle.std.proofs.Math.Seq.{take-add}
use Rattle.std.proofs.lemmas.List.{take_all, length-drop}
use Rattle.vx_record.specs.Buffer.{BufState, step, fed, taken}
use Rattle.vx_record.specs.Runs.{Stream, brought, run, FedFrom}
use Rattle.vx_record.specs.declared.Feed.{Feed}
use Rattle.vx_record.specs.declared.Feed.TheVariants.{More, Whole, TooLong}
use Rattle.vx_record.proofs.Laws.{fed-stopped, taken-more, taken-stopped, run-append, brought-more}

-- a stream that has come to these records and this buffer
abbrev pub at : List (List ℕ) → BufState → Stream
at rs b = record { records = rs; buffer = b }

-- the run over the bytes that a feed took brings what the feed left
run-taken : (rs : List (List ℕ)) (s : BufState) (piece : List ℕ) → s.state ≡ More → run (at rs s) (take (taken s piece) piece) ≡ brought rs (fed s piece)
run-taken rs s [] more = sym (brought-more rs s more)
run-taken rs s (x ∷ xs) more =
    ap (λ n. run (at rs s) (take n (x ∷ xs))) (taken-more s x xs more)
    ∙ after (step s x).state refl (λ m. run-taken rs (step s x) xs m) where
      after : (state : Feed) → state ≡ (step s x).state
          → ((step s x).state ≡ More → run (at rs (step s x)) (take (taken (step s x) xs) xs) ≡ brought rs (fed (step s x) xs))
          → run (brought rs (step s x)) (take (taken (step s x) xs) xs) ≡ brought rs (fed (step s x) xs)
      after More e later = ap (λ t. run t (take (taken (step s x) xs) xs)) (brought-more rs (step s x) (sym e)) ∙ later (sym e)
      after Whole e later =
          let stopped : (step s x).state ≡ More → ⊥ = λ m. absurd (let both : Whole ≡ More = e ∙ m in cc) in
          rw (fed-stopped (step s x) xs stopped, taken-stopped (step s x) xs stopped) refl
      after TooLong e later =
          let stopped : (step s x).state ≡ More → ⊥ = λ m. absurd (let both : TooLong ≡ More = e ∙ m in cc) in
          rw (fed-stopped (step s x) xs stopped, taken-stopped (step s x) xs stopped) refl

-- the run goes on by what the feed brought
pub run-fed : (t : Stream) (piece : List ℕ) (place took : ℕ) (rs : List (List ℕ)) (old new : BufState) → run t (take place piece) ≡ at rs old
    → old.state ≡ More → FedFrom old piece place took new → run t (take (place + took) piece) ≡ brought rs new
run-fed t piece place took rs old new ran more fed_so =
    let len = length-drop place piece in
    let rest : take (length piece - place) (drop place piece) ≡ drop place piece = take_all (length piece - place) (drop place piece) (omega arith) in
    let took_is : took ≡ taken old (drop place piece) = fed_so.took_is ∙ ap (taken old) rest in
    let after : new ≡ fed old (drop place piece) = fed_so.after ∙ ap (fed old) rest in
    ap (run t) (take-add place took piece)
    ∙ run-append t (take place piece) (take took (drop place piece))
    ∙ ap (λ u. run u (take took (drop place piece))) ran
    ∙ ap (λ n. run (at rs old) (take n (drop place piece))) took_is
    ∙ run-taken rs old (drop place piece) more
    ∙ ap (brought rs) (sym after)
