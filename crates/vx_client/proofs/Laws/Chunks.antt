-- Pieces of bytes, and calls for them in turn.
use Rattle.std.proofs.Common.{◌≡◌, ℕ, zero, suc, ◌-◌, ◌≤◌, ◌<◌, nat_lt, if◌then◌else◌, Bool, true, false, List, [], ◌∷◌, length, take, drop, Result, Ok, Err, refl, ap, sym, ◌∙◌, subst, arith, length-drop}
use Rattle.std.proofs.lemmas.List.{take_all}
use Rattle.std.proofs.lemmas.Bool.Decides.{nat_tests}
use Rattle.vx_client.specs.Chunks.{pieces, chunks, InTurn}

-- a choice that is known
chosen : {A : Type 0} (b : Bool) (x y : A) → b ≡ true → (if b then x else y) ≡ x
chosen b x y e = ap (λ t. if t then x else y) e

unchosen : {A : Type 0} (b : Bool) (x y : A) → b ≡ false → (if b then x else y) ≡ y
unchosen b x y e = ap (λ t. if t then x else y) e

short-test : (n m : ℕ) → m ≤ n → nat_lt n m ≡ false
short-test n m h = grind (arith, nat_tests)

long-test : (n m : ℕ) → n < m → nat_lt n m ≡ true
long-test n m h = grind (arith, nat_tests)

-- what fits one piece is one
pieces-last : (more n : ℕ) (bytes : List ℕ) → length bytes ≤ n → pieces more n bytes ≡ bytes ∷ []
pieces-last zero n bytes h = refl
pieces-last (suc more) n bytes h = unchosen (nat_lt n (length bytes)) (take n bytes ∷ pieces more n (drop n bytes)) (bytes ∷ []) (short-test n (length bytes) h)

-- more than that is a piece and the pieces behind it
pieces-more : (more n : ℕ) (bytes : List ℕ) → n < length bytes → pieces (suc more) n bytes ≡ take n bytes ∷ pieces more n (drop n bytes)
pieces-more more n bytes h = chosen (nat_lt n (length bytes)) (take n bytes ∷ pieces more n (drop n bytes)) (bytes ∷ []) (long-test n (length bytes) h)

-- room for as many pieces as there are bytes is enough
pieces-any_at : (test : Bool) (a b n : ℕ) (bytes : List ℕ) → nat_lt n (length bytes) ≡ test → pieces a n (drop n bytes) ≡ pieces b n (drop n bytes)
    → pieces (suc a) n bytes ≡ pieces (suc b) n bytes
pieces-any_at true a b n bytes e rest =
    chosen (nat_lt n (length bytes)) (take n bytes ∷ pieces a n (drop n bytes)) (bytes ∷ []) e ∙ ap (λ ps. take n bytes ∷ ps) rest
    ∙ sym (chosen (nat_lt n (length bytes)) (take n bytes ∷ pieces b n (drop n bytes)) (bytes ∷ []) e)
pieces-any_at false a b n bytes e rest =
    unchosen (nat_lt n (length bytes)) (take n bytes ∷ pieces a n (drop n bytes)) (bytes ∷ []) e
    ∙ sym (unchosen (nat_lt n (length bytes)) (take n bytes ∷ pieces b n (drop n bytes)) (bytes ∷ []) e)

pieces-any : (a b n : ℕ) (bytes : List ℕ) → 1 ≤ n → length bytes ≤ a → length bytes ≤ b → pieces a n bytes ≡ pieces b n bytes
pieces-any zero b n bytes some ha hb = sym (pieces-last b n bytes (omega arith))
pieces-any (suc a) zero n bytes some ha hb = pieces-last (suc a) n bytes (omega arith)
pieces-any (suc a) (suc b) n bytes some ha hb =
    let rest = length-drop n bytes in
    pieces-any_at (nat_lt n (length bytes)) a b n bytes refl (pieces-any a b n (drop n bytes) some (omega arith) (omega arith))

pub chunks-last : (n : ℕ) (bytes : List ℕ) → length bytes ≤ n → chunks n bytes ≡ bytes ∷ []
chunks-last n bytes h = pieces-last (length bytes) n bytes h

chunks_more-at : (len n : ℕ) (bytes : List ℕ) → length bytes ≡ len → 1 ≤ n → n < len → pieces len n bytes ≡ take n bytes ∷ chunks n (drop n bytes)
chunks_more-at zero n bytes e some h = absurd (omega arith)
chunks_more-at (suc len) n bytes e some h =
    let rest = length-drop n bytes in
    pieces-more len n bytes (omega arith) ∙ ap (λ ps. take n bytes ∷ ps) (pieces-any len (length (drop n bytes)) n (drop n bytes) some (omega arith) (omega arith))

pub chunks-more : (n : ℕ) (bytes : List ℕ) → 1 ≤ n → n < length bytes → chunks n bytes ≡ take n bytes ∷ chunks n (drop n bytes)
chunks-more n bytes some h = chunks_more-at (length bytes) n bytes refl some h

-- there is a piece
abbrev pub HasPiece : List (List ℕ) → Type 0
HasPiece [] = ⊥
HasPiece (piece ∷ others) = Unit {0}

has_piece-at : (test : Bool) (x y : List ℕ) (xs ys : List (List ℕ)) → HasPiece (if test then x ∷ xs else (y ∷ ys))
has_piece-at true x y xs ys = tt
has_piece-at false x y xs ys = tt

pieces-some : (more n : ℕ) (bytes : List ℕ) → HasPiece (pieces more n bytes)
pieces-some zero n bytes = tt
pieces-some (suc more) n bytes = has_piece-at (nat_lt n (length bytes)) (take n bytes) bytes (pieces more n (drop n bytes)) []

pub chunks-some : (n : ℕ) (bytes : List ℕ) → HasPiece (chunks n bytes)
chunks-some n bytes = pieces-some (length bytes) n bytes

-- ---- calls in turn

-- what the calls for the pieces that are left come to is what those for all come to
pub record Leads {S E : Type 0} (Each Last : S → S → List ℕ → Result (Unit {0}) E → Type 0) (first now : S) (all rest : List (List ℕ)) : Type 0 where
  pub leads : (new : S) (result : Result (Unit {0}) E) → InTurn Each Last now new rest result → InTurn Each Last first new all result

-- at first all are left
pub leads-all : {S E : Type 0} (Each Last : S → S → List ℕ → Result (Unit {0}) E → Type 0) (s : S) (all : List (List ℕ)) → Leads Each Last s s all all
leads-all Each Last s all = record { leads = λ new result h. h }

next-turn : {S E : Type 0} (Each Last : S → S → List ℕ → Result (Unit {0}) E → Type 0) (old mid new : S) (piece : List ℕ) (rest : List (List ℕ)) (done : Unit {0})
    (result : Result (Unit {0}) E) → Each old mid piece (Ok done) → InTurn Each Last mid new rest result → InTurn Each Last old new (piece ∷ rest) result
next-turn Each Last old mid new piece [] done result each h = absurd h
next-turn Each Last old mid new piece (next ∷ others) done result each h = (mid, Ok done, each, h)

last-turn : {S E : Type 0} (Each Last : S → S → List ℕ → Result (Unit {0}) E → Type 0) (old new : S) (piece : List ℕ) (rest : List (List ℕ)) (e : E)
    → HasPiece rest → Each old new piece (Err e) → InTurn Each Last old new (piece ∷ rest) (Err e)
last-turn Each Last old new piece [] e some each = absurd some
last-turn Each Last old new piece (next ∷ others) e some each = (new, Err e, each, (refl, refl))

-- a call for the next piece
pub leads-on : {S E : Type 0} (Each Last : S → S → List ℕ → Result (Unit {0}) E → Type 0) (first now next : S) (all : List (List ℕ)) (n : ℕ) (rest later : List ℕ) (done : Unit {0})
    → 1 ≤ n → n < length rest → later ≡ take (length rest - n) (drop n rest) → Leads Each Last first now all (chunks n rest) → Each now next (take n rest) (Ok done)
    → Leads Each Last first next all (chunks n later)
leads-on Each Last first now next all n rest later done some more later_is so_far each =
    let len = length-drop n rest in
    let behind : later ≡ drop n rest = later_is ∙ take_all (length rest - n) (drop n rest) (omega arith) in
    record {
      leads = λ new result h.
          so_far.leads new result (subst (λ ps. InTurn Each Last now new ps result) (sym (chunks-more n rest some more))
          (next-turn Each Last now next new (take n rest) (chunks n (drop n rest)) done result each
          (subst (λ xs. InTurn Each Last next new (chunks n xs) result) behind h)));
    }

-- a call for it that failed
pub leads-failed : {S E : Type 0} (Each Last : S → S → List ℕ → Result (Unit {0}) E → Type 0) (first now new : S) (all : List (List ℕ)) (n : ℕ) (rest : List ℕ) (e : E)
    (result : Result (Unit {0}) E) → 1 ≤ n → n < length rest → Leads Each Last first now all (chunks n rest) → Each now new (take n rest) (Err e) → result ≡ Err e
    → InTurn Each Last first new all result
leads-failed Each Last first now new all n rest e result some more so_far each same =
    subst (InTurn Each Last first new all) (sym same) (
    so_far.leads new (Err e) (subst (λ ps. InTurn Each Last now new ps (Err e)) (sym (chunks-more n rest some more))
    (last-turn Each Last now new (take n rest) (chunks n (drop n rest)) e (chunks-some n (drop n rest)) each)))

-- a call for the last piece
pub leads-last : {S E : Type 0} (Each Last : S → S → List ℕ → Result (Unit {0}) E → Type 0) (first now new : S) (all : List (List ℕ)) (n : ℕ) (rest : List ℕ)
    (result : Result (Unit {0}) E) → length rest ≤ n → Leads Each Last first now all (chunks n rest) → Last now new rest result → InTurn Each Last first new all result
leads-last Each Last first now new all n rest result fits so_far last =
    so_far.leads new result (subst (λ ps. InTurn Each Last now new ps result) (sym (chunks-last n rest fits)) last)
