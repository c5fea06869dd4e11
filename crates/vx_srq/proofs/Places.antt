-- Where an enable is put, among links that rise.
use Rattle.std.proofs.Common.{◌≡◌, ℕ, suc, nat_lt, ◌+◌, ◌<◌, ◌==◌, not, Bool, true, false, cond, List, [], ◌∷◌, map, filter, length, Some, None, refl, sym, ap, ◌∙◌, arith}
use Rattle.std.specs.Prelude.{unwrap_or}
use Rattle.std.specs.List.{All, insert, position, position_or_len}
use Rattle.std.proofs.lemmas.Bool.Decides.{nat_tests}
use Rattle.std.proofs.lemmas.Bool.{lt-ltb}
use Rattle.std.proofs.lemmas.List.Elements.{All-cons, All-tail, All-weaker}
use Rattle.std.proofs.lemmas.List.Sums.{prefix_len-le-length}
use Rattle.vx_lemmas.proofs.Laws.Filters.{pairs_head, pairs_tail}
use Rattle.vx_srq.specs.declared.enables.EnableRow.{EnableRow}
use Rattle.vx_rules.specs.SrqState.{Enable, LinksRise, enable_put}
use Rattle.vx_rules.proofs.Laws.Rising.{Precedes}
use Rattle.vx_srq.specs.Shown.{enable_shown}

-- the first place that passes, or the length
pub first_or_len : {X : Type 0} (p : X → Bool) (xs : List X) → unwrap_or (position p xs) (length xs) ≡ position_or_len p xs
first_or_len p xs = at (nat_lt (position_or_len p xs) (length xs)) refl
  where
    at : (b : Bool) → nat_lt (position_or_len p xs) (length xs) ≡ b → unwrap_or (cond b (Some (position_or_len p xs)) None) (length xs) ≡ position_or_len p xs
    at true e = refl
    at false e = let le = prefix_len-le-length (λ x. not (p x)) xs in grind (arith, nat_tests, le, e)

-- nothing is left out of rows whose links are all above
filter_above : (lid : ℕ) (rows : List EnableRow) → All (λ e. lid < e.link) (map enable_shown rows) → filter (λ r. not (r.lid == lid)) rows ≡ rows
filter_above lid [] above = refl
filter_above lid (r ∷ rows) above =
    let other : (r.lid == lid) ≡ false = let h : lid < r.lid = above 0 (enable_shown r) (omega arith) in grind (arith, nat_tests, h) in
    ap (λ b. cond (not b) (r ∷ filter (λ s. not (s.lid == lid)) rows) (filter (λ s. not (s.lid == lid)) rows)) other
    ∙ ap (λ rs. r ∷ rs) (filter_above lid rows (All-tail (λ e. lid < e.link) (enable_shown r) (map enable_shown rows) above))

-- the rows with one put where the first greater link stands
abbrev put_in : EnableRow → List EnableRow → List EnableRow
put_in row rows = insert rows (position_or_len (λ r. nat_lt row.lid r.lid) rows) row

-- before links that are all above it goes first
put_first : (row : EnableRow) (rows : List EnableRow) → All (λ e. row.lid < e.link) (map enable_shown rows) → put_in row rows ≡ row ∷ rows
put_first row [] above = refl
put_first row (r ∷ rows) above =
    let less : nat_lt row.lid r.lid ≡ true = lt-ltb row.lid r.lid (above 0 (enable_shown r) (omega arith)) in
    ap (λ b. insert (r ∷ rows) (cond (not b) (1 + position_or_len (λ s. nat_lt row.lid s.lid) rows) 0) row) less

-- behind a link that isn't above it goes into the rest
put_behind : (row r : EnableRow) (rows : List EnableRow) → nat_lt row.lid r.lid ≡ false → put_in row (r ∷ rows) ≡ r ∷ put_in row rows
put_behind row r rows e =
    let k = position_or_len (λ s. nat_lt row.lid s.lid) rows in
    let next : 1 + k ≡ suc k = omega arith in
    ap (λ b. insert (r ∷ rows) (cond (not b) (1 + k) 0) row) e ∙ ap (λ n. insert (r ∷ rows) n row) next

-- the link's earlier row left out, and the new one put
pub placed : (rows : List EnableRow) (row : EnableRow) → LinksRise (map enable_shown rows)
    → map enable_shown (put_in row (filter (λ r. not (r.lid == row.lid)) rows)) ≡ enable_put (enable_shown row) (map enable_shown rows)
placed [] row rise = refl
placed (r ∷ rows) row rise = at (nat_lt row.lid r.lid) refl (row.lid == r.lid) refl (placed rows row (pairs_tail Precedes (enable_shown r) (map enable_shown rows) rise))
  where
    e : Enable
    e = enable_shown row

    f : Enable
    f = enable_shown r

    fs : List Enable
    fs = map enable_shown rows

    left : List EnableRow
    left = filter (λ s. not (s.lid == row.lid)) rows

    behind : All (λ g. f.link < g.link) fs
    behind = pairs_head Precedes f fs rise

    Goal : Type 0
    Goal = map enable_shown (put_in row (filter (λ s. not (s.lid == row.lid)) (r ∷ rows))) ≡ enable_put e (f ∷ fs)

    chosen : (less same : Bool) → nat_lt row.lid r.lid ≡ less → (row.lid == r.lid) ≡ same
        → enable_put e (f ∷ fs) ≡ cond less (e ∷ f ∷ fs) (cond same (e ∷ fs) (f ∷ enable_put e fs))
    chosen less same l s = ap (λ b. cond b (e ∷ f ∷ fs) (cond (row.lid == r.lid) (e ∷ fs) (f ∷ enable_put e fs))) l ∙ ap (λ b. cond less (e ∷ f ∷ fs) (cond b (e ∷ fs) (f ∷ enable_put e fs))) s

    at : (less : Bool) → nat_lt row.lid r.lid ≡ less → (same : Bool) → (row.lid == r.lid) ≡ same
        → map enable_shown (put_in row left) ≡ enable_put e fs → Goal
    at true l same s rest =
        let first : row.lid < r.lid = grind (arith, nat_tests, l) in
        let all : All (λ g. row.lid < g.link) (f ∷ fs) = All-cons (λ g. row.lid < g.link) f fs first (All-weaker (λ g. f.link < g.link) (λ g. row.lid < g.link) (λ g h. omega (arith, h, first)) fs behind) in
        ap (λ rs. map enable_shown (put_in row rs)) (filter_above row.lid (r ∷ rows) all) ∙ ap (map enable_shown) (put_first row (r ∷ rows) all) ∙ sym (chosen true same l s)
    at false l true s rest =
        let eq : row.lid ≡ r.lid = grind (arith, nat_tests, s) in
        let dropped : (r.lid == row.lid) ≡ true = grind (arith, nat_tests, eq) in
        let all : All (λ g. row.lid < g.link) fs = All-weaker (λ g. f.link < g.link) (λ g. row.lid < g.link) (λ g h. omega (arith, h, eq)) fs behind in
        ap (λ b. map enable_shown (put_in row (cond (not b) (r ∷ left) left))) dropped
        ∙ ap (λ rs. map enable_shown (put_in row rs)) (filter_above row.lid rows all) ∙ ap (map enable_shown) (put_first row rows all) ∙ sym (chosen false true l s)
    at false l false s rest =
        let kept : (r.lid == row.lid) ≡ false = grind (arith, nat_tests, s) in
        ap (λ b. map enable_shown (put_in row (cond (not b) (r ∷ left) left))) kept
        ∙ ap (map enable_shown) (put_behind row r left l) ∙ ap (λ gs. f ∷ gs) rest ∙ sym (chosen false false l s)

-- what `put` leaves
pub put_is : (old left new : List EnableRow) (row : EnableRow) (place : ℕ) → LinksRise (map enable_shown old) → left ≡ filter (λ r. not (r.lid == row.lid)) old
    → place ≡ unwrap_or (position (λ r. nat_lt row.lid r.lid) left) (length left) → new ≡ insert left place row
    → map enable_shown new ≡ enable_put (enable_shown row) (map enable_shown old)
put_is old left new row place rise kept here inserted =
    ap (map enable_shown) inserted
    ∙ ap (λ n. map enable_shown (insert left n row)) (here ∙ first_or_len (λ r. nat_lt row.lid r.lid) left)
    ∙ ap (λ rs. map enable_shown (put_in row rs)) kept
    ∙ placed old row rise
