-- The connections that pass a test are counted row by row.
use Rattle.std.proofs.Common.{◌≡◌, ℕ, ◌+◌, ◌<◌, ◌≤◌, Bool, true, false, cond, List, [], ◌∷◌, map, length, take, get_or, count_by, refl, sym, ap, ◌∙◌, arith}
use Rattle.std.specs.List.{fold}
use mir.Val.{bool_byte}
use Rattle.std.proofs.lemmas.List.{take_all}
use Rattle.std.proofs.lemmas.List.Sums.{count_by_more_yes, count_by_more_no}
use Rattle.vx_state.specs.declared.tables.rows.Row.{Row}
use Rattle.vx_rules.specs.State.{Connection}
use Rattle.vx_state.specs.Rows.{connection_of}

-- so many of the first rows show a connection that passes
pub record Counted (p : Connection → Bool) (rows : List Row) (i n : ℕ) : Type 0 where
  pub count : n ≡ count_by (λ r. p (connection_of r)) (take i rows)
  pub few : n ≤ i

-- one row more
pub counted_more : (p : Connection → Bool) (rows : List Row) (i n : ℕ) (r : Row) (b : Bool) (more : ℕ) → i < length rows → r ≡ get_or rows i r → b ≡ p (connection_of r) → more ≡ bool_byte b
    → Counted p rows i n → Counted p rows (i + 1) (n + more)
counted_more p rows i n r true more within here passes byte counted =
    let one : more ≡ 1 = byte in
    record {
      count = ap (λ k. n + k) one ∙ ap (λ k. k + 1) counted.count
          ∙ sym (count_by_more_yes (λ k. p (connection_of k)) rows i r within (ap (λ k. p (connection_of k)) (sym here) ∙ sym passes));
      few = omega (arith, counted.few, one);
    }
counted_more p rows i n r false more within here passes byte counted =
    let none : more ≡ 0 = byte in
    let same : n + more ≡ n = omega (arith, none) in
    record {
      count = same ∙ counted.count ∙ sym (count_by_more_no (λ k. p (connection_of k)) rows i r within (ap (λ k. p (connection_of k)) (sym here) ∙ sym passes));
      few = omega (arith, counted.few, none);
    }

-- what a fold makes of connections it makes of their rows
fold_rows : (F : ℕ → Connection → ℕ) (a : ℕ) (rows : List Row) → fold (λ b r. F b (connection_of r)) a rows ≡ fold F a (map connection_of rows)
fold_rows F a [] = refl
fold_rows F a (r ∷ rows) = fold_rows F (F a (connection_of r)) rows

-- all rows
pub counted_all : (p : Connection → Bool) (rows : List Row) (i n : ℕ) → length rows ≤ i → Counted p rows i n → n ≡ count_by p (map connection_of rows)
counted_all p rows i n all counted =
    counted.count ∙ ap (count_by (λ r. p (connection_of r))) (take_all i rows all) ∙ fold_rows (λ a c. a + cond (p c) 1 0) 0 rows
