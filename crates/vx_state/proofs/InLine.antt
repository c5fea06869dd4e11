-- Calls that stand in line before another.
use Rattle.std.proofs.Common.{◌≡◌, ◌≢◌, ◌==◌, ◌<◌, ◌≤◌, ◌+◌, ℕ, suc, Bool, true, false, cond, List, [], ◌∷◌, length, drop, get_or, filter, Option, Some, None, refl, sym, ap, ◌∙◌, eq-eqb, add-one}
use Rattle.std.proofs.lemmas.List.{drop_all}
use Rattle.std.proofs.Math.Seq.{drop-cons}
use Rattle.std.proofs.lemmas.Bool.{ne_eqb}
use Rattle.vx_rules.specs.Lines.{came_before, first_of}

-- the first of those that came before the connection's call and pass
abbrev pub first_passing : (ℕ → Bool) → ℕ → List ℕ → Option ℕ
first_passing p conn ns = first_of (filter p (came_before ns conn))

-- at this place the search goes on in what is left
pub record GoesOn (p : ℕ → Bool) (conn : ℕ) (ns : List ℕ) (i : ℕ) : Type 0 where
  pub rest : first_passing p conn ns ≡ first_passing p conn (drop i ns)

-- by the head of a list and the tests of it
head_by : (p : ℕ → Bool) (conn n : ℕ) (ns : List ℕ) (same stands : Bool) → (n == conn) ≡ same → p n ≡ stands
    → first_passing p conn (n ∷ ns) ≡ cond same None (cond stands (Some n) (first_passing p conn ns))
head_by p conn n ns true stands e h = ap (λ b. first_of (filter p (cond b [] (n ∷ came_before ns conn)))) e
head_by p conn n ns false true e h =
    ap (λ b. first_of (filter p (cond b [] (n ∷ came_before ns conn)))) e ∙ ap (λ b. first_of (cond b (n ∷ filter p (came_before ns conn)) (filter p (came_before ns conn)))) h
head_by p conn n ns false false e h =
    ap (λ b. first_of (filter p (cond b [] (n ∷ came_before ns conn)))) e ∙ ap (λ b. first_of (cond b (n ∷ filter p (came_before ns conn)) (filter p (came_before ns conn)))) h

-- what is found at a place
at_place : (p : ℕ → Bool) (conn : ℕ) (ns : List ℕ) (i : ℕ) (same stands : Bool) → i < length ns → GoesOn p conn ns i → (get_or ns i 0 == conn) ≡ same → p (get_or ns i 0) ≡ stands
    → first_passing p conn ns ≡ cond same None (cond stands (Some (get_or ns i 0)) (first_passing p conn (drop (suc i) ns)))
at_place p conn ns i same stands within goes e h =
    goes.rest ∙ ap (first_passing p conn) (drop-cons ns i 0 within) ∙ head_by p conn (get_or ns i 0) (drop (suc i) ns) same stands e h

pub goes_on : (p : ℕ → Bool) (conn : ℕ) (ns : List ℕ) (i : ℕ) → i < length ns → GoesOn p conn ns i → (get_or ns i 0 ≢ conn) → p (get_or ns i 0) ≡ false → GoesOn p conn ns (i + 1)
goes_on p conn ns i within goes other h =
    record { rest = at_place p conn ns i false false within goes (ne_eqb (get_or ns i 0) conn other) h ∙ ap (λ k. first_passing p conn (drop k ns)) (sym (add-one i)) }

pub own_found : (p : ℕ → Bool) (conn : ℕ) (ns : List ℕ) (i : ℕ) → i < length ns → GoesOn p conn ns i → get_or ns i 0 ≡ conn → None ≡ first_passing p conn ns
own_found p conn ns i within goes same = sym (at_place p conn ns i true (p (get_or ns i 0)) within goes (eq-eqb (get_or ns i 0) conn same) refl)

pub one_found : (p : ℕ → Bool) (conn : ℕ) (ns : List ℕ) (i : ℕ) → i < length ns → GoesOn p conn ns i → (get_or ns i 0 ≢ conn) → p (get_or ns i 0) ≡ true
    → Some (get_or ns i 0) ≡ first_passing p conn ns
one_found p conn ns i within goes other h = sym (at_place p conn ns i false true within goes (ne_eqb (get_or ns i 0) conn other) h)

pub none_found : (p : ℕ → Bool) (conn : ℕ) (ns : List ℕ) (i : ℕ) → length ns ≤ i → GoesOn p conn ns i → None ≡ first_passing p conn ns
none_found p conn ns i all goes = sym (goes.rest ∙ ap (first_passing p conn) (drop_all i ns all))
