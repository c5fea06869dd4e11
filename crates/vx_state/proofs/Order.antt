-- The connections stand in order of their numbers.
use Rattle.std.proofs.Common.{◌≡◌, ◌==◌, ◌<◌, ◌+◌, ℕ, Bool, true, false, cond, not, List, [], ◌∷◌, ◌++◌, map, Option, refl, sym, ap, subst, ◌∙◌, arith}
use Rattle.std.specs.List.{filter, AllPairs}
use Rattle.std.proofs.lemmas.List.{map-append, get_or-map, length-map}
use Rattle.std.proofs.lemmas.List.Elements.{All-push, All-filter}
use Rattle.std.proofs.lemmas.List.Kept.{AllPairs-filter}
use Rattle.std.proofs.lemmas.List.Quantifiers.{all_pairs_push}
use Rattle.std.proofs.lemmas.Simd.{map-map}
use Rattle.vx_lemmas.proofs.Laws.Lists.{filter-map}
use Rattle.vx_rules.specs.Lists.{update_first}
use Rattle.vx_rules.specs.State.{Pending, Connection}
use Rattle.vx_rules.specs.AtomicStep.{mark_on}
use Rattle.vx_links.proofs.Laws.Places.{Rising}
use Rattle.vx_state.specs.declared.tables.rows.Row.{Row}
use Rattle.vx_state.specs.declared.tables.Tables.TheInside.{Inside}
use Rattle.vx_state.specs.Rows.{connection_of}
use Rattle.vx_state.specs.Inside.{numbers_of, AreGiven, IsKept}

-- rows whose connections stand in order of number stand so themselves
rows_rise : (rows : List Row) → AllPairs (λ a b. a < b) (numbers_of (map connection_of rows)) → Rising (λ r. r.number) rows
rows_rise rows rising i j d before h =
    let long = length-map rows (λ (r : Row). r.number) in
    let near = get_or-map (λ (r : Row). r.number) rows i d d.number (omega arith) in
    let far = get_or-map (λ (r : Row). r.number) rows j d d.number h in
    let up = subst (AllPairs (λ a b. a < b)) (map-map (λ (c : Connection). c.number) connection_of rows) rising in
    omega (arith, near, far, up i j d.number before (omega arith))

-- the rows of tables stand in order of number
pub rows_rising : (inside : Inside) (rows : List Row) → rows ≡ inside.rows.items → IsKept inside → Rising (λ r. r.number) rows
rows_rising inside rows here kept = subst (Rising (λ r. r.number)) (sym here) (rows_rise inside.rows.items kept.ordered.rising)

-- a connection keeps its number with another call
numbers-call : (q : Connection → Bool) (p : Option Pending) (cs : List Connection) → numbers_of (update_first q (λ c. record c { pending = p }) cs) ≡ numbers_of cs
numbers-call q p [] = refl
numbers-call q p (c ∷ cs) =
    elim (q c) as (λ b. numbers_of (cond b (record c { pending = p } ∷ cs) (c ∷ update_first q (λ k. record k { pending = p }) cs)) ≡ c.number ∷ numbers_of cs) [
      | true ↦ refl
      | false ↦ ap (λ ns. c.number ∷ ns) (numbers-call q p cs)
    ]

-- and with a mark
numbers-marked : (lid : ℕ) (cs : List Connection) → numbers_of (map (mark_on lid) cs) ≡ numbers_of cs
numbers-marked lid [] = refl
numbers-marked lid (c ∷ cs) = ap (λ ns. c.number ∷ ns) (numbers-marked lid cs)

-- connections with the numbers of others stand in order as those do
given_same : (now : List Connection) (read rows : List Row) (next : ℕ) → numbers_of now ≡ numbers_of (map connection_of read) → read ≡ rows
    → AreGiven (numbers_of (map connection_of rows)) next → AreGiven (numbers_of now) next
given_same now read rows next same here given =
    subst (λ ns. AreGiven ns next) (sym (same ∙ ap (λ rs. numbers_of (map connection_of rs)) here)) given

-- where the call of one of them is another
pub given_call : (q : Connection → Bool) (p : Option Pending) (now : List Connection) (read rows : List Row) (next : ℕ)
    → now ≡ update_first q (λ c. record c { pending = p }) (map connection_of read) → read ≡ rows
    → AreGiven (numbers_of (map connection_of rows)) next → AreGiven (numbers_of now) next
given_call q p now read rows next changed here given =
    given_same now read rows next (ap numbers_of changed ∙ numbers-call q p (map connection_of read)) here given

-- where calls are marked
pub given_marked : (lid : ℕ) (now : List Connection) (read rows : List Row) (next : ℕ) → now ≡ map (mark_on lid) (map connection_of read) → read ≡ rows
    → AreGiven (numbers_of (map connection_of rows)) next → AreGiven (numbers_of now) next
given_marked lid now read rows next changed here given =
    given_same now read rows next (ap numbers_of changed ∙ numbers-marked lid (map connection_of read)) here given

-- where one goes
pub given_left : (conn : ℕ) (now cs : List Connection) (next : ℕ) → now ≡ filter (λ c. not (c.number == conn)) cs
    → AreGiven (numbers_of cs) next → AreGiven (numbers_of now) next
given_left conn now cs next left given =
    subst (λ ns. AreGiven ns next) (sym (ap numbers_of left ∙ filter-map (λ (c : Connection). c.number) (λ n. not (n == conn)) cs))
    (record {
      rising = AllPairs-filter (λ a b. a < b) (λ n. not (n == conn)) (numbers_of cs) given.rising;
      given = All-filter (λ n. not (n == conn)) (λ n. n < next) (numbers_of cs) given.given;
    })

-- where one comes, with the next number
pub given_more : (c : Connection) (now cs : List Connection) → now ≡ cs ++ c ∷ [] → AreGiven (numbers_of cs) c.number
    → AreGiven (numbers_of now) (c.number + 1)
given_more c now cs added given =
    subst (λ ns. AreGiven ns (c.number + 1)) (sym (ap numbers_of added ∙ map-append (λ (k : Connection). k.number) cs (c ∷ [])))
    (record {
      rising = all_pairs_push (λ a b. a < b) (numbers_of cs) c.number given.rising (λ k d h. given.given k d h);
      given = All-push (λ n. n < c.number + 1) (numbers_of cs) c.number (λ k d h. let below = given.given k d h in omega arith) (omega arith);
    })
