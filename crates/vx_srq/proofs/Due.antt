-- The handles of a connection's enabled links, row by row.
use Rattle.std.proofs.Common.{◌≡◌, ℕ, nat_le, ◌+◌, ◌<◌, ◌≤◌, ◌==◌, ◌&&◌, Bool, true, false, cond, List, [], ◌∷◌, ◌++◌, map, filter, length, take, drop, get_or, refl, sym, ap, eq-eqb, ◌∙◌, arith}
use Rattle.std.proofs.lemmas.List.{map-append, take_more, take-append-drop, length-append, length-map}
use Rattle.std.proofs.lemmas.Bool.Decides.{nat_tests}
use Rattle.std.proofs.lemmas.List.Elements.{filter-append}
use Rattle.vx_calls.specs.declared.calls.Handle.{Handle}
use Rattle.vx_srq.specs.declared.enables.EnableRow.{EnableRow}
use Rattle.vx_rules.specs.declared.limits.TheConstants.{OUTBOX_MAX}
use Rattle.vx_rules.specs.SrqState.{Enable, handles_of}
use Rattle.vx_srq.specs.Shown.{enable_shown, handle_shown}

-- the handles that these rows give to a connection
abbrev pub due : List EnableRow → ℕ → List (List ℕ)
due rows conn = handles_of (map enable_shown rows) conn

-- of rows behind one another they stand behind one another
pub due-append : (rows more : List EnableRow) (conn : ℕ) → due (rows ++ more) conn ≡ due rows conn ++ due more conn
due-append rows more conn =
    let test : Enable → Bool = λ e. e.on && (e.connection == conn) in
    ap (λ es. handles_of es conn) (map-append enable_shown rows more)
    ∙ ap (map (λ e. e.handle)) (filter-append test (map enable_shown rows) (map enable_shown more))
    ∙ map-append (λ e. e.handle) (filter test (map enable_shown rows)) (filter test (map enable_shown more))

-- whether this row gives its handle to the connection
abbrev pub gives : EnableRow → ℕ → Bool
gives r conn = r.on && (r.conn == conn)

-- one row gives its handle or none
due_one : (r : EnableRow) (conn : ℕ) → due (r ∷ []) conn ≡ cond (gives r conn) (handle_shown r.handle ∷ []) []
due_one r conn =
    elim (gives r conn) as (λ b. map (λ (e : Enable). e.handle) (cond b (enable_shown r ∷ []) []) ≡ cond b (handle_shown r.handle ∷ []) []) [
      | true ↦ refl
      | false ↦ refl
    ]

-- one row more
pub due_more : (rows : List EnableRow) (conn i : ℕ) (r : EnableRow) → i < length rows → r ≡ get_or rows i r
    → due (take (i + 1) rows) conn ≡ due (take i rows) conn ++ cond (gives r conn) (handle_shown r.handle ∷ []) []
due_more rows conn i r within read =
    ap (λ rs. due rs conn) (take_more rows i r within ∙ ap (λ x. take i rows ++ x ∷ []) (sym read))
    ∙ due-append (take i rows) (r ∷ []) conn
    ∙ ap (λ hs. due (take i rows) conn ++ hs) (due_one r conn)

-- the first rows give no more than all
pub due_within : (rows : List EnableRow) (conn n : ℕ) → length (due (take n rows) conn) ≤ length (due rows conn)
due_within rows conn n =
    omega (
      arith,
      length-append (due (take n rows) conn) (due (drop n rows) conn),
      ap length (due-append (take n rows) (drop n rows) conn),
      ap (λ rs. length (due rs conn)) (take-append-drop n rows),
    )

-- where an outbox is full with the handles of the first rows, and the next row gives one, all are too many
pub too_many : (waiting : List Handle) (before : List (List ℕ)) (rows : List EnableRow) (conn i : ℕ) (r : EnableRow) → i < length rows → r ≡ get_or rows i r
    → r.on ≡ true → r.conn ≡ conn → map handle_shown waiting ≡ before ++ due (take i rows) conn → OUTBOX_MAX ≤ length waiting
    → nat_le (length (before ++ due rows conn)) OUTBOX_MAX ≡ false
too_many waiting before rows conn i r within read on owned queued full =
    let gives_it : gives r conn ≡ true = ap (λ b. b && (r.conn == conn)) on ∙ eq-eqb r.conn conn owned in
    let one_more : due (take (i + 1) rows) conn ≡ due (take i rows) conn ++ handle_shown r.handle ∷ [] =
    due_more rows conn i r within read ∙ ap (λ b. due (take i rows) conn ++ cond b (handle_shown r.handle ∷ []) []) gives_it in
    let above : OUTBOX_MAX < length (before ++ due rows conn) =
    omega (
      arith,
      length-map waiting handle_shown,
      ap length queued,
      length-append before (due (take i rows) conn),
      ap length one_more,
      length-append (due (take i rows) conn) (handle_shown r.handle ∷ []),
      due_within rows conn (i + 1),
      length-append before (due rows conn),
      full,
    ) in
    grind (arith, nat_tests, above)
