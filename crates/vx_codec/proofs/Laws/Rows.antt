-- Rows: what is spelled is read again, and what is read is spelled.
use Rattle.std.proofs.Common.{◌≡◌, ℕ, ◌%◌, List, [], ◌∷◌, ◌++◌, Option, Some, None, Result, Ok, Err, refl, sym, ap, subst, ◌∙◌, append_assoc, append-nil, arith, length}
use Rattle.std.proofs.Math.Nat.{mod-eq_of_lt}
use Rattle.std.specs.Option.{option_map, option_and_then}
use Rattle.std.specs.Result.{result_ok}
use Rattle.std.proofs.lemmas.List.{append_cancel_right, length-append}
use Rattle.std.proofs.lemmas.Option.{same_Some}
use Rattle.vx_lemmas.proofs.Laws.Options.{gone_on, mapped}
use Rattle.vx_xdr.specs.declared.fault.XdrErr.{XdrErr}
use Rattle.vx_xdr.specs.Spelling.{Kind, Word, Value, AreBytes, Spells, spelling, word}
use Rattle.vx_xdr.specs.Reading.{reading, word_at}
use Rattle.vx_xdr.proofs.Laws.{Spells-spelling, Spells-fits, spelling-spells, reading-again, reading-takes}
use Rattle.vx_codec.specs.Row.{FieldKind, Whole, LowByte, Content, Contents, SpellsField, SpellsRow, AreWhole, FieldFits, RowFits, field_spelling, row_spelling, low_byte, field_at, row_at, whole}

-- ---- what is spelled is read again

spelled-again : (kind : Kind) (value : Value kind) (bytes rest : List ℕ) → Spells kind value bytes → reading kind (bytes ++ rest) ≡ Ok (value, rest)
spelled-again kind value bytes rest h =
    ap (λ (t : List ℕ). reading kind (t ++ rest)) (Spells-spelling kind value bytes h) ∙ reading-again kind value rest (Spells-fits kind value bytes h)

pub field-again : (field : FieldKind) (value : Content field) (bytes rest : List ℕ) → SpellsField field value bytes → field_at field (bytes ++ rest) ≡ Some (value, rest)
unfolding field_at
field-again (Whole kind) value bytes rest h = ap result_ok (spelled-again kind value bytes rest h)
field-again LowByte value bytes rest h =
    ap (λ (r : Result (ℕ × List ℕ) XdrErr). option_map low_byte (result_ok r)) (spelled-again Word h.0 bytes rest h.1) ∙ ap (λ (n : ℕ). Some (n, rest)) (sym h.2)

pub row-again : (row : List FieldKind) (values : Contents row) (bytes rest : List ℕ) → SpellsRow row values bytes → row_at row (bytes ++ rest) ≡ Some (values, rest)
row-again [] values bytes rest h = ap (λ (t : List ℕ). Some (tt, t ++ rest)) h
row-again (field ∷ row) values bytes rest h =
    let front = h.0 in
    let mid = h.1 in
    let regroup : bytes ++ rest ≡ front ++ (mid ++ rest) = ap (λ (t : List ℕ). t ++ rest) h.4 ∙ append_assoc front mid rest in
    let first = field-again field values.0 front (mid ++ rest) h.2 in
    let others = row-again row values.1 mid rest h.3 in
    let join : Content field × List ℕ → Option (Contents (field ∷ row) × List ℕ) = λ f. option_map (λ o. ((f.0, o.0), o.1)) (row_at row f.1) in
    ap (row_at (field ∷ row)) regroup ∙ ap (option_and_then join) first ∙ ap (λ (o : Option (Contents row × List ℕ)). option_map (λ o. ((values.0, o.0), o.1)) o) others

-- ---- what is written is spelled

pub field-written : (field : FieldKind) (value : Content field) → FieldFits field value → SpellsField field value (field_spelling field value)
field-written (Whole kind) value h = spelling-spells kind value h
field-written LowByte value h = (value, spelling-spells Word value (omega arith), sym (mod-eq_of_lt h))

pub row-written : (row : List FieldKind) (values : Contents row) → RowFits row values → SpellsRow row values (row_spelling row values)
row-written [] values h = refl
row-written (field ∷ []) values h = (field_spelling field values.0, [], field-written field values.0 h.0, refl, sym (append-nil (field_spelling field values.0)))
row-written (field ∷ next ∷ row) values h =
    (field_spelling field values.0, row_spelling (next ∷ row) values.1, field-written field values.0 h.0, row-written (next ∷ row) values.1 h.1, refl)

-- ---- what is read is spelled

-- a value was taken from the front
pub record TakesField (field : FieldKind) (value : Content field) (bytes rest : List ℕ) : Type 0 where
  pub front : List ℕ
  pub spells : SpellsField field value front
  pub parts : bytes ≡ front ++ rest
  pub rest_fits : AreBytes rest

ok_from_result_ok : {X : Type 0} (r : Result X XdrErr) (x : X) → result_ok r ≡ Some x → r ≡ Ok x
ok_from_result_ok (Ok y) x e = ap Ok (same_Some y x e)
ok_from_result_ok (Err d) x e = absurd cc

low_byte-from : (r : Result (ℕ × List ℕ) XdrErr) (x : ℕ × List ℕ) → option_map low_byte (result_ok r) ≡ Some x → (y : ℕ × List ℕ) × (r ≡ Ok y) × (low_byte y ≡ x)
low_byte-from (Ok y) x e = (y, refl, same_Some (low_byte y) x e)
low_byte-from (Err d) x e = absurd cc

pub field-takes : (field : FieldKind) (value : Content field) (bytes rest : List ℕ) → AreBytes bytes → field_at field bytes ≡ Some (value, rest) → TakesField field value bytes rest
unfolding field_at
field-takes (Whole kind) value bytes rest h e =
    let t = reading-takes kind value bytes rest h (ok_from_result_ok (reading kind bytes) (value, rest) e) in
    record { front = spelling kind value; spells = spelling-spells kind value t.fits; parts = t.parts; rest_fits = t.rest_fits }
field-takes LowByte value bytes rest h e =
    let found = low_byte-from (word_at bytes) (value, rest) e in
    let n = found.0.0 in
    let t = reading-takes Word n bytes found.0.1 h found.1 in
    let here : TakesField LowByte (n % 256) bytes found.0.1 = record { front = word n; spells = (n, spelling-spells Word n t.fits, refl); parts = t.parts; rest_fits = t.rest_fits } in
    subst (λ (p : ℕ × List ℕ). TakesField LowByte p.0 bytes p.1) found.2 here

-- the values of a row were taken from the front
pub record TakesRow (row : List FieldKind) (values : Contents row) (bytes rest : List ℕ) : Type 0 where
  pub front : List ℕ
  pub spells : SpellsRow row values front
  pub parts : bytes ≡ front ++ rest
  pub rest_fits : AreBytes rest

pub row-takes : (row : List FieldKind) (values : Contents row) (bytes rest : List ℕ) → AreBytes bytes → row_at row bytes ≡ Some (values, rest) → TakesRow row values bytes rest
row-takes [] values bytes rest h e =
    let same : bytes ≡ rest = ap (λ (p : Unit {0} × List ℕ). p.1) (same_Some (tt, bytes) (values, rest) e) in
    record { front = []; spells = refl; parts = same; rest_fits = subst AreBytes same h }
row-takes (field ∷ row) values bytes rest h e =
    let join : Content field × List ℕ → Option (Contents (field ∷ row) × List ℕ) = λ f. option_map (λ o. ((f.0, o.0), o.1)) (row_at row f.1) in
    let first = gone_on join (field_at field bytes) (values, rest) e in
    let x = first.0 in
    let second = mapped (λ (o : Contents row × List ℕ). ((x.0, o.0), o.1)) (row_at row x.1) (values, rest) first.2 in
    let o = second.0 in
    let t = field-takes field x.0 bytes x.1 h first.1 in
    let u = row-takes row o.0 x.1 o.1 t.rest_fits second.1 in
    let joined : bytes ≡ t.front ++ u.front ++ o.1 = t.parts ∙ ap (λ (z : List ℕ). t.front ++ z) u.parts ∙ sym (append_assoc t.front u.front o.1) in
    let here : TakesRow (field ∷ row) (x.0, o.0) bytes o.1 = record { front = t.front ++ u.front; spells = (t.front, u.front, t.spells, u.spells, refl); parts = joined; rest_fits = u.rest_fits } in
    subst (λ (p : Contents (field ∷ row) × List ℕ). TakesRow (field ∷ row) p.0 bytes p.1) second.2 here

-- ---- nothing is left behind

pub whole-from : {X : Type 0} (o : Option (X × List ℕ)) (x : X) → whole o ≡ Some x → o ≡ Some (x, [])
whole-from {X} None x e = absurd cc
whole-from {X} (Some (y, [])) x e = ap (λ (z : X). Some (z, [])) (same_Some y x e)
whole-from {X} (Some (y, b ∷ bytes)) x e = absurd cc

-- what a row spells, all of the bytes, seen by `view`
abbrev pub row_whole : {X : Type 0} (row : List FieldKind) → (Contents row → X) → List ℕ → Option X
row_whole row view bytes = whole (option_map (λ found. (view found.0, found.1)) (row_at row bytes))

abbrev pub SpelledBy : {X : Type 0} (row : List FieldKind) → (Contents row → X) → X → List ℕ → Type 0
SpelledBy row view x bytes = (values : Contents row) × (x ≡ view values) × SpellsRow row values bytes

-- what is spelled is found
pub whole-again : {X : Type 0} (row : List FieldKind) (view : Contents row → X) (x : X) (bytes : List ℕ) → SpelledBy row view x bytes → row_whole row view bytes ≡ Some x
whole-again {X} row view x bytes h =
    let found = row-again row h.0 bytes [] h.2 in
    ap (row_whole row view) (sym (append-nil bytes)) ∙ ap (λ (o : Option (Contents row × List ℕ)). whole (option_map (λ found. (view found.0, found.1)) o)) found ∙ ap Some (sym h.1)

-- what is found is spelled
pub whole-takes : {X : Type 0} (row : List FieldKind) (view : Contents row → X) (x : X) (bytes : List ℕ) → AreBytes bytes → row_whole row view bytes ≡ Some x → SpelledBy row view x bytes
whole-takes {X} row view x bytes h e =
    let seen : Contents row × List ℕ → X × List ℕ = λ found. (view found.0, found.1) in
    let all = whole-from (option_map seen (row_at row bytes)) x e in
    let from = mapped seen (row_at row bytes) (x, []) all in
    let t = row-takes row from.0.0 bytes from.0.1 h from.1 in
    let end : from.0.1 ≡ [] = ap (λ (p : X × List ℕ). p.1) from.2 in
    let same : t.front ≡ bytes = sym (t.parts ∙ ap (λ (z : List ℕ). t.front ++ z) end ∙ append-nil t.front) in
    (from.0.0, sym (ap (λ (p : X × List ℕ). p.0) from.2), subst (SpellsRow row from.0.0) same t.spells)

-- where nothing is found, nothing is spelled
pub whole-none : {X : Type 0} (row : List FieldKind) (view : Contents row → X) (bytes : List ℕ) → row_whole row view bytes ≡ None → (x : X) → SpelledBy row view x bytes → ⊥
whole-none {X} row view bytes e x h = let found = whole-again row view x bytes h in cc

-- what is written is found
pub whole-written : {X : Type 0} (row : List FieldKind) (view : Contents row → X) (values : Contents row) → RowFits row values → row_whole row view (row_spelling row values) ≡ Some (view values)
whole-written {X} row view values h = whole-again row view (view values) (row_spelling row values) (values, refl, row-written row values h)

-- with bytes left behind it nothing is whole
pub whole-more : {X : Type 0} (x : X) (rest : List ℕ) → (rest ≡ [] → ⊥) → whole (Some (x, rest)) ≡ None
whole-more {X} x [] h = absurd (h refl)
whole-more {X} x (b ∷ rest) h = refl

-- a field takes as many bytes as it is written in
length-field : (field : FieldKind) (value : Content field) (bytes : List ℕ) → SpellsField field value bytes → length bytes ≡ length (field_spelling field value)
length-field (Whole kind) value bytes h = ap length (Spells-spelling kind value bytes h)
length-field LowByte value bytes h = h.1.four

-- so does a row
pub length-row : (row : List FieldKind) (values : Contents row) (bytes : List ℕ) → SpellsRow row values bytes → length bytes ≡ length (row_spelling row values)
length-row [] values bytes h = ap length h
length-row (field ∷ []) values bytes h =
    let first = length-field field values.0 h.0 h.2 in
    omega (arith, ap length h.4, ap length h.3, length-append h.0 h.1)
length-row (field ∷ next ∷ row) values bytes h =
    let first = length-field field values.0 h.0 h.2 in
    let others = length-row (next ∷ row) values.1 h.1 h.3 in
    omega (arith, ap length h.4, length-append h.0 h.1, length-append (field_spelling field values.0) (row_spelling (next ∷ row) values.1))

-- a row of whole fields has one spelling
row-spelling : (row : List FieldKind) (values : Contents row) (bytes : List ℕ) → AreWhole row → SpellsRow row values bytes → bytes ≡ row_spelling row values
row-spelling [] values bytes w h = h
row-spelling (Whole kind ∷ []) values bytes w h =
    h.4 ∙ ap (λ (t : List ℕ). h.0 ++ t) h.3 ∙ append-nil h.0 ∙ Spells-spelling kind values.0 h.0 h.2
row-spelling (Whole kind ∷ next ∷ row) values bytes w h =
    h.4 ∙ ap (λ (t : List ℕ). h.0 ++ t) (row-spelling (next ∷ row) values.1 h.1 w h.3) ∙ ap (λ (t : List ℕ). t ++ row_spelling (next ∷ row) values.1) (Spells-spelling kind values.0 h.0 h.2)
row-spelling (LowByte ∷ row) values bytes w h = absurd w

pub row-once : (row : List FieldKind) (values : Contents row) (a b : List ℕ) → AreWhole row → SpellsRow row values a → SpellsRow row values b → a ≡ b
row-once row values a b w h k = row-spelling row values a w h ∙ sym (row-spelling row values b w k)

-- no spelling of a row begins another
pub row-prefix : (row : List FieldKind) (v w : Contents row) (a b x y : List ℕ) → SpellsRow row v a → SpellsRow row w b → a ++ x ≡ b ++ y → (a ≡ b) × (v ≡ w) × (x ≡ y)
row-prefix row v w a b x y h k e =
    let same = same_Some (v, x) (w, y) (sym (row-again row v a x h) ∙ ap (row_at row) e ∙ row-again row w b y k) in
    let rest : x ≡ y = ap (λ (p : Contents row × List ℕ). p.1) same in
    let joined : a ++ y ≡ b ++ y = ap (λ (t : List ℕ). a ++ t) (sym rest) ∙ e in
    (append_cancel_right a b y joined, ap (λ (p : Contents row × List ℕ). p.0) same, rest)
