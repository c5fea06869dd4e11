-- The bytes of fields that are written one behind the other.
use Rattle.std.proofs.Common.{◌≡◌, ℕ, zero, suc, ◌+◌, ◌<◌, List, [], ◌∷◌, ◌++◌, length, take, drop, get_or, refl, sym, ap, ◌∙◌, append-nil, arith}
use Rattle.std.specs.List.{flat_map}
use Rattle.std.proofs.lemmas.List.{length-append, take_at, drop_at, drop-drop, drop_more, drop_all, take_more, flat_map_more}
use Rattle.vx_xdr.specs.Writing.{Writes, WritesFirst}
use Rattle.vx_codec.specs.declared.fields.Field.{Field}
use Rattle.vx_codec.specs.Text.{AreCounted, IsCounted, field_text, fields_text}

-- the bytes of the fields, each with what follows behind it
abbrev pub texts : List Field → List ℕ
texts fields = flat_map field_text fields

-- the two ways to join them give one list
pub fields_text-texts : (fields : List Field) → fields_text fields ≡ texts fields
fields_text-texts [] = refl
fields_text-texts (f ∷ []) = sym (append-nil (field_text f))
fields_text-texts (f ∷ g ∷ fields) = ap (λ (t : List ℕ). field_text f ++ t) (fields_text-texts (g ∷ fields))

-- each of counted fields is counted
pub AreCounted-at : (fields : List Field) (i : ℕ) (d : Field) → AreCounted fields → i < length fields → IsCounted (get_or fields i d)
AreCounted-at [] i d h lt = absurd (omega arith)
AreCounted-at (f ∷ fields) zero d h lt = h.0
AreCounted-at (f ∷ fields) (suc i) d h lt = AreCounted-at fields i d h.1 (omega arith)

-- how long a field and the fields behind it are
pub length-texts_at : (fields : List Field) (i : ℕ) (d : Field) → i < length fields → length (texts (drop i fields)) ≡ length (field_text (get_or fields i d)) + length (texts (drop (i + 1) fields))
length-texts_at fields i d lt =
    ap (λ (fs : List Field). length (texts fs)) (drop_more fields i d lt) ∙ length-append (field_text (get_or fields i d)) (texts (drop (i + 1) fields))

pub length-texts_end : (fields : List Field) → length (texts (drop (length fields) fields)) ≡ 0
length-texts_end fields = ap (λ (fs : List Field). length (texts fs)) (drop_all (length fields) fields (omega arith))

pub length-fields_text : (fields : List Field) → length (fields_text fields) ≡ length (texts fields)
length-fields_text fields = ap length (fields_text-texts fields)

-- the bytes of one field more
pub texts_more : (fields : List Field) (i : ℕ) (d : Field) → i < length fields → texts (take (i + 1) fields) ≡ texts (take i fields) ++ field_text (get_or fields i d)
texts_more fields i d lt = ap texts (take_more fields i d lt) ∙ sym (flat_map_more field_text [] (take i fields) (get_or fields i d))

-- a text behind what was written at the start
pub WritesFirst-then : (done text old cur new : List ℕ) (at end : ℕ) → WritesFirst done old at cur → Writes text at cur end new → WritesFirst (done ++ text) old end new
WritesFirst-then done text old cur new at end w h =
    let len : length done ≡ at = sym w.len in
    let ends : end ≡ length (done ++ text) = omega (arith, w.len, h.place, length-append done text) in
    let front : take at cur ≡ done = ap (take at) w.bytes ∙ take_at done (drop at old) at len in
    let behind : drop at cur ≡ drop at old = ap (drop at) w.bytes ∙ drop_at done (drop at old) at len in
    let rest : drop (at + length text) cur ≡ drop end old = sym (drop-drop (length text) at cur) ∙ ap (drop (length text)) behind ∙ drop-drop (length text) at old ∙ ap (λ (n : ℕ). drop n old) (sym h.place) in
    record { bytes = h.bytes ∙ ap (λ (f : List ℕ). f ++ text ++ drop (at + length text) cur) front ∙ ap (λ (r : List ℕ). done ++ text ++ r) rest; len = ends }

-- the fields up to a place and the fields behind it are all of them
pub length-texts_split : (fields : List Field) (i : ℕ) → length (texts fields) ≡ length (texts (take i fields)) + length (texts (drop i fields))
length-texts_split fields zero = omega arith
length-texts_split [] (suc i) = refl
length-texts_split (f ∷ fields) (suc i) =
    let e = length-texts_split fields i in
    omega (arith, length-append (field_text f) (texts fields), length-append (field_text f) (texts (take i fields)))
