-- To be believed.
-- Rows of fields: the arguments or the results of a procedure, one field behind the other (RFC 4506, section 4.14).
use Rattle.std.specs.Prelude.{◌≡◌, ℕ, ◌%◌, ◌<◌, List, [], ◌∷◌, ◌++◌, Option, Some, None, option_map}
use Rattle.std.specs.Option.{option_and_then}
use Rattle.std.specs.Result.{result_ok}
use Rattle.vx_xdr.specs.Spelling.{Kind, Value, IsWord, Spells, Fits, spelling, word}
use Rattle.vx_xdr.specs.Reading.{reading, word_at}

-- a field is a whole value of a kind, or the low eight bits of a word of any value
pub data FieldKind : Type 0 where
  Whole : Kind → FieldKind
  LowByte : FieldKind

-- what a field holds
abbrev pub Content : FieldKind → Type 0
Content (Whole kind) = Value kind
Content LowByte = ℕ

-- what the fields of a row hold
abbrev pub Contents : List FieldKind → Type 0
Contents [] = Unit {0}
Contents (field ∷ row) = Content field × Contents row

-- the bytes spell the field; what stands above the low byte isn't looked at
abbrev pub SpellsField : (field : FieldKind) → Content field → List ℕ → Type 0
SpellsField (Whole kind) value bytes = Spells kind value bytes
SpellsField LowByte value bytes = (n : ℕ) × IsWord n bytes × (value ≡ n % 256)

-- the bytes spell the fields, one behind the other
abbrev pub SpellsRow : (row : List FieldKind) → Contents row → List ℕ → Type 0
SpellsRow [] values bytes = bytes ≡ []
SpellsRow (field ∷ row) values bytes =
    (front : List ℕ) × (rest : List ℕ) × SpellsField field values.0 front × SpellsRow row values.1 rest × (bytes ≡ front ++ rest)

-- no field of the row keeps less than its word
abbrev pub AreWhole : List FieldKind → Type 0
AreWhole [] = Unit {0}
AreWhole (Whole kind ∷ row) = AreWhole row
AreWhole (LowByte ∷ row) = ⊥

-- what has a spelling
abbrev pub FieldFits : (field : FieldKind) → Content field → Type 0
FieldFits (Whole kind) value = Fits kind value
FieldFits LowByte value = value < 256

abbrev pub RowFits : (row : List FieldKind) → Contents row → Type 0
RowFits [] values = Unit {0}
RowFits (field ∷ row) values = FieldFits field values.0 × RowFits row values.1

-- the spelling of a field that is written; a low byte has zeros above it
abbrev pub field_spelling : (field : FieldKind) → Content field → List ℕ
field_spelling (Whole kind) value = spelling kind value
field_spelling LowByte value = word value

-- the spelling of a row that is written
abbrev pub row_spelling : (row : List FieldKind) → Contents row → List ℕ
row_spelling [] values = []
row_spelling (field ∷ []) values = field_spelling field values.0
row_spelling (field ∷ next ∷ row) values = field_spelling field values.0 ++ row_spelling (next ∷ row) values.1

-- the low eight bits of a word that was read
abbrev pub low_byte : ℕ × List ℕ → ℕ × List ℕ
low_byte found = (found.0 % 256, found.1)

-- the field at the front and the bytes behind it, or none where no front of the bytes spells it
unfoldable pub field_at : (field : FieldKind) → List ℕ → Option (Content field × List ℕ)
field_at (Whole kind) bytes = result_ok (reading kind bytes)
field_at LowByte bytes = option_map low_byte (result_ok (word_at bytes))

-- the fields at the front and the bytes behind them
abbrev pub row_at : (row : List FieldKind) → List ℕ → Option (Contents row × List ℕ)
row_at [] bytes = Some (tt, bytes)
row_at (field ∷ row) bytes =
    option_and_then (λ first. option_map (λ others. ((first.0, others.0), others.1)) (row_at row first.1)) (field_at field bytes)

-- what a function returned, seen by `view`, and the bytes that it left are what was found
abbrev pub Gives : {X Y : Type 0} → (X → Y) → Option X → List ℕ → Option (Y × List ℕ) → Type 0
Gives view None rest found = found ≡ None
Gives view (Some x) rest found = found ≡ Some (view x, rest)

-- what was found, where nothing is left behind it
abbrev pub whole : {X : Type 0} → Option (X × List ℕ) → Option X
whole None = None
whole (Some (x, [])) = Some x
whole (Some (x, b ∷ bytes)) = None
