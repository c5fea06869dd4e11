-- Values in a row, as they are written.
use Rattle.std.specs.Prelude.{◌^◌, ◌<◌, ℕ, List, [], ◌∷◌, ◌++◌, length}
use Rattle.vx_xdr.specs.Spelling.{Word, Signed, Flag, spelling, opaque}
use Rattle.vx_codec.specs.declared.fields.Field.{Field}
use Rattle.vx_codec.specs.declared.fields.Field.TheVariants as field

-- the bytes of a value
abbrev pub field_text : Field → List ℕ
field_text (field.Word n) = spelling Word n
field_text (field.Signed z) = spelling Signed z
field_text (field.Flag b) = spelling Flag b
field_text (field.Bytes bytes) = opaque bytes.now

-- the bytes of the values, one behind the other
abbrev pub fields_text : List Field → List ℕ
fields_text [] = []
fields_text (f ∷ []) = field_text f
fields_text (f ∷ g ∷ fields) = field_text f ++ fields_text (g ∷ fields)

-- a length word can count its bytes
abbrev pub IsCounted : Field → Type 0
IsCounted (field.Bytes bytes) = length bytes.now < 2 ^ 32
IsCounted _ = Unit {0}

abbrev pub AreCounted : List Field → Type 0
AreCounted [] = Unit {0}
AreCounted (f ∷ fields) = IsCounted f × AreCounted fields
