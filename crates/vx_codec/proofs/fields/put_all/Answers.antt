use Rattle.std.proofs.Common.{◌≡◌, ℕ, List, take, sym, ap, subst, ◌∙◌, arith}
use Rattle.std.proofs.lemmas.List.{take_all}
use Rattle.vx_xdr.specs.Writing.{WritesFirst}
use Rattle.vx_codec.specs.declared.fields.Field.TheVariants.{Word}
use Rattle.vx_codec.specs.Text.{fields_text}
use Rattle.vx_codec.proofs.Texts.{texts, AreCounted-at, length-texts_at, length-texts_split, length-fields_text, fields_text-texts, texts_more, WritesFirst-then}
use Rattle.vx_codec.proofs.fields.put_all.Goals as goal

pub put_field-requires-clause-counted : goal.put_field-requires-clause-counted
put_field-requires-clause-counted c = AreCounted-at c.args.fields.now c.loop-field.field-index (Word 0) c.requires.counted c.loop-field-test.true

pub put_field-requires-clause-room : goal.put_field-requires-clause-room
put_field-requires-clause-room c =
    let fields = c.args.fields.now in
    let whole = length-fields_text fields in
    let split = length-texts_split fields c.loop-field.field-index in
    let here = length-texts_at fields c.loop-field.field-index (Word 0) c.loop-field-test.true in
    omega (arith, c.loop-field.invariant.len)

pub loop-field-preserved : goal.loop-field-preserved
loop-field-preserved c =
    let more = texts_more c.args.fields.now c.loop-field.field-index (Word 0) c.loop-field-test.true in
    subst (λ (t : List ℕ). WritesFirst t c.args.out.now c.put_field.new.w c.put_field.new.out) (sym more) (WritesFirst-then _ _ _ _ _ _ _ c.loop-field.invariant c.put_field.ensures)

pub returns : goal.returns
returns c =
    let fields = c.args.fields.now in
    let w = c.loop-field.invariant in
    let all : texts (take c.loop-field.field-index fields) ≡ fields_text fields =
    ap texts (take_all c.loop-field.field-index fields c.loop-field-test.false) ∙ sym (fields_text-texts fields) in
    subst (λ (t : List ℕ). WritesFirst t c.args.out.now c.len.result c.loop-field.out) all (subst (λ (n : ℕ). WritesFirst (texts (take c.loop-field.field-index fields)) c.args.out.now n c.loop-field.out) (sym c.len.ensures) w)
