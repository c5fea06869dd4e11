use Rattle.std.proofs.Common.{◌≡◌, ℕ, length, drop, refl, ap, ◌∙◌, arith}
use Rattle.vx_codec.specs.declared.fields.Field.TheVariants.{Word}
use Rattle.vx_codec.proofs.Texts.{texts, AreCounted-at, length-texts_at, length-texts_end, length-fields_text}
use Rattle.vx_codec.proofs.fields.fits.Goals as goal

pub text_len-len-requires : goal.text_len-len-requires
text_len-len-requires c = AreCounted-at c.args.fields.now c.loop-field.field-index (Word 0) c.requires c.loop-field-test.true

pub returns-then-left-len : goal.returns-then-left-len
returns-then-left-len c =
    let fields = c.args.fields.now in
    let whole = length-fields_text fields in
    let here = length-texts_at fields c.loop-field.field-index (Word 0) c.loop-field-test.true in
    (λ no. absurd cc, λ enough. absurd (omega arith))

pub returns : goal.returns
returns c =
    let fields = c.args.fields.now in
    let whole = length-fields_text fields in
    let end = length-texts_end fields in
    let at : c.loop-field.field-index ≡ length fields = omega arith in
    let rest : length (texts (drop c.loop-field.field-index fields)) ≡ 0 = ap (λ (i : ℕ). length (texts (drop i fields))) at ∙ end in
    (λ yes. omega arith, λ enough. refl)
