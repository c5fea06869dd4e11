use Rattle.std.proofs.Common.{◌≡◌, sym, ◌∙◌, true}
use Rattle.std.proofs.lemmas.Str.{IsUtf8-from_ascii}
use Rattle.vx_lemmas.proofs.Laws.Options.{ok_some, err_none}
use Rattle.vx_trace.specs.Reading.{is_decimal}
use Rattle.vx_trace.proofs.Numbers.{decimal_ascii, parsed-number}
use Rattle.vx_trace.proofs.values.number_of.Goals as goal

pub returns-in_err-ok : goal.returns-in_err-ok
returns-in_err-ok c =
    let text = c.args.text.now in
    let shape : is_decimal text ≡ true = sym c.is_decimal.ensures ∙ c.if-not-is_decimal.false in
    absurd (err_none c.from_utf8.result _ _ c.from_utf8.ensures.cases (λ e bad. bad.0 (IsUtf8-from_ascii text (decimal_ascii text shape))) (sym c.ok.ensures.value ∙ c.in_err-ok.was))

pub returns : goal.returns
returns c =
    let text = c.args.text.now in
    let shape : is_decimal text ≡ true = sym c.is_decimal.ensures ∙ c.if-not-is_decimal.false in
    let same = ok_some c.from_utf8.result _ _ c.from_utf8.ensures.cases c.in_ok-ok.field-0 (sym c.ok.ensures.value ∙ c.in_ok-ok.was) in
    c.ok-2.ensures.value ∙ parsed-number text c.parse.result shape (rw same.0 at c.parse.ensures.value.0)
