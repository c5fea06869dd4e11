use Rattle.std.proofs.Common.{◌≡◌, ◌-◌, ◌^◌, sym, ◌∙◌, true}
use Rattle.std.proofs.lemmas.Str.{IsUtf8-from_ascii}
use Rattle.vx_lemmas.proofs.Laws.Options.{ok_some, err_none}
use Rattle.vx_script.specs.Words.{is_positive}
use Rattle.vx_script.proofs.Numbers.{positive-ascii, positive-least, parsed-positive}
use Rattle.vx_script.proofs.values.positive_of.Goals as goal

pub returns-in_err-ok-clause-value : goal.returns-in_err-ok-clause-value
returns-in_err-ok-clause-value c =
    let text = c.args.text.now in
    let shape : is_positive text ≡ true = sym c.is_positive.ensures ∙ c.if-not-is_positive.false in
    absurd (err_none c.from_utf8.result _ _ c.from_utf8.ensures.cases (λ e bad. bad.0 (IsUtf8-from_ascii text (positive-ascii text shape))) (sym c.ok.ensures.value ∙ c.in_err-ok.was))

pub returns-clause-value : goal.returns-clause-value
returns-clause-value c =
    let text = c.args.text.now in
    let shape : is_positive text ≡ true = sym c.is_positive.ensures ∙ c.if-not-is_positive.false in
    let same = ok_some c.from_utf8.result _ _ c.from_utf8.ensures.cases c.in_ok-ok.field-0 (sym c.ok.ensures.value ∙ c.in_ok-ok.was) in
    c.ok-2.ensures.value ∙ parsed-positive text c.parse.result shape (rw same.0 at c.parse.ensures.value.0)

pub returns-clause-range : goal.returns-clause-range
returns-clause-range c =
    let text = c.args.text.now in
    let shape : is_positive text ≡ true = sym c.is_positive.ensures ∙ c.if-not-is_positive.false in
    let same = ok_some c.from_utf8.result _ _ c.from_utf8.ensures.cases c.in_ok-ok.field-0 (sym c.ok.ensures.value ∙ c.in_ok-ok.was) in
    positive-least (2 ^ 64 - 1) text c.ok-2.result (c.ok-2.ensures.value ∙ parsed-positive text c.parse.result shape (rw same.0 at c.parse.ensures.value.0))
