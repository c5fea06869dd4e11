use Rattle.std.proofs.Common.{◌≡◌, ℕ, true, List, decimal, sym, ap, ◌∙◌, subst, arith, inl, inr}
use Rattle.std.specs.Str.{bytes_eq, IsUtf8}
use Rattle.std.specs.Result.{result_ok}
use Rattle.std.proofs.lemmas.Bool.{false≢true}
use Rattle.std.proofs.lemmas.Fmt.{parse-decimal, IsAscii-decimal}
use Rattle.std.proofs.lemmas.Option.{none-some, same_Some}
use Rattle.std.proofs.lemmas.Str.{IsUtf8-from_ascii}
use Rattle.vx_lemmas.proofs.Laws.Conditions.{self_bytes}
use Rattle.vx_text.proofs.numbers.number_within.Goals as goal

pub returns-in_default-clause-none : goal.returns-in_default-clause-none
returns-in_default-clause-none c = λ none n least most e.
    c.in_default.ensures.cases.0 (subst IsUtf8 (sym e) (IsUtf8-from_ascii (decimal n) (IsAscii-decimal n (omega (arith, most, c.ranges.most.fits)))))

pub returns-in_default-parse-clause-none : goal.returns-in_default-parse-clause-none
returns-in_default-parse-clause-none c = λ none n least most e.
    let parsed = parse-decimal 64 n _ c.parse.result (omega (arith, most, c.ranges.most.fits)) (omega (arith, most, c.ranges.most.fits)) (c.in-Ok.ensures.cases.0 ∙ e) c.parse.ensures.value.0 in
    none-some n (sym (ap result_ok c.in_default-parse.is) ∙ ap result_ok parsed)

pub returns-else-is_printed-clause-none : goal.returns-else-is_printed-clause-none
returns-else-is_printed-clause-none c = λ none n least most e.
    let parsed = parse-decimal 64 n _ c.parse.result (omega (arith, most, c.ranges.most.fits)) (omega (arith, most, c.ranges.most.fits)) (c.in-Ok.ensures.cases.0 ∙ e) c.parse.ensures.value.0 in
    let same : c.in-Ok-parse.n ≡ n = same_Some c.in-Ok-parse.n n (sym (ap result_ok c.in-Ok-parse.is) ∙ ap result_ok parsed) in
    let shown : c.as_bytes.result.now ≡ c.in-Ok.text.now = c.as_bytes.ensures.value ∙ c.format.ensures.text ∙ ap decimal same ∙ sym (c.in-Ok.ensures.cases.0 ∙ e) in
    let printed : bytes_eq c.as_bytes.result.now c.as_bytes-2.result.now ≡ true =
    ap (λ (t : List ℕ). bytes_eq t c.as_bytes-2.result.now) (shown ∙ sym c.as_bytes-2.ensures.value) ∙ self_bytes c.as_bytes-2.result.now in
    elim c.else-is_printed.either [
      | inl a ↦ omega (arith, a.2, same, most)
      | inr b ↦ elim b [
        | inl a ↦ omega (arith, a.1, same, least)
        | inr a ↦ false≢true (sym a ∙ c.eq-is_printed.ensures ∙ printed)
      ]
    ]
