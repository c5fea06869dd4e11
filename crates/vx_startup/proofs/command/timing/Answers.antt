use Rattle.std.proofs.Common.{◌∙◌, ap, ap₂}
use Rattle.std.proofs.lemmas.Result.{IfOk-weaker}
use Rattle.clap.specs.Words.{app_of, with_rule}
use Rattle.vx_startup.proofs.command.timing.Goals as goal

pub returns : goal.returns
returns c =
    let one = c.in_ok-arg.ensures.shape c.number_option.ensures.local ∙ ap (with_rule (app_of c.args.command)) c.number_option.ensures.rule in
    let two = c.in_ok-arg-2.ensures.shape c.number_option-2.ensures.local ∙ ap₂ with_rule one c.number_option-2.ensures.rule in
    let three = c.in_ok-arg-3.ensures.shape c.number_option-3.ensures.local ∙ ap₂ with_rule two c.number_option-3.ensures.rule in
    let four = c.in_ok-arg-4.ensures.shape c.number_option-4.ensures.local ∙ ap₂ with_rule three c.number_option-4.ensures.rule in
    let five = c.in_ok-arg-5.ensures.shape c.number_option-5.ensures.local ∙ ap₂ with_rule four c.number_option-5.ensures.rule in
    let six = c.in_ok-arg-6.ensures.shape c.flag.ensures.local ∙ ap₂ with_rule five c.flag.ensures.rule in
    let seven = c.in_ok-arg-7.ensures.shape c.flag-2.ensures.local ∙ ap₂ with_rule six c.flag-2.ensures.rule in
    let eight = c.in_ok-arg-8.ensures.shape c.text_option.ensures.local ∙ ap₂ with_rule seven c.text_option.ensures.rule in
    IfOk-weaker c.arg-9.result _ _ (λ r h. h.shape c.file_option.ensures.local ∙ ap₂ with_rule eight c.file_option.ensures.rule) c.arg-9.ensures
