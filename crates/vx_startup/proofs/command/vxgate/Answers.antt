use Rattle.std.proofs.Common.{◌≡◌, ◌∙◌, true, ap, codes}
use Rattle.std.proofs.lemmas.Result.{IfOk-weaker}
use Rattle.clap.specs.Words.{App, app_of}
use Rattle.clap.specs.Simple.{app_of_fields, new_app, on_top}
use Rattle.vx_startup.specs.Form.{serving, timing, with_rules}
use Rattle.vx_startup.proofs.command.vxgate.Goals as goal

abbrev versioned : App → App
versioned = on_top (λ s. record s { has_version = true })

abbrev unnamed : App → App
unnamed = on_top (λ s. record s { no_binary_name = true })

pub returns : goal.returns
returns c =
    let about : app_of c.about-bare.result ≡ app_of c.version.result = ap app_of_fields c.about-bare.ensures in
    let version : app_of c.version.result ≡ versioned (app_of c.no_binary_name.result) = ap app_of_fields c.version.ensures in
    let named : app_of c.no_binary_name.result ≡ unnamed (app_of c.new.result) = ap app_of_fields c.no_binary_name.ensures in
    let start : app_of c.about-bare.result ≡ versioned (unnamed (new_app (codes "vxgate"))) = about ∙ version ∙ ap versioned (named ∙ ap unnamed c.new.ensures.app) in
    let served = c.in_ok-serving.ensures ∙ ap (λ (a : App). with_rules a serving) start in
    IfOk-weaker c.timing.result _ _ (λ r h. h ∙ ap (λ (a : App). with_rules a timing) served) c.timing.ensures
