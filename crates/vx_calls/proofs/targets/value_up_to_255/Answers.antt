use Rattle.std.proofs.Common.{◌≡◌, ◌∙◌, refl, rules}
use Rattle.std.specs.Prelude.{fold}
use Rattle.vx_calls.proofs.TargetLemmas.{capped, fold-capped}
use Rattle.vx_calls.proofs.targets.value_up_to_255.Goals as goal

pub returns : goal.returns
returns c =
    let e : c.fold.result ≡ fold capped 0 c.args.digits.now = search rules in
    e ∙ fold-capped c.args.digits.now 0 0 refl
