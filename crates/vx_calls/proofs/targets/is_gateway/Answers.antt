use Rattle.std.proofs.lemmas.Bool.Decides.{same_from_decides}
use Rattle.vx_calls.proofs.TargetLemmas.{is_gateway-Decides}
use Rattle.vx_calls.proofs.targets.is_gateway.Goals as goal

pub returns : goal.returns
returns c = same_from_decides _ _ c.eq_ignore_ascii_case.ensures.test (is_gateway-Decides c.args.name.now)
