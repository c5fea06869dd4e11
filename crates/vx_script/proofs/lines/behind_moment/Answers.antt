use Rattle.std.proofs.Common.{sym, ◌∙◌}
use Rattle.vx_script.specs.Command.{step_shown}
use Rattle.vx_script.proofs.Moments.{found-other}
use Rattle.vx_script.proofs.lines.behind_moment.Goals as goal

pub returns-else-is_at-clause-value : goal.returns-else-is_at-clause-value
returns-else-is_at-clause-value c =
    λ moment. found-other moment c.args.text.now (step_shown c.in_ok-step.step) (sym c.in_ok-step.ensures.value) (sym c.is_at.ensures ∙ c.if-is_at.false)
