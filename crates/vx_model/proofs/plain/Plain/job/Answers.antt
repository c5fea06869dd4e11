use Rattle.std.proofs.Common.{sym, ◌∙◌}
use Rattle.vx_model.proofs.plain.Plain.job.Goals as goal

pub job-requires-clause-passes : goal.job-requires-clause-passes
job-requires-clause-passes c = λ p here. (c.self.inside.wire.own, sym (c.lets_pass.ensures p here) ∙ c.if-lets_pass.true)
