use Rattle.std.proofs.Common.{ap, ◌∙◌}
use Rattle.vx_trace.specs.Reading.{line2_with}
use Rattle.vx_trace.proofs.read.line2_of.Goals as goal

pub returns-in-Some : goal.returns-in-Some
returns-in-Some c = c.timed_of.ensures ∙ ap (line2_with c.args.text.now) c.in-Some.ensures

pub returns-in-None : goal.returns-in-None
returns-in-None c = c.untimed_of.ensures ∙ ap (line2_with c.args.text.now) c.in-None.ensures
