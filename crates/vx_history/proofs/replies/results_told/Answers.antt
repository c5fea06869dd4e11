use Rattle.std.proofs.Common.{ap, ◌∙◌}
use Rattle.vx_codec.specs.Answered.{answered, form_of}
use Rattle.vx_history.proofs.Told.{some-puttable}
use Rattle.vx_history.proofs.replies.results_told.Goals as goal

pub returns-clause-told : goal.returns-clause-told
returns-clause-told c = c.read_results.ensures.exact ∙ ap (answered c.args.proc) c.behind.ensures

pub returns-clause-puttable : goal.returns-clause-puttable
returns-clause-puttable c = some-puttable (form_of c.args.proc) c.read_results.result _ c.read_results.ensures.found
