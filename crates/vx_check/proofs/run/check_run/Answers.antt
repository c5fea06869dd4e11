use Rattle.vx_check.proofs.Judged.{outcome-read}
use Rattle.vx_check.proofs.Verdicts.{completes, completes-long, formed-ends}
use Rattle.vx_check.proofs.run.check_run.Goals as goal

-- where the trace of a formed run is given, how a check ends leaves no other status
pub returns-clause-formed : goal.returns-clause-formed
returns-clause-formed g c = formed-ends c.formed_runs.ensures.tells c.one_history.ensures.whole _ _ _ c.check_up_to.ensures.outcome

pub returns-clause-complete : goal.returns-clause-complete
returns-clause-complete g c = completes c.one_history.ensures.whole _ _ _ _ c.check_up_to.ensures.outcome

pub returns-clause-complete_long : goal.returns-clause-complete_long
returns-clause-complete_long g c = completes-long c.one_history.ensures.front _ _ _ _ c.check_up_to.ensures.outcome

pub returns-clause-read : goal.returns-clause-read
returns-clause-read g c = outcome-read _ _ _ c.check_up_to.ensures.outcome.0 c.check_up_to.ensures.outcome.2
