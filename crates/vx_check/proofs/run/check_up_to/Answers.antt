use Rattle.vx_check.proofs.run.check_up_to.Goals as goal

pub returns : goal.returns
returns g c = record { outcome = (c.check.result, c.number.ensures, c.check.ensures.outcome) }
