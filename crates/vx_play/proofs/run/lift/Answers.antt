use Rattle.vx_play.proofs.WholePlay.{form-written}
use Rattle.vx_play.proofs.run.lift.Goals as goal

pub returns-in-Fault : goal.returns-in-Fault
returns-in-Fault g c = record {
  ended = form-written c.args.script.now _ c.in-Fault.line _ _ _ _ c.in-Fault.ensures.ended.0 c.in-Fault.ensures.ended.1 c.in-Fault.ensures.counted c.form_line.ensures c.put_last.ensures.put;
}
