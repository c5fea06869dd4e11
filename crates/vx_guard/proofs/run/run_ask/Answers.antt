use Rattle.vx_text.specs.Ends.{sink_shown}
use Rattle.vx_guard.proofs.Runs.{ask_run}
use Rattle.vx_guard.proofs.run.run_ask.Goals as goal

pub returns-in-Ok : goal.returns-in-Ok
returns-in-Ok g c =
    ask_run _ c.in-Ok.policy _ c.args.ask.now _ _ _ _ (sink_shown g.K.Sink) _ _ c.run_ruled.new.sink c.run_ruled.result
    c.in-Ok.ensures.gives c.in-Ok.ensures.silent c.run_ruled.ensures
