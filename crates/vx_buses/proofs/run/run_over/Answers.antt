use Rattle.vx_desks.specs.Standing.{firsts_shown}
use Rattle.vx_buses.proofs.Ran.{hosts-run}
use Rattle.vx_buses.proofs.run.run_over.Goals as goal

pub returns-in-Some : goal.returns-in-Some
returns-in-Some g c =
    hosts-run g.B.Bus g.X.C.Clock.tells _ (firsts_shown c.in-Some.buses) _ c.args.ask.now c.args.net.now c.serve_ask.new.net _ _ c.serve_ask.result c.in-Some.ensures.begin c.serve_ask.ensures
