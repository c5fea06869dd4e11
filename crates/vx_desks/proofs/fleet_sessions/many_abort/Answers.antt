use Rattle.vx_calls.specs.declared.calls.Role.TheVariants as role
use Rattle.vx_desks.specs.declared.routes.counts.Count.TheVariants as counts
use Rattle.vx_desks.specs.Standing.{firsts_shown}
use Rattle.vx_session.specs.Progress.{unclocked}
use Rattle.vx_desks.specs.Origins.{origins}
use Rattle.vx_desks.proofs.Finishing.{session-says}
use Rattle.vx_desks.proofs.fleet_sessions.many_abort.Goals as goal

pub returns-clause-did : goal.returns-clause-did
returns-clause-did g c =
    session-says counts.Four (origins g.B.Bus (firsts_shown c.args.buses.now)) g.L.Link _ unclocked (λ groups clocked. tt) 0 role.Abort _ _ _ _
    c.run_session.ensures.did
