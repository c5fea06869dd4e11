use Rattle.vx_calls.specs.declared.calls.Role.TheVariants as role
use Rattle.vx_exchange.specs.Meaning.{meaning}
use Rattle.vx_session.specs.Origin.{origin}
use Rattle.vx_session.specs.Progress.{unclocked}
use Rattle.vx_session.proofs.Laws.Finishing.{session-says}
use Rattle.vx_session.proofs.sessions.abort_session.Goals as goal

pub returns : goal.returns
returns g c = record {
  did = session-says meaning (origin g.B.Bus (g.T.Turns.first c.args.turns.now)) g.L.Link _ unclocked (λ groups clocked. tt) 0 role.Abort _ _ _ _
      c.run_session.ensures.did;
}
