use Rattle.std.proofs.Common.{subst}
use Rattle.vx_upstream.specs.Sending.{words_of}
use Rattle.vx_upstream.specs.UpstreamState.{terms_of}
use Rattle.vx_upstream.specs.Opening.{IsUnopened}
use Rattle.vx_relay.proofs.run.open_bus.Goals as goal

pub returns-in-Err-clause-early : goal.returns-in-Err-clause-early
returns-in-Err-clause-early g c = record {
  cause_is = c.in-Err.error;
  unopened =
      subst (λ name. IsUnopened (words_of g.L.Link g.L.Reach.refused g.L.Reach.tries) c.args.link (terms_of c.args.upstream.host.now c.args.upstream.port name c.args.patience) c.in-Err.error)
      c.as_bytes.ensures.value
      (subst (λ host. IsUnopened (words_of g.L.Link g.L.Reach.refused g.L.Reach.tries) c.args.link (terms_of host c.args.upstream.port c.as_bytes.result.now c.args.patience) c.in-Err.error)
      c.in-Ok.ensures.ok c.in-Err.ensures.unopened);
  ends = c.end_unopened.ensures;
}
