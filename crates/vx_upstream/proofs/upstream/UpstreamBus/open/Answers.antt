use Rattle.std.proofs.Common.{inr}
use Rattle.vx_upstream.proofs.upstream.UpstreamBus.open.Goals as goal

pub returns-in-Err-come_to_rest-clause-unopened : goal.returns-in-Err-come_to_rest-clause-unopened
returns-in-Err-come_to_rest-clause-unopened g c = inr (c.in-Ok.bus, c.in-Ok.ensures.linked, c.in-Err-come_to_rest.ensures.unrested)
