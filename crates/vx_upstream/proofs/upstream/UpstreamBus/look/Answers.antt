use Rattle.std.proofs.Common.{inl, sym}
use Rattle.vx_upstream.proofs.upstream.UpstreamBus.look.Goals as goal

pub returns-clause-looked : goal.returns-clause-looked
returns-clause-looked g c = inl (sym c.if-not-is_here.ensures.value, (c.look_at_srq.new.self, c.look_at_srq.ensures.looked, c.look_at_ndac.ensures.looked))
