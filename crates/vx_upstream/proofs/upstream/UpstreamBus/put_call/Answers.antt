use Rattle.std.proofs.Common.{sym, subst}
use Rattle.vx_upstream.specs.UpstreamState.{UpstreamState}
use Rattle.vx_upstream.specs.Sending.{words_of, Wrote}
use Rattle.vx_upstream.proofs.Bursting.{piece-walk, some-steps}
use Rattle.vx_upstream.proofs.upstream.UpstreamBus.put_call.Goals as goal

pub returns-clause-walk : goal.returns-clause-walk
returns-clause-walk g c =
    piece-walk _ c.args.self.now c.write_some-many.new.self.client c.args.bytes.now c.args.end c.write_some-many.result c.write_some-many.new.self
    c.write_some-many.ensures.rest c.write_some-many.ensures.due c.requires.here c.write_some-many.ensures.wrote
    (some-steps c.args.bytes.now c.args.end c.write_some-many.result c.requires.some c.write_some-many.ensures.last.0)
    c.told_puts.new.self c.told_puts.ensures

pub returns-clause-wrote : goal.returns-clause-wrote
returns-clause-wrote g c =
    subst (λ (s : UpstreamState g.row.L.Denot). Wrote (words_of g.L.Link g.L.Reach.refused g.L.Reach.tries) c.args.bytes.now c.args.end c.write_some-many.result c.args.self.now s)
    (sym c.told_puts.ensures) c.write_some-many.ensures.wrote
