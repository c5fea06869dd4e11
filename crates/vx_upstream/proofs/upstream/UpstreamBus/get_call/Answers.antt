use Rattle.std.proofs.Common.{length, take, sym, subst}
use Rattle.vx_upstream.specs.UpstreamState.{UpstreamState}
use Rattle.vx_upstream.specs.Sending.{words_of, ReadMany}
use Rattle.vx_upstream.proofs.Bursting.{gets-walk, some-gets}
use Rattle.vx_upstream.proofs.upstream.UpstreamBus.get_call.Goals as goal

pub returns-clause-walk : goal.returns-clause-walk
returns-clause-walk g c =
    let bytes = take c.read_some-many.result.got c.read_some-many.new.room in
    gets-walk _ c.args.self.now c.read_some-many.new.self.client (length c.args.room.now) c.args.stop bytes c.read_some-many.result c.read_some-many.new.self
    c.read_some-many.ensures.rest c.read_some-many.ensures.due c.requires.here c.read_some-many.ensures.read
    (some-gets c.args.stop (length c.args.room.now) bytes c.read_some-many.result.stop c.requires.some c.read_some-many.ensures.stops)
    c.told_gets.new.self c.told_gets.ensures

pub returns-clause-read : goal.returns-clause-read
returns-clause-read g c =
    let bytes = take c.read_some-many.result.got c.read_some-many.new.room in
    subst (λ (s : UpstreamState g.row.L.Denot). ReadMany (words_of g.L.Link g.L.Reach.refused g.L.Reach.tries) (length c.args.room.now) c.args.stop bytes c.read_some-many.result c.args.self.now s)
    (sym c.told_gets.ensures) c.read_some-many.ensures.read
