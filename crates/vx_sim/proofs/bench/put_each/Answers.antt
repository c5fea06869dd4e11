use Rattle.std.proofs.Common.{sym, ◌∙◌, arith}
use Rattle.vx_sim.specs.Occupants.{TakesByte}
use Rattle.vx_sim.specs.Bench.{listens, refuses}
use Rattle.vx_sim.specs.Finding.{waits}
use Rattle.vx_sim.specs.Shown.{placed_of}
use Rattle.vx_sim.proofs.Changes.{any_shown}
use Rattle.vx_sim.proofs.Finding.{within-now, reached-now, clear-now, changed-more, bench-changed}
use Rattle.vx_sim.proofs.bench.put_each.Goals as goal

pub take_at-requires-clause-within : goal.take_at-requires-clause-within
take_at-requires-clause-within g c =
    within-now placed_of (listens c.args.wire.now) (TakesByte c.args.b c.args.end) c.args.places.now c.loop-index.places c.args.hearers.now c.loop-index.index-index
    c.loop-index.invariant c.requires.hearers c.from.result c.from.ensures (omega arith)

pub take_at-requires-clause-listens : goal.take_at-requires-clause-listens
take_at-requires-clause-listens g c =
    reached-now placed_of (listens c.args.wire.now) (TakesByte c.args.b c.args.end) c.args.places.now c.loop-index.places c.args.hearers.now c.loop-index.index-index
    c.loop-index.invariant c.requires.hearers c.from.result c.from.ensures (omega arith)

pub take_at-requires-clause-takes : goal.take_at-requires-clause-takes
take_at-requires-clause-takes g c =
    clear-now placed_of (listens c.args.wire.now) (TakesByte c.args.b c.args.end) c.args.places.now c.loop-index.places c.args.hearers.now c.loop-index.index-index
    c.loop-index.invariant c.requires.hearers c.from.result c.from.ensures (omega arith) waits
    (sym (any_shown placed_of (refuses c.args.wire.now) c.args.places.now) ∙ c.requires.takes)

pub loop-index-preserved : goal.loop-index-preserved
loop-index-preserved g c =
    changed-more placed_of (listens c.args.wire.now) (TakesByte c.args.b c.args.end) c.args.places.now c.loop-index.places c.args.hearers.now c.loop-index.index-index
    c.loop-index.invariant c.requires.hearers c.from.result c.from.ensures (omega arith) c.take_at.new.places c.take_at.ensures

pub returns : goal.returns
returns g c =
    bench-changed placed_of (listens c.args.wire.now) (TakesByte c.args.b c.args.end) c.args.places.now c.loop-index.places c.args.hearers.now c.loop-index.index-index
    c.loop-index.invariant c.requires.hearers (omega arith)
