use Rattle.std.proofs.Common.{get_or}
use Rattle.vx_sim.specs.Shown.{placed_of, TalkerGave}
use Rattle.vx_sim.proofs.Apart.{answerer_talks}
use Rattle.vx_sim.proofs.Changes.{set_at_place}
use Rattle.vx_sim.proofs.Finding.{talker-gives}
use Rattle.vx_sim.proofs.bench.give_at.Goals as goal

pub give-requires : goal.give-requires
give-requires g c =
    talker-gives placed_of c.args.wire.now c.args.places.now c.args.index c.index-places-index.result c.requires.apart c.requires.talks c.requires.gives

pub returns : goal.returns
returns g c =
    let answers = talker-gives placed_of c.args.wire.now c.args.places.now c.args.index c.index-places-index.result c.requires.apart c.requires.talks c.requires.gives in
    set_at_place placed_of (TalkerGave c.args.wire.now (record { value = c.give.result.0; end = c.give.result.1 })) c.args.places.now c.args.index c.index-places-index.result c.give.new.self
    c.requires.within (answerer_talks c.args.wire.now (placed_of (get_or c.args.places.now c.args.index c.index-places-index.result)) answers, c.give.ensures.stays, c.give.ensures.gives)
