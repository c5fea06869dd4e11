use Rattle.std.proofs.Common.{refl, sym, ◌∙◌, subst}
use Rattle.std.proofs.lemmas.List.{get_or_default}
use Rattle.vx_sim.specs.Occupants.{TakesByte}
use Rattle.vx_sim.specs.Bench.{listens, PlaceWhere}
use Rattle.vx_sim.specs.Finding.{waits}
use Rattle.vx_sim.specs.Shown.{placed_of}
use Rattle.vx_sim.proofs.Finding.{is_at-within}
use Rattle.vx_sim.proofs.bench.take_at.Goals as goal

pub take-requires-clause-listens : goal.take-requires-clause-listens
take-requires-clause-listens g c =
    sym (is_at-within (λ p. listens c.args.wire.now (placed_of p)) c.args.places.now c.args.index c.index-places-index.result c.requires.within) ∙ c.requires.listens

pub take-requires-clause-takes : goal.take-requires-clause-takes
take-requires-clause-takes g c = sym (is_at-within waits c.args.places.now c.args.index c.index-places-index.result c.requires.within) ∙ c.requires.takes

pub returns : goal.returns
returns g c = (
  c.take.new.self,
  refl,
  λ d. subst (λ p. PlaceWhere (listens c.args.wire.now) (TakesByte c.args.b c.args.end) (placed_of p) (placed_of c.take.new.self))
      (get_or_default c.args.places.now c.args.index c.index-places-index.result d c.requires.within) c.take.ensures,
)
