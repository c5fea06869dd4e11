use Rattle.std.proofs.Common.{[], subst}
use Rattle.std.specs.Prelude.{IfSome}
use Rattle.std.proofs.lemmas.List.Elements.{All-pop}
use Rattle.vx_desks.proofs.fleet.gates.start_last.Goals as goal

pub start-requires : goal.start-requires
start-requires g c =
    subst (λ r. IfSome r (λ core. g.K.Kept.stands core core [])) c.unwrap-value.ensures
    (All-pop (λ core. g.K.Kept.stands core core []) _ _ c.pop.result c.pop.ensures.items c.requires.stand).1

pub returns-in-Ok-clause-stand : goal.returns-in-Ok-clause-stand
returns-in-Ok-clause-stand g c = (All-pop (λ core. g.K.Kept.stands core core []) _ _ c.pop.result c.pop.ensures.items c.requires.stand).0
