use Rattle.std.proofs.Common.{refl, ap, sym, subst, ◌∙◌, [], ◌∷◌, ◌++◌}
use Rattle.vx_gate.proofs.Outcomes.{opening_ruled}
use Rattle.vx_gate.proofs.gates.Gate.start.Goals as goal

pub new-requires : goal.new-requires
new-requires g c = opening_ruled _ _ _ _ c.args.value refl refl refl refl (c.in_default.ensures.items ∙ ap (λ l. l ++ c.args.value ∷ []) c.new-slots.ensures.items) (subst (λ first. g.K.Kept.stands first c.args.value []) (sym c.of-first.ensures) c.requires)
