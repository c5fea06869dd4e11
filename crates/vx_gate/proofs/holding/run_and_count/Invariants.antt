use Rattle.std.proofs.Common.{◌≡◌, [], ◌∷◌}
use Rattle.vx_gate.proofs.holding.run_and_count.Given as goal

-- the group of the run, where the slot has what the act left
abbrev pub ghosts-count : goal.ghosts-count
ghosts-count g a = record {
  number = a.place.now.id;
  adds = λ x. (after : g.row.K.Denot) × (a.place.now.me.1 ≡ (0, after) ∷ []) × (x ≡ g.A.Act.adds a._act_before.now.value a._kept_before.now.value a._answer.now a._act.now after);
}
