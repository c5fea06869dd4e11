use Rattle.vx_gate.proofs.gates.Gate.part.Given as goal

abbrev pub ghosts-split : goal.ghosts-split
ghosts-split g a = record { number = a.place.now.id; adds = λ _. Unit {0} }

abbrev pub ghosts-learn : goal.ghosts-learn
ghosts-learn g a = record { number = a.place.now.id; adds = λ _. Unit {0} }
