use Rattle.vx_gate.proofs.gates.Gate.meet.Given as goal

abbrev pub ghosts-learn : goal.ghosts-learn
ghosts-learn g a = record { number = a.place.now.id; adds = λ _. Unit {0} }
