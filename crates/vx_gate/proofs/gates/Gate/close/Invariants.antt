use Rattle.vx_gate.proofs.gates.Gate.close.Given as goal

abbrev pub ghosts-leave : goal.ghosts-leave
ghosts-leave g a = record { number = a.place.now.id; adds = λ _. Unit {0} }
