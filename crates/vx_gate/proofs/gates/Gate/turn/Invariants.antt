use Rattle.vx_gate.proofs.gates.Gate.turn.Given as goal

abbrev pub ghosts-take-B-Marks : goal.ghosts-take-B-Marks
ghosts-take-B-Marks g a = record { number = a.place.now.id; adds = λ _. Unit {0} }

abbrev pub ghosts-take-B-Standing : goal.ghosts-take-B-Standing
ghosts-take-B-Standing g a = record { stands = g.K.Kept.stands a.room.now.key.value }
