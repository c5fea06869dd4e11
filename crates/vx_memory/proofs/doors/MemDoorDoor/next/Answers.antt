use Rattle.std.proofs.Common.{◌∙◌, ◌++◌, [], ◌∷◌, ap}
use Rattle.std.proofs.Math.ListN.{replicate}
use Rattle.std.proofs.lemmas.Grind.{replicate_next}
use Rattle.vx_memory.specs.DoorState.{DoorState, loopback}
use Rattle.vx_memory.proofs.doors.MemDoorDoor.next.Goals as goal

-- one more address stands behind those of the earlier peers
pub returns-in-Some-clause-peers : goal.returns-in-Some-clause-peers
returns-in-Some-clause-peers c =
    let met = ap (λ (s : DoorState). s.met) c.self.view_is ∙ ap (λ (s : DoorState). s.met) c.fails.ensures.after in
    (loopback, replicate_next c.self.inside.met loopback ∙ ap (λ n. replicate n loopback ++ loopback ∷ []) met)
