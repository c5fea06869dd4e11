use Rattle.std.proofs.Common.{◌∙◌, ap, refl, take, drop}
use Rattle.vx_memory.specs.DoorState.{PeerShown, gave}
use Rattle.vx_memory.proofs.Pieces.{gave_more}
use Rattle.vx_memory.proofs.doors.MemPeer.give.Goals as goal

pub returns-clause-after : goal.returns-clause-after
returns-clause-after c =
    let p = c.self.inside in
    let was : PeerShown = record { received = take p.at p.bytes.items; left = drop p.at p.bytes.items; sent = p.room.items } in
    gave_more was p.bytes.items p.at c.give-count.result refl refl ∙ ap (λ (v : PeerShown). gave c.give-count.result v) c.self.view_is
