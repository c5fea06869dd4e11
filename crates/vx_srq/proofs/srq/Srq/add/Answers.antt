use Rattle.std.proofs.Common.{None, arith, refl, ap, length}
use Rattle.vx_srq.specs.declared.slots.SlotRow.{SlotRow}
use Rattle.vx_srq.specs.Shown.{SrqHasRoom}
use Rattle.vx_srq.proofs.Held.{added}
use Rattle.vx_srq.proofs.srq.Srq.add.Goals as goal

pub invariant_of-self : goal.invariant_of-self
invariant_of-self c =
    let slot : SlotRow = record { conn = c.args.conn; channel = None; outbox = c.in-Ok.outbox } in
    let room : SrqHasRoom slot = record { room = omega (arith, c.in-Ok.ensures.capacity); few = omega (arith, ap length c.in-Ok.ensures.items) } in
    let all = added c.self.inside _ c.push.new.self.items slot c.self.invariant room refl c.push.ensures.items in
    record { places = c.self.invariant.places; room = all.room; sound = all.sound }
