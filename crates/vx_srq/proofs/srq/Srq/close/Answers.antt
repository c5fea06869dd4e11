use Rattle.std.proofs.Common.{None, sym, subst}
use Rattle.std.specs.List.{All}
use Rattle.vx_rules.specs.SrqState.{IsSound, slot_with}
use Rattle.vx_srq.specs.Shown.{SrqHasRoom}
use Rattle.vx_srq.specs.Inside.{srq_state_of}
use Rattle.vx_srq.proofs.Held.{changed_to, with_slots}
use Rattle.vx_srq.proofs.Laws.Sound.{sound-closed}
use Rattle.vx_srq.proofs.srq.Srq.close.Goals as goal

pub invariant_of-self : goal.invariant_of-self
invariant_of-self c =
    let t = c.self.inside in
    let all = changed_to t (slot_with c.args.conn None) c.deref_mut.result.now c.close_channel.new.slots c.deref_mut.ensures.value c.close_channel.ensures.slots in
    record {
      places = c.self.invariant.places;
      room = subst (All SrqHasRoom) (sym all.same) c.close_channel.ensures.room;
      sound = subst (λ ps. IsSound (with_slots t ps)) (sym all.shown) (sound-closed (srq_state_of t) c.args.conn c.self.invariant.sound);
    }
