use Rattle.std.proofs.Common.{◌≤◌, ◌+◌, Some, ap, sym, subst, ◌∙◌}
use Rattle.std.specs.List.{All}
use Rattle.std.proofs.lemmas.Bool.{leb-true}
use Rattle.vx_calls.specs.declared.limits.TheConstants.{CONNECTION_LAST}
use Rattle.vx_rules.specs.SrqState.{SrqState, IsSound, new_channel, slot_with, has_number}
use Rattle.vx_srq.specs.Shown.{SrqHasRoom}
use Rattle.vx_srq.specs.Inside.{srq_state_of}
use Rattle.vx_srq.proofs.Held.{changed_to}
use Rattle.vx_srq.proofs.Laws.Sound.{sound-with_new_channel}
use Rattle.vx_srq.proofs.srq.Srq.make.Goals as goal

pub invariant_of-self : goal.invariant_of-self
invariant_of-self c =
    let t = c.self.inside in
    let f = slot_with c.args.conn (Some (new_channel t.next c.args.prog c.args.vers)) in
    let all = changed_to t f c.deref_mut.result.now c.open_channel.new.slots c.deref_mut.ensures.value c.open_channel.ensures.slots in
    let left : t.next ≤ CONNECTION_LAST = leb-true t.next CONNECTION_LAST (ap has_number c.self.view_is ∙ sym c.if-not-has_number.ensures) in
    record {
      places = c.self.invariant.places;
      room = subst (All SrqHasRoom) (sym all.same) c.open_channel.ensures.room;
      sound = subst (λ ps. let d : SrqState = record (srq_state_of t) { slots = ps; next_channel = t.next + 1 } in IsSound d) (sym all.shown)
          (sound-with_new_channel (srq_state_of t) c.args.conn c.args.prog c.args.vers c.self.invariant.sound left);
    }
