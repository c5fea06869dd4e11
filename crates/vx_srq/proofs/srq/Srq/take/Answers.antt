use Rattle.std.proofs.Common.{◌==◌, map, find, ap, sym, subst, refl, ◌∙◌}
use Rattle.std.specs.List.{All}
use Rattle.vx_rules.specs.SrqState.{IsSound, slot_taken, given_by}
use Rattle.vx_srq.specs.Shown.{slot_shown, SrqHasRoom}
use Rattle.vx_srq.specs.Inside.{srq_state_of}
use Rattle.vx_srq.proofs.Held.{changed_to, channel_found, with_slots}
use Rattle.vx_srq.proofs.Laws.Sound.{sound-taken}
use Rattle.vx_srq.proofs.srq.Srq.take.Goals as goal

pub invariant_of-self : goal.invariant_of-self
invariant_of-self c =
    let t = c.self.inside in
    let all = changed_to t (slot_taken c.args.conn c.args.chan) c.deref_mut.result.now c.drop_front.new.slots c.deref_mut.ensures.value c.drop_front.ensures.slots in
    record {
      places = c.self.invariant.places;
      room = subst (All SrqHasRoom) (sym all.same) c.drop_front.ensures.room;
      sound = subst (λ ps. IsSound (with_slots t ps)) (sym all.shown) (sound-taken (srq_state_of t) c.args.conn c.args.chan c.self.invariant.sound);
    }

pub returns-clause-given : goal.returns-clause-given
returns-clause-given c =
    let rows = c.deref.result.now in
    c.front-taken.ensures
    ∙ ap (λ o. given_by o c.args.chan)
    (sym (channel_found c.args.self.now rows c.args.conn (find (λ r. r.conn == c.args.conn) rows) (ap (map slot_shown) c.deref.ensures.value ∙ ap (λ d. d.slots) c.self.view_is) refl))
