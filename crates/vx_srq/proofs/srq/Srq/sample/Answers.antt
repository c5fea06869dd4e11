use Rattle.std.proofs.Common.{map, ap, sym, subst, ◌∙◌}
use Rattle.std.specs.List.{All}
use Rattle.vx_srq.specs.declared.srq.Srq.TheInside.{Inside}
use Rattle.vx_rules.specs.SrqState.{SrqState, IsSound, risen_slot}
use Rattle.vx_srq.specs.Shown.{slot_shown, enable_shown, SrqHasRoom}
use Rattle.vx_srq.specs.Inside.{srq_state_of, IsSrqKept}
use Rattle.vx_srq.proofs.Held.{changed_to, kept_level}
use Rattle.vx_srq.proofs.Laws.Sound.{sound-risen}
use Rattle.vx_srq.proofs.srq.Srq.sample.Goals as goal
use Rattle.vx_srq.proofs.srq.Srq.sample.Goals.{then-level+then-not-self, else-level}

pub invariant_of-self : goal.invariant_of-self
invariant_of-self c =
    let t = c.self.inside in
    let P : Inside → Type 0 = λ u. IsSrqKept (record u { level = c.args.level }) in
    elim c.if-level.branch [
      | then-level+then-not-self w ↦
          let f = risen_slot (map enable_shown t.enables.items) in
          let shown = w.rise.ensures.slots ∙ ap (λ es. map (risen_slot (map enable_shown es)) (map slot_shown w.deref_mut.result.now)) w.deref.ensures.value in
          let all = changed_to t f w.deref_mut.result.now w.rise.new.slots w.deref_mut.ensures.value shown in
          subst P (sym w.self-inside-is) (record {
            places = c.self.invariant.places;
            room = subst (All SrqHasRoom) (sym all.same) w.rise.ensures.room;
            sound = subst (λ ps. let d : SrqState = record (srq_state_of t) { slots = ps; level = c.args.level } in IsSound d) (sym all.shown)
                (sound-risen (srq_state_of t) c.args.level c.self.invariant.sound);
          })
      | else-level w ↦ subst P (sym w.self-inside-is) (kept_level t c.args.level c.self.invariant)
    ]
