use Rattle.std.proofs.Common.{◌==◌, not, map, arith, rules, ap, sym, subst, ◌∙◌}
use Rattle.std.proofs.lemmas.Fn.{filter_same}
use Rattle.std.proofs.lemmas.List.Elements.{All-filter}
use Rattle.std.specs.List.{All}
use Rattle.vx_lemmas.proofs.Laws.Lists.{filter-map}
use Rattle.vx_rules.specs.SrqState.{SrqState, IsSound, without_slot}
use Rattle.vx_srq.specs.Shown.{slot_shown, enable_shown, SrqHasRoom}
use Rattle.vx_srq.specs.Inside.{srq_state_of}
use Rattle.vx_srq.proofs.Laws.Sound.{sound-without_slot}
use Rattle.vx_srq.proofs.srq.Srq.gone.Goals as goal

pub invariant_of-self : goal.invariant_of-self
invariant_of-self c =
    let t = c.self.inside in
    let slots = filter_same _ (λ r. not (r.conn == c.args.conn)) _ (λ x b f' k. search rules) _ _ c.retain.ensures.filtered in
    let enables = filter_same _ (λ r. not (r.conn == c.args.conn)) _ (λ x b f' k. search rules) _ _ c.retain-2.ensures.filtered in
    let slots_shown = ap (map slot_shown) slots ∙ filter-map slot_shown (λ p. not (p.connection == c.args.conn)) t.slots.items in
    let enables_shown = ap (map enable_shown) enables ∙ filter-map enable_shown (λ e. not (e.connection == c.args.conn)) t.enables.items in
    let left : IsSound (record (without_slot (srq_state_of t) c.args.conn) { enables = map enable_shown c.retain-2.new.self.items }) =
    subst (λ es. let d : SrqState = record (without_slot (srq_state_of t) c.args.conn) { enables = es } in IsSound d) (sym enables_shown)
    (sound-without_slot (srq_state_of t) c.args.conn c.self.invariant.sound) in
    record {
      places = omega arith;
      room = subst (All SrqHasRoom) (sym slots) (All-filter (λ r. not (r.conn == c.args.conn)) SrqHasRoom t.slots.items c.self.invariant.room);
      sound = subst (λ ps. let d : SrqState = record (srq_state_of t) { slots = ps; enables = map enable_shown c.retain-2.new.self.items } in IsSound d) (sym slots_shown) left;
    }

pub returns : goal.returns
returns c =
    let t = c.self.inside in
    let slots = filter_same _ (λ r. not (r.conn == c.args.conn)) _ (λ x b f' k. search rules) _ _ c.retain.ensures.filtered in
    let enables = filter_same _ (λ r. not (r.conn == c.args.conn)) _ (λ x b f' k. search rules) _ _ c.retain-2.ensures.filtered in
    ap (λ ps. let d : SrqState = record (srq_state_of t) { slots = ps; enables = map enable_shown c.retain-2.new.self.items } in d)
    (ap (map slot_shown) slots ∙ filter-map slot_shown (λ p. not (p.connection == c.args.conn)) t.slots.items)
    ∙ ap (λ es. let d : SrqState = record (without_slot (srq_state_of t) c.args.conn) { enables = es } in d)
    (ap (map enable_shown) enables ∙ filter-map enable_shown (λ e. not (e.connection == c.args.conn)) t.enables.items)
    ∙ ap (λ d. without_slot d c.args.conn) c.self.view_is
