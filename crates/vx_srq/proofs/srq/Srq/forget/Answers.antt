use Rattle.std.proofs.Common.{◌==◌, not, map, arith, rules, ap, sym, subst, ◌∙◌}
use Rattle.std.proofs.lemmas.Fn.{filter_same}
use Rattle.vx_lemmas.proofs.Laws.Lists.{filter-map}
use Rattle.vx_rules.specs.SrqState.{SrqState, IsSound, without_enable}
use Rattle.vx_srq.specs.Shown.{enable_shown}
use Rattle.vx_srq.specs.Inside.{srq_state_of}
use Rattle.vx_srq.proofs.Laws.Sound.{sound-without_enable}
use Rattle.vx_srq.proofs.srq.Srq.forget.Goals as goal

pub invariant_of-self : goal.invariant_of-self
invariant_of-self c =
    let left = filter_same _ (λ r. not (r.lid == c.args.lid)) _ (λ x b f' k. search rules) _ _ c.retain.ensures.filtered in
    let shown = ap (map enable_shown) left ∙ filter-map enable_shown (λ e. not (e.link == c.args.lid)) c.self.inside.enables.items in
    record {
      places = omega arith;
      room = c.self.invariant.room;
      sound = subst (λ es. let d : SrqState = record (srq_state_of c.self.inside) { enables = es } in IsSound d) (sym shown) (sound-without_enable (srq_state_of c.self.inside) c.args.lid c.self.invariant.sound);
    }

pub returns : goal.returns
returns c =
    let left = filter_same _ (λ r. not (r.lid == c.args.lid)) _ (λ x b f' k. search rules) _ _ c.retain.ensures.filtered in
    ap (λ es. let d : SrqState = record (srq_state_of c.self.inside) { enables = es } in d) (ap (map enable_shown) left ∙ filter-map enable_shown (λ e. not (e.link == c.args.lid)) c.self.inside.enables.items)
    ∙ ap (λ d. without_enable d c.args.lid) c.self.view_is
