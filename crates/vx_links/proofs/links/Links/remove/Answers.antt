use Rattle.std.proofs.Common.{◌==◌, true, false, refl, arith, sym, subst, ◌∙◌}
use Rattle.std.proofs.lemmas.List.Folds.{list_any_none}
use Rattle.vx_rules.specs.Table.{IsNumbered}
use Rattle.vx_rules.proofs.Laws.Numbers.{numbered-without_link}
use Rattle.vx_links.proofs.Laws.Places.{any-place, none_equals}
use Rattle.vx_links.proofs.Rows.{any-shown, numbered_is, rows_rising, taken_away, all_left, removed_is}
use Rattle.vx_links.proofs.links.Links.remove.Goals as goal

pub place_of-requires : goal.place_of-requires
place_of-requires c = record { rising = rows_rising c.self.inside c.deref.result.now c.deref.ensures.value c.self.invariant }

pub invariant_of-self : goal.invariant_of-self
invariant_of-self c =
    let place = c.in-Some.ensures.place in
    let left = taken_away c.self.inside c.deref.result.now c.remove.new.self.items c.args.lid c.in-Some.place c.deref.ensures.value c.self.invariant place.0 place.1 c.remove.ensures.items in
    let shown = removed_is c.args.self.now c.self.inside c.remove.new.self.items c.args.lid c.self.view_is left in
    record {
      room = omega arith;
      numbered = subst IsNumbered (sym shown) (numbered-without_link c.args.self.now c.args.lid (numbered_is _ c.self.inside c.self.view_is c.self.invariant));
    }

pub returns-in-Some-clause-live : goal.returns-in-Some-clause-live
returns-in-Some-clause-live c =
    let place = c.in-Some.ensures.place in
    let rising = rows_rising c.self.inside c.deref.result.now c.deref.ensures.value c.self.invariant in
    any-shown c.args.self.now c.self.inside c.deref.result.now c.self.view_is c.deref.ensures.value (λ l. l.number == c.args.lid) true
    (sym (any-place (λ r. r.lid) c.deref.result.now c.args.lid rising c.in-Some.place place.0 place.1 c.remove.result))

pub returns-in-Some-clause-links : goal.returns-in-Some-clause-links
returns-in-Some-clause-links c =
    let place = c.in-Some.ensures.place in
    let left = taken_away c.self.inside c.deref.result.now c.remove.new.self.items c.args.lid c.in-Some.place c.deref.ensures.value c.self.invariant place.0 place.1 c.remove.ensures.items in
    removed_is c.args.self.now c.self.inside c.remove.new.self.items c.args.lid c.self.view_is left

pub returns-in-None-clause-live : goal.returns-in-None-clause-live
returns-in-None-clause-live c =
    any-shown c.args.self.now c.self.inside c.deref.result.now c.self.view_is c.deref.ensures.value (λ l. l.number == c.args.lid) false
    (sym (list_any_none (λ r. r.lid == c.args.lid) c.deref.result.now (none_equals (λ r. r.lid) c.deref.result.now c.args.lid (c.in-None.ensures.none refl))))

pub returns-in-None-clause-links : goal.returns-in-None-clause-links
returns-in-None-clause-links c =
    sym c.self.view_is
    ∙ removed_is c.args.self.now c.self.inside c.self.inside.rows.items c.args.lid c.self.view_is
    (all_left c.self.inside c.deref.result.now c.args.lid c.deref.ensures.value (c.in-None.ensures.none refl))
