use Rattle.std.proofs.Common.{◌==◌, not, rules, arith, sym, subst, Some, None, ◌∙◌, refl}
use Rattle.std.proofs.lemmas.Fn.{filter_same}
use Rattle.std.proofs.lemmas.List.{length-map, length-set}
use Rattle.vx_locks.specs.Inside.{lock_shown}
use Rattle.vx_rules.specs.Locks.{IsApart}
use Rattle.vx_rules.proofs.Laws.Apart.{apart-without_lock, unheld_stays}
use Rattle.vx_locks.proofs.Rows.{find-shown, freed_is, freed_told, held_told}
use Rattle.vx_locks.proofs.locks.Locks.free.Goals as goal

pub invariant_of-self : goal.invariant_of-self
invariant_of-self c =
    let left = filter_same _ (λ r. not (r.lid == c.args.lid)) _ (λ x b f' k. search rules) _ _ c.retain.ensures.filtered in
    let shown = freed_is _ c.retain.new.self.items c.self.inside.rows.items c.args.lid refl left in
    let apart = apart-without_lock _ c.args.lid c.self.invariant.apart in
    let found = sym c.in-Some.is ∙ c.copied.ensures ∙ c.find_row.ensures in
    record {
      room = omega arith;
      apart = subst IsApart (sym shown) apart;
      few = omega (arith, c.self.invariant.few, c.retain.ensures.bound, length-map c.retain.new.self.items lock_shown, length-map c.self.inside.rows.items lock_shown);
      places = length-set c.self.inside.holders.items c.place_of.result None ∙ c.self.invariant.places;
      told =
          freed_told c.self.inside.rows.items c.retain.new.self.items c.deref.result.now c.self.inside.holders.items c.args.lid c.in-Some.gone c.place_of.result
          left c.deref.ensures.value found c.self.invariant.apart c.self.invariant.places c.self.invariant.told c.place_of.ensures.place c.place_of.ensures.bound;
    }

pub returns-in-Some-clause-held : goal.returns-in-Some-clause-held
returns-in-Some-clause-held c =
    let found = sym c.in-Some.is ∙ c.copied.ensures ∙ c.find_row.ensures in
    held_told c.args.self.now c.args.lid (Some (lock_shown c.in-Some.gone))
    (find-shown _ c.deref.result.now c.self.inside.rows.items c.self.view_is c.deref.ensures.value (λ k. k.link == c.args.lid) (Some c.in-Some.gone) found)

pub returns-in-Some-clause-locks : goal.returns-in-Some-clause-locks
returns-in-Some-clause-locks c =
    freed_is _ c.retain.new.self.items c.self.inside.rows.items c.args.lid c.self.view_is
    (filter_same _ (λ r. not (r.lid == c.args.lid)) _ (λ x b f' k. search rules) _ _ c.retain.ensures.filtered)

pub returns-in-None-clause-held : goal.returns-in-None-clause-held
returns-in-None-clause-held c =
    let found = sym c.in-None.is ∙ c.copied.ensures ∙ c.find_row.ensures in
    held_told c.args.self.now c.args.lid None
    (find-shown _ c.deref.result.now c.self.inside.rows.items c.self.view_is c.deref.ensures.value (λ k. k.link == c.args.lid) None found)

pub returns-in-None-clause-locks : goal.returns-in-None-clause-locks
returns-in-None-clause-locks c = sym (unheld_stays c.args.self.now c.args.lid (sym (returns-in-None-clause-held c)))
