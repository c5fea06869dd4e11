use Rattle.std.proofs.Common.{◌≡◌, false, ◌∷◌, [], Some, arith, ap, length, sym, subst, ◌∙◌}
use Rattle.std.proofs.lemmas.List.{length-append, length-set}
use Rattle.vx_rules.specs.Locks.{IsApart, Lock, holds, is_blocked}
use Rattle.vx_rules.proofs.Laws.Apart.{apart-with_lock}
use Rattle.vx_locks.proofs.Rows.{taken_is, taken_told}
use Rattle.vx_locks.proofs.locks.Locks.take.Goals as goal

pub invariant_of-self : goal.invariant_of-self
invariant_of-self c =
    let apart = apart-with_lock c.args.self.now c.args.lid c.args.target (subst IsApart c.self.view_is c.self.invariant.apart) c.requires.none c.requires.free in
    let shown = taken_is c.args.self.now c.push_reserved.new.self.items c.self.inside.rows.items (record { lid = c.args.lid; target = c.args.target }) c.self.view_is c.push_reserved.ensures.items in
    let granted : Lock = record { link = c.args.lid; target = c.args.target } in
    let none = subst (λ locks. holds locks c.args.lid ≡ false) (sym c.self.view_is) c.requires.none in
    let free = subst (λ locks. is_blocked locks c.args.lid c.args.target ≡ false) (sym c.self.view_is) c.requires.free in
    record {
      room = omega arith;
      apart = subst IsApart (sym shown) apart;
      few = omega (arith, c.requires.room, ap length shown, length-append c.args.self.now (granted ∷ []));
      places = length-set c.self.inside.holders.items c.place_of.result (Some c.args.lid) ∙ c.self.invariant.places;
      told =
          taken_told c.self.inside.rows.items c.push_reserved.new.self.items c.self.inside.holders.items (record { lid = c.args.lid; target = c.args.target }) c.place_of.result
          c.push_reserved.ensures.items none free c.self.invariant.places c.self.invariant.told c.place_of.ensures.place c.place_of.ensures.bound;
    }
