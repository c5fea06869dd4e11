use Rattle.std.proofs.Common.{◌<◌, ap, subst, ◌∙◌, get_or}
use Rattle.std.specs.Prelude.{option_and_then, if◌then◌else◌, None, Some, ◌==◌}
use Rattle.vx_locks.specs.declared.locks.TheConstants.{PLACES}
use Rattle.vx_rules.specs.Locks.{IsApart}
use Rattle.vx_locks.specs.Inside.{TellsHolders}
use Rattle.vx_locks.proofs.Rows.{near_told}
use Rattle.vx_locks.proofs.locks.Locks.other_near.Goals as goal

pub returns : goal.returns
returns c = λ s.
    let place = c.place_of-place.ensures.place in
    let own = c.index-2.ensures ∙ ap (λ n. get_or c.self.inside.holders.items n c.index-2.result.now) place in
    near_told c.args.self.now c.self.inside.holders.items c.args.lid c.args.p s c.other_than.result c.index.result.now c.index-2.result.now
    (subst IsApart c.self.view_is c.self.invariant.apart)
    (subst (TellsHolders c.self.inside.holders.items) c.self.view_is c.self.invariant.told)
    (subst (λ n. n < PLACES) place c.place_of-place.ensures.bound)
    c.index.ensures
    own
    (c.other_than.ensures ∙ ap (option_and_then (λ n. if n == c.args.lid then None else Some n)) c.or.ensures)
