use Rattle.std.proofs.Common.{◌≡◌, ◌-◌, ◌≤◌, take, drop, refl, sym, subst, arith}
use Rattle.std.proofs.lemmas.List.{length-take}
use Rattle.vx_loop.specs.LoopState.{ServedState}
use Rattle.vx_loop.specs.Standing.{Went}
use Rattle.vx_loop.proofs.Going.{seen, gives}
use Rattle.vx_loop.proofs.served.Serving.give.Goals as goal

pub returns-clause-went : goal.returns-clause-went
returns-clause-went g c start taken given w =
    let from = c.self.inside.from in
    let to = c.self.inside.to in
    let items = c.self.inside.reply.items in
    let count = c.copy_front-count.result in
    let s = seen c.self.inside.core c.self.inside.buffer c.self.inside.xid from to items in
    let order : from ≤ to = c.self.invariant.1 in
    let len = length-take (to - from) (drop from c.deref.result.now) in
    let most = c.copy_front-count.ensures.count in
    gives s from to count items c.copy_front-count.new.into refl
    (subst (λ xs. take count c.copy_front-count.new.into ≡ take count (take (to - from) (drop from xs))) c.deref.ensures.value c.copy_front-count.ensures.bytes) (omega arith) order start taken given
    (subst (λ (x : ServedState). Went start x taken given) (sym c.self.view_is) w)
