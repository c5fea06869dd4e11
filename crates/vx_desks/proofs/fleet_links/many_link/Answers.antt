use Rattle.std.proofs.Common.{◌≡◌, ◌≤◌, Some, None, refl, sym, ap, ◌∙◌, subst, rules}
use Rattle.std.specs.Prelude.{option_map}
use Rattle.std.proofs.lemmas.Option.{none-some, same_Some}
use Rattle.vx_desks.specs.Passing.{passes_shown, IsOf}
use Rattle.vx_desks.specs.Standing.{gates_shown, firsts_shown}
use Rattle.vx_desks.specs.Holding.{four_of}
use Rattle.vx_desks.specs.Four.{Each}
use Rattle.vx_calls.specs.declared.calls.Role.TheVariants as role
use Rattle.vx_session.proofs.Laws.Attended.{link-keeps}
use Rattle.vx_desks.proofs.FleetSessions.{fleet-link-did, fleet-link-later}
use Rattle.vx_desks.proofs.fleet_links.many_link.Goals as goal

pub serve_link-how-requires : goal.serve_link-how-requires
serve_link-how-requires g c = record { free = record { passes = passes_shown c.args.passes; has = refl; of = c.requires.gates } }

pub unreachable-requires : goal.unreachable-requires
unreachable-requires g c =
    let name = link-keeps _ (λ s. s.held.ghost_name) (λ s s' xid call reply did. did.1) (λ s s' xid lid reply did. did.1) (λ s s' did. did.1) (λ s s' r answer did. did.1) g.L.Link _ _ _ _ _ _ c.serve_link-how.ensures.did in
    let free = c.serve_link-how.ensures.free in
    none-some free.passes (sym (ap (option_map passes_shown) (subst (λ held. held ≡ None) (search (rules, name)) c.in_default.is)) ∙ free.has)

pub returns-clause-did : goal.returns-clause-did
returns-clause-did g c =
    let did = c.serve_link-how.ensures.did in
    let held = link-keeps _ (λ s. s.held.ghost_name) (λ s s' xid call reply did. did.1) (λ s s' xid lid reply did. did.1) (λ s s' did. did.1) (λ s s' r answer did. did.1) g.L.Link _ _ _ _ _ _ did in
    let clock = link-keeps _ (λ s. s.clock.ghost_name) (λ s s' xid call reply did. did.2) (λ s s' xid lid reply did. did.2) (λ s s' did. did.2) (λ s s' r answer did. did.2) g.L.Link _ _ _ _ _ _ did in
    let left : c.serve_link-how.result.0.held.now ≡ Some c.in-Some.passes = subst (λ o. o ≡ Some c.in-Some.passes) (search (rules, held)) c.in-Some.is in
    fleet-link-did g.B.Bus g.C.Clock _ (λ s. firsts_shown s.worker.buses.now) (λ s. gates_shown s.worker.buses.now) (λ s. s.worker.count) (λ s. four_of s.worker.conns) (λ s. option_map passes_shown s.held.now) (λ s. s.clock.now)
    (λ s r idle. idle) (λ s s' xid call reply did. did.0) (λ s s' xid lid reply did. did.0) (λ s s' xid call reply did. ap firsts_shown did.3) (λ s s' xid lid reply did. ap firsts_shown did.3) (λ s s' did. did.0)
    (λ s s' r answer did. did.0) (λ s s' r answer did. ap firsts_shown did.3)
    g.L.Link c.fleet_law.ensures.claims c.fleet_law.ensures.owned c.fleet_law.ensures.links c.fleet_law.ensures.once _ c.serve_link-how.result.0 (passes_shown c.args.passes) (passes_shown c.in-Some.passes) _ _ _ _
    refl (ap (option_map passes_shown) left) (search (rules, clock)) did

pub returns-clause-gates : goal.returns-clause-gates
returns-clause-gates g c =
    let did = c.serve_link-how.ensures.did in
    let held = link-keeps _ (λ s. s.held.ghost_name) (λ s s' xid call reply did. did.1) (λ s s' xid lid reply did. did.1) (λ s s' did. did.1) (λ s s' r answer did. did.1) g.L.Link _ _ _ _ _ _ did in
    let buses = link-keeps _ (λ s. s.worker.buses.now) (λ s s' xid call reply did. did.3) (λ s s' xid lid reply did. did.3) (λ s s' did. did.3) (λ s s' r answer did. did.3) g.L.Link _ _ _ _ _ _ did in
    let left : c.serve_link-how.result.0.held.now ≡ Some c.in-Some.passes = subst (λ o. o ≡ Some c.in-Some.passes) (search (rules, held)) c.in-Some.is in
    let free = c.serve_link-how.ensures.free in
    subst (λ b. Each IsOf (passes_shown c.in-Some.passes) (gates_shown b)) buses
    (subst (λ p. Each IsOf p (gates_shown c.serve_link-how.result.0.worker.buses.now)) (same_Some _ _ (sym free.has ∙ ap (option_map passes_shown) left)) free.of)

pub returns-clause-told : goal.returns-clause-told
returns-clause-told g c =
    let did = c.serve_link-how.ensures.did in
    let clock = link-keeps _ (λ s. s.clock.ghost_name) (λ s s' xid call reply did. did.2) (λ s s' xid lid reply did. did.2) (λ s s' did. did.2) (λ s s' r answer did. did.2) g.L.Link _ _ _ _ _ _ did in
    subst (λ now. g.C.Clock.told c.args.clock.now ≤ g.C.Clock.told now) (search (rules, clock))
    (fleet-link-later g.B.Bus g.C.Clock _ (λ s. firsts_shown s.worker.buses.now) (λ s. gates_shown s.worker.buses.now) (λ s. s.worker.count) (λ s. four_of s.worker.conns) (λ s. option_map passes_shown s.held.now) (λ s. s.clock.now)
    (λ s r idle. idle) (λ s s' xid call reply did. did.0) (λ s s' xid lid reply did. did.0) (λ s s' xid call reply did. ap firsts_shown did.3) (λ s s' xid lid reply did. ap firsts_shown did.3) (λ s s' did. did.0)
    (λ s s' r answer did. did.0) (λ s s' r answer did. ap firsts_shown did.3)
    g.L.Link role.Core _ c.serve_link-how.result.0 _ _ _ did)
