use Rattle.std.proofs.Common.{◌≡◌, ◌≤◌, Some, None, refl, sym, ap, ◌∙◌, subst, rules}
use Rattle.std.specs.Prelude.{option_map}
use Rattle.std.proofs.lemmas.Option.{none-some}
use Rattle.vx_desks.specs.Passing.{passes_shown}
use Rattle.vx_desks.specs.Standing.{gates_shown, firsts_shown}
use Rattle.vx_desks.specs.Holding.{four_of}
use Rattle.vx_session.proofs.Laws.Attended.{desk-keeps}
use Rattle.vx_desks.proofs.FleetSessions.{fleet-did, fleet-later}
use Rattle.vx_desks.proofs.fleet_sessions.run_session.Goals as goal

pub serve_session-end-requires : goal.serve_session-end-requires
serve_session-end-requires g c = record { idle = record { passes = passes_shown c.args.pass; has = refl; holds = c.requires.holds } }

pub unreachable-requires : goal.unreachable-requires
unreachable-requires g c =
    let name = desk-keeps _ (λ s. s.held.ghost_name) (λ s s' xid call reply did. did.1) (λ s s' xid lid reply did. did.1) (λ s s' did. did.1) g.L.Link _ _ _ _ _ _ c.serve_session-end.ensures.did in
    let free = c.serve_session-end.ensures.free in
    none-some free.passes (sym (ap (option_map passes_shown) (subst (λ held. held ≡ None) (search (rules, name)) c.in_default.is)) ∙ free.has)

pub returns-clause-did : goal.returns-clause-did
returns-clause-did g c =
    let did = c.serve_session-end.ensures.did in
    let held = desk-keeps _ (λ s. s.held.ghost_name) (λ s s' xid call reply did. did.1) (λ s s' xid lid reply did. did.1) (λ s s' did. did.1) g.L.Link _ _ _ _ _ _ did in
    let clock = desk-keeps _ (λ s. s.clock.ghost_name) (λ s s' xid call reply did. did.2) (λ s s' xid lid reply did. did.2) (λ s s' did. did.2) g.L.Link _ _ _ _ _ _ did in
    let left : c.serve_session-end.result.0.held.now ≡ Some c.in-Some.pass = subst (λ o. o ≡ Some c.in-Some.pass) (search (rules, held)) c.in-Some.is in
    fleet-did g.B.Bus g.C.Clock _ (λ s. firsts_shown s.worker.buses.now) (λ s. gates_shown s.worker.buses.now) (λ s. s.worker.count) (λ s. four_of s.worker.conns) (λ s. option_map passes_shown s.held.now) (λ s. s.clock.now)
    (λ s r idle. idle) (λ s s' xid call reply did. did.0) (λ s s' xid lid reply did. did.0) (λ s s' xid call reply did. ap firsts_shown did.3) (λ s s' xid lid reply did. ap firsts_shown did.3) (λ s s' did. did.0)
    g.L.Link c.fleet_law.ensures.claims c.fleet_law.ensures.owned c.fleet_law.ensures.links c.fleet_law.ensures.once c.args.worker.now.role _ c.serve_session-end.result.0 (passes_shown c.args.pass) (passes_shown c.in-Some.pass) _ _ _ _
    refl (ap (option_map passes_shown) left) (search (rules, clock)) did

pub returns-clause-told : goal.returns-clause-told
returns-clause-told g c =
    let did = c.serve_session-end.ensures.did in
    let clock = desk-keeps _ (λ s. s.clock.ghost_name) (λ s s' xid call reply did. did.2) (λ s s' xid lid reply did. did.2) (λ s s' did. did.2) g.L.Link _ _ _ _ _ _ did in
    subst (λ now. g.C.Clock.told c.args.clock.now ≤ g.C.Clock.told now) (search (rules, clock))
    (fleet-later g.B.Bus g.C.Clock _ (λ s. firsts_shown s.worker.buses.now) (λ s. gates_shown s.worker.buses.now) (λ s. s.worker.count) (λ s. four_of s.worker.conns) (λ s. option_map passes_shown s.held.now) (λ s. s.clock.now)
    (λ s r idle. idle) (λ s s' xid call reply did. did.0) (λ s s' xid lid reply did. did.0) (λ s s' xid call reply did. ap firsts_shown did.3) (λ s s' xid lid reply did. ap firsts_shown did.3) (λ s s' did. did.0)
    g.L.Link c.args.worker.now.role _ c.serve_session-end.result.0 (passes_shown c.args.pass) _ _ _ refl did)
