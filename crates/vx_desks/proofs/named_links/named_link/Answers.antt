use Rattle.std.proofs.Common.{◌≡◌, ◌≤◌, Some, None, refl, sym, ◌∙◌, subst, rules}
use Rattle.std.proofs.lemmas.Option.{none-some}
use Rattle.vx_calls.specs.declared.calls.Role.TheVariants as role
use Rattle.vx_session.proofs.Laws.Attended.{link-keeps}
use Rattle.vx_session.proofs.Laws.OneBusSessions.{link-did, link-later}
use Rattle.vx_desks.specs.Names.{named, as_named}
use Rattle.vx_desks.proofs.NoNames.{as-named}
use Rattle.vx_desks.proofs.named_links.named_link.Goals as goal

pub unreachable-requires-in_default-held : goal.unreachable-requires-in_default-held
unreachable-requires-in_default-held g c =
    let did = rw c.in-Some.is at c.serve_named.ensures.did in
    let name = link-keeps _ (λ s. s.held.ghost_name) (λ s s' xid call reply did. did.1) (λ s s' xid lid reply did. did.1) (λ s s' did. did.1) (λ s s' r answer did. did.1) g.L.Link _ _ _ _ _ _ did in
    let free = c.serve_named.ensures.free in
    none-some free.pass (sym (subst (λ held. held ≡ None) (search (rules, name)) c.in_default-held.is) ∙ free.has)

pub returns-clause-did : goal.returns-clause-did
returns-clause-did g c =
    let did = rw c.in-Some.is at c.serve_named.ensures.did in
    let held = link-keeps _ (λ s. s.held.ghost_name) (λ s s' xid call reply did. did.1) (λ s s' xid lid reply did. did.1) (λ s s' did. did.1) (λ s s' r answer did. did.1) g.L.Link _ _ _ _ _ _ did in
    let clock = link-keeps _ (λ s. s.clock.ghost_name) (λ s s' xid call reply did. did.2) (λ s s' xid lid reply did. did.2) (λ s s' did. did.2) (λ s s' r answer did. did.2) g.L.Link _ _ _ _ _ _ did in
    let dial = link-keeps _ (λ s. s.dial.ghost_name) (λ s s' xid call reply did. did.3) (λ s s' xid lid reply did. did.3) (λ s s' did. did.3) (λ s s' r answer did. did.3) g.L.Link _ _ _ _ _ _ did in
    link-did g.B.Bus g.C.Clock g.D.Dial _ (λ s. g.T.Turns.first s.worker.turns.now) (λ first. first) (λ first. named c.args.names.now) (λ first. as_named c.args.names.now) (λ first. as-named c.args.names.now)
    (λ s. g.T.Turns.gate s.worker.turns.now) (λ s. s.worker.conn) (λ s. s.held.now) (λ s. s.clock.now) (λ s. s.dial.now)
    (λ s r idle. idle) (λ s s' xid call reply did. did.0) (λ s s' xid lid reply did. did.0) (λ s s' xid call reply did. did.4) (λ s s' xid lid reply did. did.4) (λ s s' did. did.0)
    (λ s s' r answer did. did.0) (λ s s' r answer did. did.4)
    g.L.Link c.claims_law.ensures.claims c.owned_law.ensures role.Core _ c.serve_named.result c.args.pass c.in-Some-held.pass _ _ _ _ _ refl
    (subst (λ o. o ≡ Some c.in-Some-held.pass) (search (rules, held)) c.in-Some-held.is) (search (rules, clock)) (search (rules, dial)) did

pub returns-clause-told : goal.returns-clause-told
returns-clause-told g c =
    let did = rw c.in-Some.is at c.serve_named.ensures.did in
    let clock = link-keeps _ (λ s. s.clock.ghost_name) (λ s s' xid call reply did. did.2) (λ s s' xid lid reply did. did.2) (λ s s' did. did.2) (λ s s' r answer did. did.2) g.L.Link _ _ _ _ _ _ did in
    subst (λ k. g.C.Clock.told c.args.clock.now ≤ g.C.Clock.told k) (search (rules, clock))
    (link-later g.B.Bus g.C.Clock g.D.Dial _ (λ s. g.T.Turns.first s.worker.turns.now) (λ first. first) (λ first. named c.args.names.now) (λ first. as_named c.args.names.now) (λ first. as-named c.args.names.now)
    (λ s. g.T.Turns.gate s.worker.turns.now) (λ s. s.worker.conn) (λ s. s.held.now) (λ s. s.clock.now) (λ s. s.dial.now)
    (λ s r idle. idle) (λ s s' xid call reply did. did.0) (λ s s' xid lid reply did. did.0) (λ s s' xid call reply did. did.4) (λ s s' xid lid reply did. did.4) (λ s s' did. did.0)
    (λ s s' r answer did. did.0) (λ s s' r answer did. did.4)
    g.L.Link role.Core _ c.serve_named.result _ _ _ did)
