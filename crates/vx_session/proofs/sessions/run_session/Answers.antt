use Rattle.std.proofs.Common.{◌≡◌, ◌≤◌, Some, None, refl, sym, ◌∙◌, subst, rules}
use Rattle.std.proofs.lemmas.Option.{none-some}
use Rattle.vx_session.proofs.Laws.Attended.{desk-keeps}
use Rattle.vx_session.proofs.Laws.OneBusSessions.{as_it_is, desk-did, desk-later}
use Rattle.vx_session.proofs.sessions.run_session.Goals as goal

pub unreachable-requires : goal.unreachable-requires
unreachable-requires g c =
    let name = desk-keeps _ (λ s. s.held.ghost_name) (λ s s' xid call reply did. did.1) (λ s s' xid lid reply did. did.1) (λ s s' did. did.1) g.L.Link _ _ _ _ _ _ c.serve_session-end.ensures.did in
    let free = c.serve_session-end.ensures.free in
    none-some free.pass (sym (subst (λ held. held ≡ None) (search (rules, name)) c.in_default.is) ∙ free.has)

pub returns-clause-did : goal.returns-clause-did
returns-clause-did g c =
    let did = c.serve_session-end.ensures.did in
    let held = desk-keeps _ (λ s. s.held.ghost_name) (λ s s' xid call reply did. did.1) (λ s s' xid lid reply did. did.1) (λ s s' did. did.1) g.L.Link _ _ _ _ _ _ did in
    let clock = desk-keeps _ (λ s. s.clock.ghost_name) (λ s s' xid call reply did. did.2) (λ s s' xid lid reply did. did.2) (λ s s' did. did.2) g.L.Link _ _ _ _ _ _ did in
    let dial = desk-keeps _ (λ s. s.dial.ghost_name) (λ s s' xid call reply did. did.3) (λ s s' xid lid reply did. did.3) (λ s s' did. did.3) g.L.Link _ _ _ _ _ _ did in
    desk-did g.B.Bus g.C.Clock g.D.Dial _ (λ s. g.T.Turns.first s.worker.turns.now) (λ first. first) (λ first asked. asked) (λ first m. m) (λ first. as_it_is) (λ s. g.T.Turns.gate s.worker.turns.now) (λ s. s.worker.conn) (λ s. s.held.now) (λ s. s.clock.now) (λ s. s.dial.now)
    (λ s r idle. idle) (λ s s' xid call reply did. did.0) (λ s s' xid lid reply did. did.0) (λ s s' xid call reply did. did.4) (λ s s' xid lid reply did. did.4) (λ s s' did. did.0)
    g.L.Link c.claims_law.ensures.claims c.owned_law.ensures c.args.worker.now.role _ c.serve_session-end.result.0 c.args.pass c.in-Some.pass _ _ _ _ _ refl
    (subst (λ o. o ≡ Some c.in-Some.pass) (search (rules, held)) c.in-Some.is) (search (rules, clock)) (search (rules, dial)) did

pub returns-clause-told : goal.returns-clause-told
returns-clause-told g c =
    let did = c.serve_session-end.ensures.did in
    let clock = desk-keeps _ (λ s. s.clock.ghost_name) (λ s s' xid call reply did. did.2) (λ s s' xid lid reply did. did.2) (λ s s' did. did.2) g.L.Link _ _ _ _ _ _ did in
    subst (λ k. g.C.Clock.told c.args.clock.now ≤ g.C.Clock.told k) (search (rules, clock))
    (desk-later g.B.Bus g.C.Clock g.D.Dial _ (λ s. g.T.Turns.first s.worker.turns.now) (λ first. first) (λ first asked. asked) (λ first m. m) (λ first. as_it_is) (λ s. g.T.Turns.gate s.worker.turns.now) (λ s. s.worker.conn) (λ s. s.held.now) (λ s. s.clock.now) (λ s. s.dial.now)
    (λ s r idle. idle) (λ s s' xid call reply did. did.0) (λ s s' xid lid reply did. did.0) (λ s s' xid call reply did. did.4) (λ s s' xid lid reply did. did.4) (λ s s' did. did.0)
    g.L.Link c.args.worker.now.role _ c.serve_session-end.result.0 c.args.pass _ _ _ refl did)
