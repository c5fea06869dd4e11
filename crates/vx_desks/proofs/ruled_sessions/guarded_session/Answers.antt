use Rattle.std.proofs.Common.{◌≡◌, ◌≤◌, Some, None, refl, sym, ap, ◌∙◌, subst, rules}
use Rattle.std.proofs.lemmas.Option.{none-some}
use Rattle.vx_text.specs.Ends.{sink_shown}
use Rattle.vx_session.specs.Dialing.{dial_shown}
use Rattle.vx_session.proofs.Laws.OneBusSessions.{as_it_is}
use Rattle.vx_desks.proofs.Ruling.{Lent, seat_of, lent_of, state_of, session-so}
use Rattle.vx_desks.proofs.ruled_sessions.guarded_session.Goals as goal

pub unreachable-requires : goal.unreachable-requires
unreachable-requires g c =
    let run = session-so g.B.Bus g.C.Clock.tells (λ _ asked. asked) (λ _ m. m) (λ _. as_it_is) _ _ c.guard_laws.ensures (record {
      seat = seat_of g.C.Clock g.D.Dial;
      lent = lent_of g.T.Turns.first;
      of = state_of (sink_shown g.K.Sink);
      kept = λ s. s.note.ghost_name;
      core = λ d. refl;
      number = λ d. refl;
      joins = λ d d' answer did. (did.0, λ i. (did.1 i, did.2 i, did.3 i, did.4 i));
      asks = λ d d' xid call reply did. (did.0, λ i. (did.1 i, did.2 i, did.3 i, did.4 i));
      leaves = λ d d' did. (did.0, λ i. (did.1 i, did.2 i, did.3 i, did.4 i));
      ruled_joins = λ s s' answer did. (did.0, did.2);
      ruled_asks = λ s s' xid call reply did. (did.0, did.2);
      ruled_leaves = λ s s' did. (did.0, did.2);
    }) g.L.Link _ c.serve_session-failed.result.0 c.args.pass _ _ _ refl refl c.clear.ensures c.order.ensures c.requires.phase c.serve_session-failed.ensures.did in
    let held = ap (λ (l : Lent _). l.0) run.lends.0 in
    let free = c.serve_session-failed.ensures.free in
    none-some free.pass (sym (subst (λ held. held ≡ None) (search (rules, held)) c.in_default.is) ∙ free.has)

pub returns : goal.returns
returns g c =
    let run = session-so g.B.Bus g.C.Clock.tells (λ _ asked. asked) (λ _ m. m) (λ _. as_it_is) _ _ c.guard_laws.ensures (record {
      seat = seat_of g.C.Clock g.D.Dial;
      lent = lent_of g.T.Turns.first;
      of = state_of (sink_shown g.K.Sink);
      kept = λ s. s.note.ghost_name;
      core = λ d. refl;
      number = λ d. refl;
      joins = λ d d' answer did. (did.0, λ i. (did.1 i, did.2 i, did.3 i, did.4 i));
      asks = λ d d' xid call reply did. (did.0, λ i. (did.1 i, did.2 i, did.3 i, did.4 i));
      leaves = λ d d' did. (did.0, λ i. (did.1 i, did.2 i, did.3 i, did.4 i));
      ruled_joins = λ s s' answer did. (did.0, did.2);
      ruled_asks = λ s s' xid call reply did. (did.0, did.2);
      ruled_leaves = λ s s' did. (did.0, did.2);
    }) g.L.Link _ c.serve_session-failed.result.0 c.args.pass _ _ _ refl refl c.clear.ensures c.order.ensures c.requires.phase c.serve_session-failed.ensures.did in
    let held = ap (λ (l : Lent _). l.0) run.lends.0 in
    let clock = ap (λ (l : Lent _). l.1) run.lends.0 in
    let dial = ap (λ (l : Lent _). l.2) run.lends.0 in
    let note = run.lends.1 in
    record {
      did = (
        c.peer-peer.result,
        c.peer-peer.ensures,
        run.did c.in-Some.pass _ _ _ _ _ (subst (λ o. o ≡ Some c.in-Some.pass) (search (rules, held)) c.in-Some.is) (ap g.C.Clock.told (search (rules, clock))) (search (rules, clock)) (ap (dial_shown g.D.Dial) (search (rules, dial)))
            (ap (sink_shown g.K.Sink) (search (rules, note))) c.guard_end-how.ensures,
      );
      told = subst (λ k. g.C.Clock.told c.args.clock.now ≤ g.C.Clock.told k) (search (rules, clock)) run.later;
      went = c.serve_session-failed.ensures.went;
    }
