use Rattle.std.proofs.Common.{◌≡◌, Some, refl, sym, ap, ◌∙◌, subst, arith, rules}
use Rattle.std.proofs.lemmas.Option.{same_Some}
use Rattle.vx_gate.specs.PassView.{PassView}
use Rattle.vx_group.specs.Groups.{Group}
use Rattle.vx_text.specs.Ends.{sink_shown}
use Rattle.vx_session.specs.Counting.{IsSessionClear}
use Rattle.vx_session.specs.Dialing.{dial_shown}
use Rattle.vx_session.specs.Origin.{origin}
use Rattle.vx_session.specs.Progress.{Clocked}
use Rattle.vx_exchange.specs.Meaning.{meaning}
use Rattle.vx_desks.specs.RuledLinking.{GuardLinkDid}
use Rattle.vx_guard.specs.Peers.{CanServe, pass_in}
use Rattle.vx_desks.specs.Wholes.{GuardHolding}
use Rattle.vx_guard.proofs.OnePeer.{link-ready, link-room, link-counts, link-cut}
use Rattle.vx_guard.proofs.serving.GuardPeerServer.serve.Given as given
use Rattle.vx_guard.proofs.serving.GuardPeerServer.serve.Goals as goal

-- what a link's guarded work has, by its pass, the door, its dial and its note
abbrev has : (g : given.Over) → PassView Group → g.row.N.Denot → g.row.D.Denot → g.row.K.Denot → GuardHolding g.row.N.Denot
has g pass door dial note = record { pass = pass; link = door; dial = dial_shown g.D.Dial dial; note = sink_shown g.K.Sink note }

pub guarded_link-pass-requires : goal.guarded_link-pass-requires
guarded_link-pass-requires g c =
    let ready = c.requires.can in
    let taken : c.args.self.held.now ≡ Some c.in-Some.pass = search rules in
    record { gate = rw (same_Some ready.pass c.in-Some.pass (sym ready.has ∙ taken)) at ready.can.gate_is }

pub returns : goal.returns
returns g c =
    let served = c.guarded_link-pass in
    let did = served.ensures.did in
    let s = c.args.self in
    let ready = c.requires.can in
    let taken : c.args.self.held.now ≡ Some c.in-Some.pass = search rules in
    let same = same_Some ready.pass c.in-Some.pass (sym ready.has ∙ taken) in
    let bus = origin g.B.Bus (g.T.Turns.first s.gateway.turns.now) in
    let gate = g.T.Turns.gate s.gateway.turns.now in
    let clear = subst (IsSessionClear c.args._behind) same ready.clear in
    let before = has g c.in-Some.pass c.args.door.now s.kit.now.dial s.note.now in
    let after = has g served.result.0 served.new.link served.new.kit.dial served.new.note in
    let counts = link-counts meaning bus g.N.Link _ _ _ before served.result.1 after did in
    record {
      can = link-ready meaning bus g.N.Link _ _ _ gate c.args._behind before served.result.1 after (subst (CanServe gate) same ready.can) clear did;
      did = (
        record {
          did = subst (λ (p : PassView Group). GuardLinkDid meaning bus g.N.Link (Clocked g.C.Clock.tells s.kit.now.clock served.new.kit.clock) (g.C.Clock.told served.new.kit.clock) s.policy.now
              (has g p c.args.door.now s.kit.now.dial s.note.now) served.result.1 after) (sym (ap pass_in taken)) did;
          later = served.ensures.told;
          went = served.ensures.went;
          failed = c.fails-failed.ensures;
          room = link-room meaning bus g.N.Link _ _ _ c.args._behind before served.result.1 after clear (omega (arith, c.requires.few)) did;
        },
        refl,
        refl,
        refl,
      );
      receives = counts.0;
      sends = counts.1;
      cut = link-cut meaning bus g.N.Link _ _ _ before served.result.1 after did;
    }
