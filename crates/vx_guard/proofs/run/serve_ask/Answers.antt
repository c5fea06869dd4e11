use Rattle.std.proofs.Common.{◌≡◌, false, refl, ap, ◌∙◌, arith, rules}
use Rattle.vx_door.proofs.Laws.{went_keeps}
use Rattle.vx_door.specs.Going.{Went}
use Rattle.vx_door.specs.Meeting.{KeepsCounts}
use Rattle.vx_door.specs.Shown.{door_told}
use Rattle.vx_core.specs.CoreState.{CoreState}
use Rattle.vx_text.specs.Ends.{sink_shown}
use Rattle.vx_session.specs.Origin.{origin}
use Rattle.vx_peers.proofs.Laws.{port_keeps, told_port}
use Rattle.vx_guard.specs.Peers.{GuardHas, GuardShows, GuardsPeer, guard_has, guard_shown, pass_in}
use Rattle.vx_guard.specs.declared.serving.Guard.{Guard}
use Rattle.vx_guard.proofs.OnePeer.{ready-first}
use Rattle.vx_guard.proofs.Runs.{port-run}
use Rattle.vx_guard.proofs.run.serve_ask.Given as given
use Rattle.vx_guard.proofs.run.serve_ask.Goals as goal

-- what the bus and the door are to what is said of them
abbrev shows : (g : given.Over) → CoreState g.row.B.Denot → GuardShows g.row.B.Denot g.row.C.Denot g.row.N.Denot
shows g first = guard_shown (origin g.B.Bus first) g.C.Clock g.N.Link (door_told g.N.Link g.N.Door)

-- what the guard has
abbrev view : (g : given.Over) → Guard g.row.R.Denot g.row.B.Denot g.row.T.Denot g.row.C.Denot g.row.P.Denot g.row.D.Denot g.row.K.Denot → GuardHas g.row.C.Denot
view g s = guard_has g.C.Clock g.D.Dial g.K.Sink (pass_in s.held.now) s.kit.now.clock s.kit.now.dial s.note.now s.failed

-- serving a link leaves the door's own counts as they are
own-kept : (g : given.Over) (old new : g.row.N.Denot) → Went g.N.Link.receives g.N.Link.sends old new → KeepsCounts g.N.Door.met g.N.Door.ended g.N.Door.faults old new
own-kept g old new went = went_keeps g.N.Link.receives g.N.Link.sends g.N.Door.met g.N.Door.ended g.N.Door.faults g.met.N.Door.receive_keeps g.met.N.Door.send_keeps old new went

pub serve_port-note-requires-clause-can : goal.serve_port-note-requires-clause-can
serve_port-note-requires-clause-can g c = ready-first (g.T.Turns.gate c.args.gateway.turns.now) c.args.pass c.requires.can c.requires.fresh.0 c.requires.fresh.1

pub serve_port-note-requires-clause-few : goal.serve_port-note-requires-clause-few
serve_port-note-requires-clause-few g c = omega (arith, c.requires.range.number.1)

pub returns : goal.returns
returns g c =
    let served = c.serve_port-note in
    let can = c.requires.can in
    let fresh = c.requires.fresh in
    let first = g.T.Turns.first c.args.gateway.turns.now in
    let note = port_keeps _ (λ s. s.note.ghost_name) (λ s s' d d' how did. did.3) _ _ _ _ _ _ _ served.ensures in
    port-run (shows g first) c.args.policy.now c.args.ask.now
    (guard_has g.C.Clock g.D.Dial g.K.Sink c.args.pass c.args.kit.now.clock c.args.kit.now.dial c.args.sink.now false) (view g served.result.0) c.args.net.now served.new.net _ _ _ _
    (record { number = can.number; parts = can.parts; seen = fresh.0; own = fresh.1; note = refl; sound = refl })
    (λ s t d e how did. own-kept g d e did.went)
    served.result.1
    (told_port _ (view g) (GuardsPeer (shows g first) c.args.policy.now) (λ s. s.failed) (λ s. (g.T.Turns.first s.gateway.turns.now ≡ first) × (s.policy.now ≡ c.args.policy.now))
    (λ s s' d d' how holds did. (
      rw (holds.0, holds.1) at did.0,
      (did.1 ∙ holds.0, did.2 ∙ holds.1),
    ))
    (λ s t d e how did. own-kept g d e did.0.went) (λ s. refl) _ c.args.ask.now _ c.args.net.now served.result.1 served.result.0 served.new.net (refl, refl) served.ensures)
    c.tell.result c.tell.ensures (ap (sink_shown g.K.Sink) (search (rules, note)))
