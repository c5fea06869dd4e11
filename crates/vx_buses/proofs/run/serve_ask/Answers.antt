use Rattle.std.proofs.Common.{false, refl, arith}
use Rattle.vx_door.proofs.Laws.{went_keeps}
use Rattle.vx_door.specs.Going.{Went}
use Rattle.vx_door.specs.Meeting.{KeepsCounts}
use Rattle.vx_door.specs.Shown.{door_told}
use Rattle.vx_desks.specs.Passing.{passes_shown}
use Rattle.vx_desks.specs.Standing.{gates_shown, firsts_shown}
use Rattle.vx_peers.proofs.Laws.{told_served}
use Rattle.vx_buses.specs.Hosting.{Hosting}
use Rattle.vx_buses.specs.Outcome.{FleetShows, fleet_shows, Does}
use Rattle.vx_buses.specs.declared.hosting.Host.{Host}
use Rattle.vx_buses.proofs.Hosted.{first-ready}
use Rattle.vx_buses.proofs.run.serve_ask.Given as given
use Rattle.vx_buses.proofs.run.serve_ask.Goals as goal

-- the server, as it is told
abbrev view : (g : given.Over) → Host g.row.R.Denot g.row.B.Denot g.row.X-C.Denot g.row.X-P.Denot → Hosting g.row.B.Denot g.row.X-C.Denot
view g s = record { passes = passes_shown s.passes; firsts = firsts_shown s.buses; clock = s.clock; told = g.X.C.Clock.told s.clock }

-- the door
abbrev shows : (g : given.Over) → FleetShows g.row.N.Denot
shows g = fleet_shows g.N.Link (door_told g.N.Link g.N.Door)

-- serving a link leaves the door's own counts as they are
own-kept : (g : given.Over) (old new : g.row.N.Denot) → Went g.N.Link.receives g.N.Link.sends old new → KeepsCounts g.N.Door.met g.N.Door.ended g.N.Door.faults old new
own-kept g old new went = went_keeps g.N.Link.receives g.N.Link.sends g.N.Door.met g.N.Door.ended g.N.Door.faults g.met.N.Door.receive_keeps g.met.N.Door.send_keeps old new went

pub serve_peers-how-requires-clause-can : goal.serve_peers-how-requires-clause-can
serve_peers-how-requires-clause-can g c = first-ready (passes_shown c.args.started.passes) (gates_shown c.args.started.buses) c.requires.first

pub serve_peers-how-requires-clause-lasting : goal.serve_peers-how-requires-clause-lasting
serve_peers-how-requires-clause-lasting g c = λ s. refl

pub serve_peers-how-requires-clause-few : goal.serve_peers-how-requires-clause-few
serve_peers-how-requires-clause-few g c = omega (arith, c.requires.range.number.1)

pub returns : goal.returns
returns g c = record {
  server = record { passes = passes_shown c.args.started.passes; firsts = firsts_shown c.args.started.buses; clock = c.clock.result; told = g.X.C.Clock.told c.clock.result };
  begins = record { gates = gates_shown c.args.started.buses; first = c.requires.first; cores = refl };
  server' = view g c.serve_peers-how.result.0;
  served = told_served _ (view g) (Does g.B.Bus g.X.C.Clock.tells (shows g)) (λ t. false) (λ s. Unit {0}) (λ s s' d d' how holds did. (did, tt)) (λ s t d e how did. own-kept g d e did.went) (λ s. refl)
      (shows g).opening c.args.ask.now _ c.args.net.now c.serve_peers-how.result.0 c.serve_peers-how.new.net _ _ c.serve_peers-how.result.1 tt c.serve_peers-how.ensures;
  keeps = λ s t d e how did. own-kept g d e did.went;
}
