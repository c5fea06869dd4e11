use Rattle.std.proofs.Common.{refl, arith}
use Rattle.vx_desks.specs.Passing.{passes_shown}
use Rattle.vx_desks.specs.Standing.{gates_shown, firsts_shown}
use Rattle.vx_desks.specs.Origins.{origins}
use Rattle.vx_buses.proofs.Hosted.{ready-on, has-room}
use Rattle.vx_buses.proofs.hosting.HostPeerServer.serve.Goals as goal

pub many_link-passes-requires : goal.many_link-passes-requires
many_link-passes-requires g c = record { gates = c.requires.can.of }

pub returns-clause-can : goal.returns-clause-can
returns-clause-can g c =
    let served = c.many_link-passes in
    ready-on (origins g.B.Bus (firsts_shown c.args.self.buses)) g.N.Link _ _ (record { passes = passes_shown c.args.self.passes; link = c.args.door.now }) (record { passes = passes_shown served.result.0; link = served.new.link })
    c.args._behind served.result.1 (gates_shown c.args.self.buses) served.ensures.did c.requires.can.clear served.ensures.gates

pub returns-clause-did : goal.returns-clause-did
returns-clause-did g c =
    let served = c.many_link-passes in
    record {
      did = served.ensures.did;
      same = refl;
      went = served.ensures.went;
      later = served.ensures.told;
      room = has-room (origins g.B.Bus (firsts_shown c.args.self.buses)) g.N.Link _ _ (record { passes = passes_shown c.args.self.passes; link = c.args.door.now }) (record { passes = passes_shown served.result.0; link = served.new.link })
          c.args._behind served.result.1 c.requires.can.clear (omega (arith, c.requires.few)) served.ensures.did;
    }
