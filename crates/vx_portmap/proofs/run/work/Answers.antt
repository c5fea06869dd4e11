use Rattle.vx_door.proofs.Laws.{went_keeps}
use Rattle.std.proofs.Common.{sym, subst}
use Rattle.vx_door.specs.Shown.{door_told, door_shown}
use Rattle.vx_peers.specs.Running.{ServesPeers}
use Rattle.vx_portmap.specs.Mapped.{StreamMapped, is_own, is_whole}
use Rattle.vx_portmap.specs.Packing.{box_shown}
use Rattle.vx_portmap.specs.Outcome.{MapShows, Works}
use Rattle.vx_portmap.proofs.run.work.Goals as goal

pub returns-in-Stream : goal.returns-in-Stream
returns-in-Stream g c =
    let n : MapShows g.row.N.Denot = record {
      ways = g.N.Link;
      tells = g.N.Door.tells;
      waits = g.N.Door.meets;
      door = door_shown (door_told g.N.Link g.N.Door);
      box = box_shown g.N.Packets.packets_left g.N.Packets.packets_given g.N.Packets.packets_moved g.N.Packets.packets_ended g.N.Packets.take_faults g.N.Packets.give_faults;
      box_faults = g.N.MapNet.box_faults;
      opening = record { opens = g.N.Door.opens; ready = g.N.Link.is_ready };
      opens_box = g.N.MapNet.opens_box;
    } in
    let serves = subst (λ s. ServesPeers n.ways.stands n.tells n.waits n.door (StreamMapped n.ways) is_own is_whole s c.args.net.now c.args.ask.now.number c.serve_all-end.result.1 c.serve_all-end.result.2 c.serve_all-end.result.0 c.serve_all-end.new.door) c.new-mapper.ensures c.serve_all-end.ensures in
    subst (λ k. Works n k c.args.ports c.args.ask.now.number c.args.net.now c.end_of_door.result c.serve_all-end.result.2 c.serve_all-end.new.door) (sym c.in-Stream.is)
    (record {
      ended = c.serve_all-end.result.1;
      how_is = c.end_of_door.ensures;
      left = c.serve_all-end.result.0;
      serves = serves;
      counts = serves.over
          (λ s t d e how did. went_keeps g.N.Link.receives g.N.Link.sends g.N.Door.met g.N.Door.ended g.N.Door.faults g.met.N.Door.receive_keeps g.met.N.Door.send_keeps d e did.went);
    })
