use Rattle.std.proofs.Common.{◌≤◌, ◌-◌, None}
use Rattle.vx_portmap.specs.Packing.{MapAnswers, box_shown}
use Rattle.vx_portmap.proofs.serving.serve_packets.Given as goal

abbrev pub invariant-loop-taken : goal.invariant-loop-taken
invariant-loop-taken g l = record {
  so_far : MapAnswers l.ports l.taken (box_shown g.P.Packets.packets_left g.P.Packets.packets_given g.P.Packets.packets_moved g.P.Packets.packets_ended g.P.Packets.take_faults g.P.Packets.give_faults l.initial.packets) None
      (box_shown g.P.Packets.packets_left g.P.Packets.packets_given g.P.Packets.packets_moved g.P.Packets.packets_ended g.P.Packets.take_faults g.P.Packets.give_faults l.packets);
  within : l.taken ≤ l.limit;
}

abbrev pub decreases-loop-taken : goal.decreases-loop-taken
decreases-loop-taken g l = l.limit - l.taken
