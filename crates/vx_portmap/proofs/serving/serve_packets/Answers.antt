use Rattle.std.proofs.Common.{arith}
use Rattle.vx_portmap.proofs.Packed.{answers-none, answers-more, counted-stop, counted-all}
use Rattle.vx_portmap.proofs.serving.serve_packets.Goals as goal

pub loop-taken-init : goal.loop-taken-init
loop-taken-init g c = record { so_far = answers-none c.args.ports.now _; within = omega arith }

pub loop-taken-preserved : goal.loop-taken-preserved
loop-taken-preserved g c = record {
  so_far = answers-more c.args.ports.now c.loop-taken.taken _ _ _ c.serve_packet.result c.in_default.is c.loop-taken.invariant.so_far c.serve_packet.ensures.answers;
  within = omega (arith, c.loop-taken-test.true);
}

pub returns-in-Some : goal.returns-in-Some
returns-in-Some g c =
    counted-stop c.args.ports.now c.loop-taken.taken c.args.limit _ _ _ c.serve_packet.result c.in-Some.end c.in-Some.is c.serve_packet.ensures.early
    c.loop-taken-test.true c.loop-taken.invariant.so_far c.serve_packet.ensures.answers

pub returns : goal.returns
returns g c =
    counted-all c.args.ports.now c.loop-taken.taken c.args.limit _ _ c.loop-taken.invariant.within c.loop-taken-test.false c.loop-taken.invariant.so_far
