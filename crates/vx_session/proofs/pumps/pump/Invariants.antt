use Rattle.vx_session.proofs.Pumped.{Pumped}
use Rattle.vx_session.proofs.pumps.pump.Given as goal

abbrev pub invariant-loop : goal.invariant-loop
invariant-loop g l =
    Pumped g.L.Link l.initial.pass l.conn l.chan l.initial.link l.pass l.link
