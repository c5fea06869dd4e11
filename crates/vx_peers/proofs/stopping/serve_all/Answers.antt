use Rattle.std.proofs.Common.{sym, ◌∙◌}
use Rattle.std.proofs.lemmas.Bool.{false≢true}
use Rattle.vx_peers.proofs.stopping.serve_all.Goals as goal

pub unreachable-requires : goal.unreachable-requires
unreachable-requires g c = absurd (false≢true (sym (c.requires.lasting _) ∙ (rw c.in-Server.is at c.serve_each-server.ensures).2))
