use Rattle.std.proofs.Common.{rules}
use Rattle.vx_peers.proofs.serving.serve_port.Goals as goal

pub returns-in-Failed : goal.returns-in-Failed
returns-in-Failed g c = search rules
