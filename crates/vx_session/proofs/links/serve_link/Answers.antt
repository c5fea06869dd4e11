use Rattle.vx_door.specs.Going.{Not_yet}
use Rattle.vx_session.proofs.links.serve_link.Goals as goal

pub returns-in-Err-clause-went : goal.returns-in-Err-clause-went
returns-in-Err-clause-went g c = Not_yet c.args.link.now
