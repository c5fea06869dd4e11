use Rattle.vx_loop.proofs.Going.{gone-on}
use Rattle.vx_loop.proofs.served.Serving.is_gone.Goals as goal

pub returns-clause-ended : goal.returns-clause-ended
returns-clause-ended g c = λ is kept more. let gone = c.is_down.ensures.gone is in gone-on c.args.self.now more kept gone.0 gone.1
