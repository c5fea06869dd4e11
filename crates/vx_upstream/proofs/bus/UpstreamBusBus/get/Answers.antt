use Rattle.std.proofs.Common.{sym, subst, arith}
use Rattle.vx_488.specs.Steps.{get_step}
use Rattle.vx_upstream.specs.Sending.{words_of}
use Rattle.vx_upstream.specs.Stepping.{Through}
use Rattle.vx_upstream.proofs.Bursting.{walk-one-get}
use Rattle.vx_upstream.proofs.bus.UpstreamBusBus.get.Goals as goal

pub returns-clause-through : goal.returns-clause-through
returns-clause-through g c =
    subst (λ out. Through (words_of g.L.Link g.L.Reach.refused g.L.Reach.tries) c.args.self.now (get_step out) c.get_piece-many.new.self) (sym c.got_one.ensures)
    (walk-one-get _ _ c.args.self.now c.get_piece-many.new.self c.get_piece-many.new.room c.get_piece-many.result
    (omega arith) c.get_piece-many.ensures.within c.get_piece-many.ensures.stops c.get_piece-many.ensures.walk).1
