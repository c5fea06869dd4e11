use Rattle.vx_upstream.proofs.Bursting.{walk-one}
use Rattle.vx_upstream.proofs.bus.UpstreamBusBus.put.Goals as goal

pub returns-clause-through : goal.returns-clause-through
returns-clause-through g c =
    (walk-one _ _ c.args.self.now c.put_piece.new.self c.args.b c.args.end c.put_piece.result
    c.put_piece.ensures.within c.put_piece.ensures.last.0 c.put_piece.ensures.last.1 c.put_piece.ensures.walk).1

pub returns-clause-stepped : goal.returns-clause-stepped
returns-clause-stepped g c =
    (walk-one _ _ c.args.self.now c.put_piece.new.self c.args.b c.args.end c.put_piece.result
    c.put_piece.ensures.within c.put_piece.ensures.last.0 c.put_piece.ensures.last.1 c.put_piece.ensures.walk).0
