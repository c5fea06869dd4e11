use Rattle.std.proofs.Common.{◌<◌, length, subst, arith}
use Rattle.std.proofs.lemmas.Bool.{ltb-true}
use Rattle.vx_loop.specs.LoopState.{ServedState}
use Rattle.vx_loop.proofs.Going.{left-some}
use Rattle.vx_loop.proofs.served.Serving.has_left.Goals as goal

pub returns-clause-some : goal.returns-clause-some
returns-clause-some g c = λ is. subst (λ (s : ServedState). 0 < length s.left) c.self.view_is
    (left-some c.self.inside.from c.self.inside.to c.self.inside.reply.items (ltb-true c.self.inside.from c.self.inside.to is) (omega arith))
