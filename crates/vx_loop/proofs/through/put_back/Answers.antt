use Rattle.std.proofs.Common.{ap, ◌∙◌}
use Rattle.vx_loop.specs.LoopState.{LoopState}
use Rattle.vx_loop.proofs.through.put_back.Goals as goal

pub let_go-requires : goal.let_go-requires
let_go-requires g c = ap (λ (l : LoopState). l.served) c.replace.ensures.value ∙ c.requires
