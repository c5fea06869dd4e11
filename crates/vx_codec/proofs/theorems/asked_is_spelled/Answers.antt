use Rattle.vx_codec.specs.Asked.{arguments_of, call_of}
use Rattle.vx_codec.proofs.Laws.Rows.{whole-again, whole-takes}
use Rattle.vx_codec.proofs.theorems.asked_is_spelled.Goals as goal

pub returns : goal.returns
returns c p call bytes h =
    (λ e. whole-takes (arguments_of p) (call_of p) call bytes h e, λ s. whole-again (arguments_of p) (call_of p) call bytes s)
