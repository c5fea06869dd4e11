use Rattle.std.proofs.Common.{not, eqb, length, ap, ◌∙◌}
use Rattle.vx_488.proofs.Places.{flagged-empty}
use Rattle.vx_488.proofs.listeners.Listeners.is_empty.Goals as goal

pub returns : goal.returns
returns c =
    ap not c.contains.ensures.value
    ∙ flagged-empty 0 c.self.inside.flags
    ∙ ap (λ xs. eqb (length xs) 0) c.self.view_is
