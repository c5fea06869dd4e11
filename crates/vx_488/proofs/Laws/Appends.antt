-- One list of transfers and then another: the fold, whom they reach, and what is heard.
use Rattle.std.proofs.Common.{[], ◌∷◌, ◌++◌, append_assoc, refl, sym, ap, ◌∙◌}
use Rattle.vx_488.specs.Wire.{step}
use Rattle.vx_488.specs.Heard.{reached_by, reached}
use Rattle.vx_488.specs.Wire.{wire_after}
use Rattle.vx_488.specs.Laws.{ReachedAppendsLaw}

-- whom both lists reach
pub reached-append : ReachedAppendsLaw
reached-append w [] ys = refl
reached-append w (t ∷ ts) ys =
    ap (λ rest. reached_by w t ++ rest) (reached-append (step w t) ts ys)
    ∙ sym (append_assoc (reached_by w t) (reached (step w t) ts) (reached (wire_after (step w t) ts) ys))
