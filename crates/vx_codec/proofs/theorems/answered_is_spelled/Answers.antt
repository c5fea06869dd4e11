use Rattle.vx_codec.specs.Answered.{form_of, results_of, outcome_of}
use Rattle.vx_codec.proofs.Laws.Rows.{whole-again, whole-takes}
use Rattle.vx_codec.proofs.theorems.answered_is_spelled.Goals as goal

pub returns : goal.returns
returns c p outcome bytes h =
    (λ e. whole-takes (results_of (form_of p)) (outcome_of (form_of p)) outcome bytes h e, λ s. whole-again (results_of (form_of p)) (outcome_of (form_of p)) outcome bytes s)
