use Rattle.std.proofs.Common.{sym, ap, ◌∙◌}
use Rattle.std.proofs.lemmas.Option.{same_Some}
use Rattle.vx_trace.specs.Reading.{reading}
use Rattle.vx_trace.proofs.Again.{reading-again}
use Rattle.vx_trace.proofs.theorems.one_text.Goals as goal

pub returns : goal.returns
returns c = λ a b h k e. same_Some a b (sym (reading-again a h) ∙ ap reading e ∙ reading-again b k)
