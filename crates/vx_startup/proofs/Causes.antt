-- The words of causes are words that a fault's line may name.
use Rattle.std.proofs.Common.{◌≡◌, List, ℕ, IsTrue, sym, subst}
use Rattle.vx_script.specs.declared.Cause.{Cause}
use Rattle.vx_script.specs.Cause.{cause_word}
use Rattle.vx_trace.specs.Text.{is_cause}
use Rattle.vx_setup.proofs.Laws.{is_named}

-- and so is a word that is a cause's
pub names_cause : (why : Cause) (word : List ℕ) → word ≡ cause_word why → IsTrue (is_cause word)
names_cause why word is = subst (λ w. IsTrue (is_cause w)) (sym is) (is_named why)
