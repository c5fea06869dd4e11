-- Of histories of the gateway of one thread: a front of one is one, and its enables are in order and of live links.
use Rattle.std.proofs.Common.{◌≡◌, true, List, Option, Some, None, is_some, refl, sym, ap, ◌∙◌}
use Rattle.std.proofs.lemmas.Bool.{false≢true}
use Rattle.vx_rules.specs.Lists.{along}
use Rattle.vx_rules.specs.State.{State, first}
use Rattle.vx_rules.specs.Entry.{Entry}
use Rattle.vx_rules.specs.AtomicStep.{atomic_step}
use Rattle.vx_rules.specs.Laws.{FrontsLegalLaw, EnablesLaw}
use Rattle.vx_rules.proofs.Laws.Lists.{along-none, along-append}
use Rattle.vx_rules.proofs.Laws.Walks.{legal-sound}

-- what leads somewhere with more behind it leads somewhere
led : (o : Option State) (behind : List Entry) → is_some (along atomic_step o behind) ≡ true → is_some o ≡ true
led None behind h = absurd (false≢true (sym (ap is_some (along-none atomic_step behind)) ∙ h))
led (Some s) behind h = refl

-- a front of a history is one
pub fronts_legal-holds : FrontsLegalLaw
fronts_legal-holds abort_port front behind h =
    led (along atomic_step (Some (first abort_port)) front) behind (sym (ap is_some (along-append atomic_step (Some (first abort_port)) front behind)) ∙ h)

-- the enables are in order of their links' numbers, and each is of a live link of its connection
pub enables_law-holds : EnablesLaw
enables_law-holds abort_port history s h =
    let sound = legal-sound abort_port history s h in
    (sound.in_order, sound.owned)
