-- A core that became of a first one goes on.
use Rattle.std.proofs.Common.{◌≡◌, ◌≤◌, ◌++◌, List, [], ◌∷◌, Some, sym, ◌∙◌, subst}
use Rattle.vx_488.specs.Means.{Means}
use Rattle.vx_488.specs.Steps.{Step}
use Rattle.vx_488.specs.Walks.{Walk, StepsTo}
use Rattle.vx_488.proofs.Laws.Puts.{path-append}
use Rattle.vx_flow.specs.InterleavedState.{InterleavedState}
use Rattle.vx_group.specs.Groups.{Group, StandsFor, steps_of}
use Rattle.vx_group.specs.Laws.{group_after, StandsOnLaw}
use Rattle.vx_group.proofs.Laws.{steps-more}
use Rattle.vx_group.proofs.Laws.Onward.{along-onward}
use Rattle.vx_core.specs.CoreState.{CoreState}
use Rattle.vx_core.specs.Laws.{BecameOnLaw}

pub became_on-holds : StandsOnLaw → {B : Type 0} (means : B → Means) (through : B → Step → B → Type 0) → BecameOnLaw means through
became_on-holds law {B} means through first core core' last log events steps became goes late at walk =
    let x = group_after core.interleaved events steps core'.interleaved.state.moment in
    record {
      state = subst (λ (f : InterleavedState). StandsFor f (log ++ x ∷ [])) (sym at) (law core.interleaved last log events steps core'.interleaved.state.moment became.state goes late);
      port = subst (λ (f : InterleavedState). f.state.tables.abort_port ≡ first.interleaved.state.tables.abort_port) (sym at) ((along-onward events core.interleaved last goes).port ∙ became.port);
      bus = subst (λ (all : List Step). Walk means through first.bus all core'.bus) (sym (steps-more log x))
          (path-append (StepsTo means through) first.bus core.bus core'.bus (steps_of log) steps became.bus walk);
    }
