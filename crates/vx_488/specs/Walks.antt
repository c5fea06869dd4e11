-- To be believed.
-- A bus that goes through steps, each with what it changes of its meaning.
use Rattle.std.specs.Prelude.{List}
use Rattle.vx_488.specs.Means.{Means}
use Rattle.vx_488.specs.Steps.{Step, IsStepped, Path}

-- one step: the bus changes as it names, and its meaning as every bus's does
abbrev pub StepsTo : {B : Type 0} → (B → Means) → (B → Step → B → Type 0) → B → Step → B → Type 0
StepsTo means through old s new = IsStepped (means old) s (means new) × through old s new

-- these steps, one after the other
abbrev pub Walk : {B : Type 0} → (B → Means) → (B → Step → B → Type 0) → B → List Step → B → Type 0
Walk means through old steps new = Path (StepsTo means through) old steps new
