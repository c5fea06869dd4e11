-- Laws of walks of a bus.
use Rattle.std.specs.Prelude.{◌≡◌, ◌↔◌, ◌+◌, List, ◌++◌, map, length}
use Rattle.vx_488.specs.declared.transfers.Transfer.{Transfer}
use Rattle.vx_488.specs.Wire.{wire_after}
use Rattle.vx_488.specs.Means.{Means}
use Rattle.vx_488.specs.Steps.{Step, Went}
use Rattle.vx_488.specs.Walks.{Walk}

-- a walk over two lists of steps is one over the first, and one over the second from there on
abbrev pub WalkAppendsLaw : {B : Type 0} → (B → Means) → (B → Step → B → Type 0) → Type 0
WalkAppendsLaw {B} means through = (old new : B) (xs ys : List Step)
    → Walk means through old (xs ++ ys) new ↔ ((next : B) × Walk means through old xs next × Walk means through next ys new)

-- A walk over transfers that all went: they are appended to the list and are part of the wire, each was an ask, and
-- nothing else of the bus's meaning changed.
abbrev pub WentLaw : {B : Type 0} → (B → Means) → (B → Step → B → Type 0) → Type 0
WentLaw {B} means through = (old new : B) (ts : List Transfer) → Walk means through old (map Went ts) new
    → means new ≡ record (means old) {
      wire = wire_after (means old).wire ts;
      moves = (means old).moves ++ ts;
      asks = (means old).asks + length ts;
    }
