-- What a poll leaves of what a core keeps.
use Rattle.std.specs.Prelude.{◌≡◌, ◌≤◌, ℕ, Bool, max, [], ◌∷◌}
use Rattle.vx_calls.specs.declared.limits.TheConstants.{READ_MAX}
use Rattle.vx_488.specs.Means.{Means}
use Rattle.vx_488.specs.Steps.{Step, Told, Cut}
use Rattle.vx_core.specs.declared.ended.Ended.{Ended}
use Rattle.vx_core.specs.KernelState.{KernelState}
use Rattle.vx_core.specs.Shown.{interleaved_of}
use Rattle.vx_core.specs.Ending.{ended_shown, ended_len}
use Rattle.vx_core.specs.Keeping.{Keeps}
use Rattle.vx_core.specs.Polling.{PollOnBus}

-- a poll of a core: the bus's list is cut and the bus is told the moment first
abbrev pub Leaves : {B : Type 0} → (B → Means) → (B → Step → B → Type 0) → (B → Bool) → (B → Bool) → KernelState B → ℕ → ℕ → Ended → KernelState B → Type 0
Leaves means through srq ndac old conn now ended new =
    PollOnBus means through srq ndac (interleaved_of means old) old.bus conn (max old.moment now) (Cut ∷ Told (max old.moment now) ∷ [])
    (ended_shown ended new.room) (interleaved_of means new) new.bus

-- the poll ends so from there
pub record EndsFrom {B : Type 0} (means : B → Means) (through : B → Step → B → Type 0) (srq ndac : B → Bool) (old : KernelState B) (conn : ℕ)
    (ended : Ended) (new : KernelState B) : Type 0 where
  pub keeps : Keeps means new
  pub moment : new.moment ≡ old.moment
  pub within : ended_len ended ≤ READ_MAX
  pub over : PollOnBus means through srq ndac (interleaved_of means old) old.bus conn old.moment [] (ended_shown ended new.room) (interleaved_of means new) new.bus
