-- To be believed.
-- What the instruments hear of a write.
use Rattle.std.specs.Prelude.{◌≡◌, ℕ, Bool, true, false, List, [], ◌∷◌}
use Rattle.std.specs.List.{AllZip}
use Rattle.vx_calls.specs.Call.{Call}
use Rattle.vx_calls.specs.Call as call
use Rattle.vx_488.specs.declared.transfers.Transfer.{Transfer}
use Rattle.vx_488.specs.Heard.{heard}
use Rattle.vx_488.specs.Steps.{Told, Cut}
use Rattle.vx_sim.specs.SimState.{SimState}
use Rattle.vx_sim.specs.Laws.{TakesAll}
use Rattle.vx_player.specs.Gateway.{BusGoes}

abbrev pub is_write : Call → Bool
is_write (call.Write lid io_timeout lock_timeout flags bytes) = true
is_write _ = false

-- The instruments are told the moment, and then each takes, in order, the bytes that its address hears of these transfers,
-- and no others; one that isn't addressed takes none.
pub record TakesHeard (before : SimState) (now : ℕ) (moves : List Transfer) (after : SimState) : Type 0 where
  pub told : SimState
  pub tells : BusGoes before (Cut ∷ Told now ∷ []) told
  pub takes : AllZip (λ p q. (q.at ≡ p.at) × TakesAll (heard p.at told.means.wire moves) p.occupant q.occupant) told.bench after.bench
