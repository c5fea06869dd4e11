-- What a core keeps between its calls.
use Rattle.std.specs.Prelude.{◌≡◌, ◌+◌, ◌≤◌, ◌<◌, ℕ, ◌==◌, false, List, length, Some, None}
use Rattle.std.specs.List.{All, IsDistinct}
use Rattle.vx_488.specs.declared.transfers.TheConstants.{ADDRESS_MAX}
use Rattle.vx_calls.specs.declared.calls.Role.TheVariants as role
use Rattle.vx_calls.specs.declared.limits.TheConstants.{CONNECTION_LAST, ROLE_MAX}
use Rattle.vx_calls.specs.Call.{Call}
use Rattle.vx_calls.specs.Call as call
use Rattle.vx_rules.specs.SrqState.{channel_at}
use Rattle.vx_plan.specs.Tasks.{IsPlainTask, HasBytes, most_bytes}
use Rattle.vx_plan.specs.Plan.{Part}
use Rattle.vx_488.specs.Means.{Means}
use Rattle.vx_ctrl.specs.Turns.{GetsBytes}
use Rattle.vx_ctrl.specs.Goes.{TurnBegins, HoldsBytes}
use Rattle.vx_rules.specs.State.{Pending, Tables, pending_at, count_of}
use Rattle.vx_rules.specs.Calls.{bytes_of}
use Rattle.vx_flow.specs.InterleavedState.{Turn}
use Rattle.vx_flow.specs.InterleavedStep.{job_of, turn_stand}
use Rattle.vx_flow.specs.Sound.{IsSound}
use Rattle.vx_core.specs.declared.running.Running.{Running}
use Rattle.vx_core.specs.KernelState.{KernelState}
use Rattle.vx_core.specs.Shown.{interleaved_of}

-- The turn under way is that of its connection's call: it has made its list on the bus as that was when it began, and the
-- room has the bytes that it got.
pub record RunsTurn {B : Type 0} (means : B → Means) (k : KernelState B) (r : Running) : Type 0 where
  pub asked : Pending
  pub call_at : pending_at k.tables r.conn ≡ Some asked
  pub job_is : job_of k.tables r.conn asked ≡ Some r.turn.task
  pub plain : IsPlainTask r.turn.task
  pub sent : HasBytes r.turn.task (bytes_of asked.call)
  pub few : length (bytes_of asked.call) ≤ most_bytes r.turn.task
  pub own : k.before.own ≤ ADDRESS_MAX
  pub begins : TurnBegins r.turn k.before (bytes_of asked.call) k.made (means k.bus)
  pub holds : GetsBytes r.turn.task → HoldsBytes r.turn k.made k.room

-- a create_intr_chan of a TCP channel at a port that there is
abbrev pub IsDialable : Call → Type 0
IsDialable (call.CreateIntr host port prog vers family) = (family ≡ 0) × (0 < port) × (port ≤ 65535)
IsDialable _ = ⊥

-- a call of which a dial was asked for is a create_intr_chan that its checks let pass, unmarked, on a connection without a
-- channel
pub record IsDialed (t : Tables) (conn : ℕ) : Type 0 where
  pub asked : Pending
  pub call_at : pending_at t conn ≡ Some asked
  pub unmarked : asked.aborted ≡ false
  pub dialable : IsDialable asked.call
  pub free : channel_at t.srq_state conn ≡ None

-- each dial is asked for once, and a channel number is left for each
pub record KeepsDials (t : Tables) (dialed : List ℕ) : Type 0 where
  pub each : All (IsDialed t) dialed
  pub once : IsDistinct (λ a b. a == b) dialed
  pub numbers : t.srq_state.next_channel + length dialed ≤ CONNECTION_LAST + 1

-- what a core keeps at each moment of a call
pub record Holds {B : Type 0} (means : B → Means) (k : KernelState B) : Type 0 where
  pub sound : IsSound (interleaved_of means k)
  pub own : (means k.bus).wire.own ≤ ADDRESS_MAX
  pub runs : (r : Running) → k.running ≡ Some r → RunsTurn means k r
  pub dials : KeepsDials k.tables k.dialed
  pub few : count_of k.tables role.Core ≤ ROLE_MAX

-- and between its calls: the list of the turn under way isn't whole
pub record Keeps {B : Type 0} (means : B → Means) (k : KernelState B) : Type 0 where
  pub holds : Holds means k
  pub is_part : (u : Turn) → (interleaved_of means k).turn ≡ Some u → turn_stand (interleaved_of means k) u u.moves ≡ Part
