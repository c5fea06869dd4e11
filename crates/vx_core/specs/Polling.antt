-- To be believed.
-- What a poll leaves: the events that it made, and the steps of the bus.
use Rattle.std.specs.Prelude.{◌≡◌, ℕ, Bool, false, ◌==◌, if◌then◌else◌, List, [], ◌∷◌, ◌++◌, map, Option, Some, None, option_and_then}
use Rattle.vx_488.specs.declared.transfers.Transfer.{Transfer}
use Rattle.vx_plan.specs.declared.tasks.Task.{Task}
use Rattle.vx_plan.specs.declared.tasks.Task.TheVariants.{Status}
use Rattle.vx_plan.specs.Plan.{Slot, left_after, next_slot}
use Rattle.vx_plan.specs.Tasks.{plan}
use Rattle.vx_488.specs.Means.{Means}
use Rattle.vx_488.specs.Steps.{Step, Went, Held, Failed}
use Rattle.vx_488.specs.Walks.{Walk}
use Rattle.vx_ctrl.specs.Goes.{ask_of}
use Rattle.vx_rules.specs.State.{Pending}
use Rattle.vx_rules.specs.Calls.{bytes_of}
use Rattle.vx_flow.specs.InterleavedState.{Turn, InterleavedState, turn_of}
use Rattle.vx_flow.specs.InterleavedStep.{job_of}
use Rattle.vx_flow.specs.Poll as poll
use Rattle.vx_flow.specs.Poll.{Ending, Polls, ran_of}
use Rattle.vx_flow.specs.declared.progress.Ran.{Ran}
use Rattle.vx_flow.specs.declared.progress.Ran.TheVariants as ran

-- what the plan of a call's job wants next, behind these transfers of its turn
abbrev pub wanted_by : InterleavedState → Pending → Option Turn → Option Task → Option Slot
wanted_by f p (Some u) (Some job) =
    option_and_then next_slot (left_after (Some (plan job (bytes_of p.call) f.before.polling f.before.own)) u.moves)
wanted_by f p _ _ = None

abbrev pub wanted : InterleavedState → ℕ → Pending → Option Slot
wanted f conn p = wanted_by f p (turn_of f.turn conn) (job_of f.state.tables conn p)

-- the one ask that didn't go: what the plan wants next, which was held, or failed
abbrev pub refused_ask : Ran → Option Slot → List Step
refused_ask ran.Paused (Some slot) = Held (ask_of slot) ∷ []
refused_ask ran.Broken (Some slot) = Failed (ask_of slot) ∷ []
refused_ask _ _ = []

-- the asks of a poll: those of its transfers, in order, and at most one that didn't go
abbrev pub asks : InterleavedState → ℕ → Pending → List Transfer → Ran → List Step
asks f conn p moves ran = map Went moves ++ refused_ask ran (wanted f conn p)

-- the level that a job is told, of the lines SRQ and NDAC
abbrev pub level_told : Task → Bool → Bool → Bool
level_told (Status selector) srq ndac = if selector == 2 then srq else if selector == 3 then ndac else false
level_told _ srq ndac = false

-- the level that a call was told
abbrev pub level_of : Option Task → Bool → Bool → Bool
level_of None srq ndac = false
level_of (Some job) srq ndac = level_told job srq ndac

-- a turn that is whole was told the level that the bus gives; every other reply none
abbrev pub IsTold : InterleavedState → ℕ → Pending → Bool → Bool → Ending → Type 0
IsTold f conn p srq ndac (poll.Answered ran.Finished level reply) = level ≡ level_of (job_of f.state.tables conn p) srq ndac
IsTold f conn p srq ndac (poll.Answered ran level reply) = level ≡ false
IsTold f conn p srq ndac _ = Unit {0}

-- A poll at this moment led from one state to another, and the bus, whose wire is the state's, from one to another: by these first
-- steps, the asks of the poll, and nothing else.
pub record PollOnBus {B : Type 0} (means : B → Means) (through : B → Step → B → Type 0) (srq ndac : B → Bool) (before : InterleavedState) (bus : B)
    (conn now : ℕ) (steps : List Step) (ending : Ending) (after : InterleavedState) (bus_after : B) : Type 0 where
  pub polls : Polls before conn now (means bus_after).moves ending after
  pub wire : (means bus).wire ≡ before.state.wire
  pub walk : Walk means through bus (steps ++ asks polls.behind conn polls.asked (means bus_after).moves (ran_of ending)) bus_after
  pub told : IsTold polls.behind conn polls.asked (srq bus_after) (ndac bus_after) ending
