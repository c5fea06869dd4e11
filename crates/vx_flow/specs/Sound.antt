-- To be believed.
-- What holds between interleaved events, of the turn under way and of the calls that have come.
use Rattle.std.specs.Prelude.{◌≡◌, ◌≢◌, ◌≤◌, ℕ, true, false, Option, Some, None}
use Rattle.vx_calls.specs.Call.{Call}
use Rattle.vx_488.specs.declared.wire.Wire.{Wire}
use Rattle.vx_488.specs.Wire.{wire_after}
use Rattle.vx_plan.specs.declared.tasks.Task.{Task}
use Rattle.vx_plan.specs.Plan.{Off}
use Rattle.vx_plan.specs.Roles.{has_role}
use Rattle.vx_rules.specs.Table.{Link}
use Rattle.vx_rules.specs.Locks.{holder_of}
use Rattle.vx_rules.specs.Lines.{LockRequest, first_ahead}
use Rattle.vx_rules.specs.Sound as rules
use Rattle.vx_rules.specs.State.{Pending, Tables, pending_at}
use Rattle.vx_rules.specs.Checks.{OnLink, named_link, check_on}
use Rattle.vx_rules.specs.Effects.{task_on}
use Rattle.vx_rules.specs.Decide.{is_nothing, stand_on}
use Rattle.vx_flow.specs.InterleavedState.{Turn, InterleavedState}
use Rattle.vx_flow.specs.InterleavedStep.{is_whole}

-- a bus call on a link passes its own checks, and no other link's lock keeps it off
pub record Passes (t : Tables) (own : ℕ) (l : Link) (asked : Call) : Type 0 where
  pub checked : check_on t own l asked ≡ None
  pub free : holder_of t.locks l.number l.target ≡ None

-- what a call on a link is under locks with
abbrev pub request_on : Link → LockRequest
request_on l = record { link = l.number; target = l.target }

-- What is kept of the turn under way: its call is pending, is on a live link, has a job, and the gateway has the role for it;
-- the bus is that of the beginning with the transfers; these keep to the plan; the call came before the turn began. From the
-- beginning on no other call stands in line before it, at whatever moment. Where transfers were made the first lines let the call
-- pass, and where they are whole the call is unmarked.
pub record Stands (t : Tables) (before now : Wire) (moment : ℕ) (u : Turn) : Type 0 where
  pub asked : Pending
  pub link : Link
  pub job : Task
  pub call_at : pending_at t u.connection ≡ Some asked
  pub on_link : named_link t u.connection asked.call ≡ OnLink link
  pub has_job : task_on link.target asked.call ≡ Some job
  pub in_role : has_role job before ≡ true
  pub made : now ≡ wire_after before u.moves
  pub on_plan : stand_on before asked.call job u.moves ≢ Off
  pub came : asked.arrival ≤ u.begun
  pub began : u.begun ≤ moment
  pub first : (at : ℕ) → u.begun ≤ at → first_ahead t None at u.connection (request_on link) ≡ None
  pub passes : is_nothing u.moves ≡ false → Passes t before.own link asked.call
  pub unmarked : is_nothing u.moves ≡ false → is_whole (stand_on before asked.call job u.moves) ≡ true → asked.aborted ≡ false

-- where no turn is under way the two buses are one
abbrev pub TurnStands : Tables → Wire → Wire → ℕ → Option Turn → Type 0
TurnStands t before now moment None = before ≡ now
TurnStands t before now moment (Some u) = Stands t before now moment u

-- every pending call has come
abbrev pub HaveCome : Tables → ℕ → Type 0
HaveCome t moment = (conn : ℕ) (p : Pending) → pending_at t conn ≡ Some p → p.arrival ≤ moment

-- with what holds of the tables of every gateway
pub record IsSound (f : InterleavedState) : Type 0 where
  pub turn_stands : TurnStands f.state.tables f.before f.state.wire f.state.moment f.turn
  pub have_come : HaveCome f.state.tables f.state.moment
  pub tables : rules.IsSound f.state.tables
