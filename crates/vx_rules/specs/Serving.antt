-- What a call that may be served comes to: the reply of one that needs no bus, a dial, and a job on the bus.
use Rattle.std.specs.Prelude.{ℕ, ◌≤◌, Bool, true, false, is_none, if◌then◌else◌, List, length, Option, Some}
use Rattle.vx_calls.specs.declared.limits.TheConstants.{WRITE_MAX}
use Rattle.vx_calls.specs.declared.codes.ErrorCode.TheVariants as code
use Rattle.vx_calls.specs.Reply.{Reply}
use Rattle.vx_calls.specs.Reply as reply
use Rattle.vx_rules.specs.SrqState.{with_new_channel}
use Rattle.vx_plan.specs.declared.tasks.Task.{Task}
use Rattle.vx_plan.specs.Tasks.{IsPlainTask, IsTargetPlain, HasBytes, most_bytes}
use Rattle.vx_rules.specs.Table.{Link}
use Rattle.vx_calls.specs.Call.{Call}
use Rattle.vx_calls.specs.Call as call
use Rattle.vx_rules.specs.State.{Tables}
use Rattle.vx_rules.specs.Checks.{check_channel}

-- a create_intr_chan that its own checks let pass at its settling
abbrev pub can_settle : Tables → ℕ → Call → Bool
can_settle t conn (call.CreateIntr host port prog vers family) = is_none (check_channel t conn true family port)
can_settle t conn _ = false

-- the reply of a dial, and the tables after it
abbrev pub settled : Tables → ℕ → ℕ → ℕ → Bool → Option (Reply × Tables)
settled t conn prog vers up =
    if up then Some (reply.Error code.Ok, record t { srq_state = with_new_channel t.srq_state conn prog vers }) else Some (reply.Error code.NoChannel, t)

-- the reply of a call that needs no bus and no dial, where nothing is against it
abbrev pub served_reply : Tables → Call → Reply
served_reply t (call.CreateLink client lock lock_timeout device) = reply.CreateLink code.Ok t.links.next t.abort_port WRITE_MAX
served_reply t _ = reply.Error code.Ok

-- both parts of a link's address are at most 30
abbrev pub IsPlainLink : Link → Type 0
IsPlainLink l = IsTargetPlain l.target

-- a job that can be done on the bus: its addresses are at most 30, and these are its bytes, no more than it may have
pub record IsDoable (job : Task) (bytes : List ℕ) : Type 0 where
  pub plain : IsPlainTask job
  pub sent : HasBytes job bytes
  pub few : length bytes ≤ most_bytes job
