-- To be believed.
-- The jobs of bus calls, and the effects of the calls that need no bus.
use Rattle.std.specs.Prelude.{ℕ, Bool, if◌then◌else◌, List, [], length, Option, Some, None, Result, Ok, Err}
use Rattle.std.specs.Option.{option_map}
use Rattle.vx_calls.specs.declared.limits.TheConstants.{WRITE_MAX}
use Rattle.vx_calls.specs.declared.codes.ErrorCode.{ErrorCode}
use Rattle.vx_calls.specs.declared.codes.ErrorCode.TheVariants as code
use Rattle.vx_calls.specs.declared.targets.Target.{Target}
use Rattle.vx_calls.specs.Target.{target}
use Rattle.vx_calls.specs.Call.{Call}
use Rattle.vx_calls.specs.Call as call
use Rattle.vx_calls.specs.Reply.{Reply}
use Rattle.vx_calls.specs.Reply as reply
use Rattle.vx_488.specs.declared.transfers.Transfer.{Transfer}
use Rattle.vx_plan.specs.declared.tasks.Task.{Task}
use Rattle.vx_plan.specs.declared.tasks.Task.TheVariants as task
use Rattle.vx_plan.specs.Results.{puts_made, bytes_got}
use Rattle.vx_rules.specs.Table.{Link}
use Rattle.vx_rules.specs.Locks.{holds, with_lock, without_lock}
use Rattle.vx_rules.specs.SrqState.{with_enable, with_channel, with_new_channel}
use Rattle.vx_rules.specs.State.{Tables, with_link, without_link}
use Rattle.vx_rules.specs.Calls.{sets_end, sets_stop}
use Rattle.vx_rules.specs.Docmd.{command_of, command_task}
use Rattle.vx_rules.specs.Checks.{NamedLink, NoLink, DeadLink, OnLink}

-- the job of a bus call on a target
abbrev pub task_on : Target → Call → Option Task
task_on t (call.Write lid io_timeout lock_timeout flags bytes) = Some (task.Write t (length bytes) (sets_end flags))
task_on t (call.Read lid request io_timeout lock_timeout flags term) = Some (task.Read t request (if sets_stop flags then Some term else None))
task_on t (call.ReadStb generic) = Some (task.Stb t)
task_on t (call.Trigger generic) = Some (task.Trigger t)
task_on t (call.Clear generic) = Some (task.Clear t)
task_on t (call.Remote generic) = Some (task.Remote t)
task_on t (call.Local generic) = Some (task.Local t)
task_on t (call.Docmd lid flags io_timeout lock_timeout cmd big size bytes) = option_map (λ c. command_task c big bytes) (command_of cmd)
task_on t _ = None

-- the job of a call, where it is a bus call on a live link
abbrev pub task_of : NamedLink → Call → Option Task
task_of (OnLink l) asked = task_on l.target asked
task_of NoLink asked = None
task_of DeadLink asked = None

-- The reply of a call that ends with an error after its turn made these transfers: the count of bytes put, or the bytes
-- got; every other result is that of a call that did nothing.
abbrev pub stopped_reply : Call → ErrorCode → List Transfer → Reply
stopped_reply call.Null error moves = reply.Null
stopped_reply (call.CreateLink client lock lock_timeout device) error moves = reply.CreateLink error 0 0 0
stopped_reply (call.Write lid io_timeout lock_timeout flags bytes) error moves = reply.Write error (puts_made moves)
stopped_reply (call.Read lid request io_timeout lock_timeout flags term) error moves = reply.Read error 0 (bytes_got moves)
stopped_reply (call.ReadStb generic) error moves = reply.Stb error 0
stopped_reply (call.Docmd lid flags io_timeout lock_timeout cmd big size bytes) error moves = reply.Docmd error []
stopped_reply _ error moves = reply.Error error

-- the link with the next number, to what the text names, and its lock where one is asked for
abbrev pub locked_link : Tables → Bool → Target → Tables → Tables
locked_link t lock named made = if lock then record made { locks = with_lock made.locks t.links.next named } else made

abbrev pub create : Tables → ℕ → Bool → Result Target ErrorCode → Option (Reply × Tables)
create t conn lock (Ok named) =
    Some (reply.CreateLink code.Ok t.links.next t.abort_port WRITE_MAX, locked_link t lock named (with_link t conn named))
create t conn lock (Err error) = None

-- the link's lock, unless it holds it already
abbrev pub locked : Tables → Link → Tables
locked t l = if holds t.locks l.number then t else record t { locks = with_lock t.locks l.number l.target }

-- the effect of a call on a link
abbrev pub effect_on : Tables → ℕ → Link → Call → Option (Reply × Tables)
effect_on t conn l (call.Lock lid flags lock_timeout) = Some (reply.Error code.Ok, locked t l)
effect_on t conn l (call.Unlock lid) = Some (reply.Error code.Ok, record t { locks = without_lock t.locks l.number })
effect_on t conn l (call.EnableSrq lid enable handle) =
    Some (reply.Error code.Ok, record t { srq_state = with_enable t.srq_state (record { link = l.number; connection = conn; on = enable; handle = handle }) })
effect_on t conn l (call.DestroyLink lid) = Some (reply.Error code.Ok, without_link t conn l.number)
effect_on t conn l _ = None

-- the reply and the effect of a call that needs no bus and no dial
abbrev pub effect : Tables → ℕ → ℕ → NamedLink → Call → Option (Reply × Tables)
effect t own conn (OnLink l) asked = effect_on t conn l asked
effect t own conn NoLink (call.CreateLink client lock lock_timeout device) = create t conn lock (target device own)
effect t own conn NoLink call.DestroyIntr = Some (reply.Error code.Ok, record t { srq_state = with_channel t.srq_state conn None })
effect t own conn NoLink _ = None
effect t own conn DeadLink asked = None

-- a dial that was made: the channel where it came up, and NoChannel where it didn't
abbrev pub settle : Tables → ℕ → Call → Bool → Option (Reply × Tables)
settle t conn (call.CreateIntr host port prog vers family) up =
    if up then Some (reply.Error code.Ok, record t { srq_state = with_new_channel t.srq_state conn prog vers }) else Some (reply.Error code.NoChannel, t)
settle t conn _ up = None
