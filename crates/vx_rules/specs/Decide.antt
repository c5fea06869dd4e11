-- To be believed.
-- The answer of a call: all lines of the order of answers, but for those on turns of other connections.
use Rattle.std.specs.Prelude.{ℕ, Bool, true, false, not, ◌&&◌, ◌||◌, ◌==◌, nat_le, if◌then◌else◌, List, [], ◌∷◌, Option, Some, None, is_none, is_some}
use Rattle.std.specs.Option.{option_map}
use Rattle.vx_calls.specs.declared.codes.ErrorCode.TheVariants as code
use Rattle.vx_calls.specs.Call.{Call}
use Rattle.vx_calls.specs.Reply.{Reply}
use Rattle.vx_488.specs.declared.transfers.Transfer.{Transfer}
use Rattle.vx_488.specs.declared.wire.Wire.{Wire}
use Rattle.vx_plan.specs.declared.tasks.Task.{Task}
use Rattle.vx_plan.specs.declared.tasks.Task.TheVariants as task
use Rattle.vx_plan.specs.Plan.{Stand, Whole, Part, Off, stand}
use Rattle.vx_plan.specs.Tasks.{plan}
use Rattle.vx_plan.specs.Roles.{has_role}
use Rattle.vx_plan.specs.Results.{whole_reply}
use Rattle.vx_rules.specs.State.{Pending, Tables}
use Rattle.vx_rules.specs.Calls.{is_bus_call, asks_dial, io_timeout_of, bytes_of, is_big, has_passed}
use Rattle.vx_rules.specs.Checks.{named_link}
use Rattle.vx_rules.specs.Lines.{Admission, Refused, Passed, first_lines_in, later_lines, lets_pass, is_first}
use Rattle.vx_rules.specs.Effects.{task_of, stopped_reply, effect, settle}

-- What comes to an answer from outside: the moment at which the call's turn began and the transfers that it made, whether
-- the bus failed in this poll, how a dial went, and the level that a bus status tells.
pub record BusInput : Type 0 where
  pub begun : ℕ
  pub moves : List Transfer
  pub failed : Bool
  pub dialed : Option Bool
  pub level : Bool

-- no failure, no dial and no level came from outside
abbrev pub is_quiet : BusInput → Bool
is_quiet o = not o.failed && is_none o.dialed && not o.level

-- where transfers of a job stand, on a bus that was this as the turn began
abbrev pub stand_on : Wire → Call → Task → List Transfer → Stand
stand_on w asked job moves = stand (plan job (bytes_of asked) w.polling w.own) moves

-- the level of an answer is free for bus status of SRQ and of NDAC alone
abbrev pub tells_level : Task → Bool
tells_level (task.Status selector) = (selector == 2) || (selector == 3)
tells_level _ = false

abbrev pub level_fits : Task → Bool → Bool
level_fits job level = not level || tells_level job

-- a turn with these transfers: whole, failed, or held longer than its time
abbrev pub turn_answer : Wire → Pending → ℕ → BusInput → Task → Stand → Option Reply
turn_answer w p now o job Whole =
    if not o.failed && level_fits job o.level then Some (whole_reply job (bytes_of p.call) w (is_big p.call) o.level o.moves) else None
turn_answer w p now o job Part =
    if o.level then None
    else if o.failed then Some (stopped_reply p.call code.BusFault o.moves)
    else if has_passed (io_timeout_of p.call) o.begun now then Some (stopped_reply p.call code.Timeout o.moves)
    else None
turn_answer w p now o job Off = None

-- a bus call without the role, or its turn
abbrev pub job_answer : Wire → Pending → ℕ → BusInput → Task → Option Reply
job_answer w p now o job =
    if has_role job w
    then (if is_none o.dialed then turn_answer w p now o job (stand_on w p.call job o.moves) else None)
    else (if is_quiet o then Some (stopped_reply p.call code.BusFault o.moves) else None)

abbrev pub bus_answer : Wire → Pending → ℕ → BusInput → Option Task → Option Reply
bus_answer w p now o None = None
bus_answer w p now o (Some job) = job_answer w p now o job

-- a create_intr_chan is answered once a dial was made
abbrev pub dialed_answer : Tables → ℕ → Pending → BusInput → Option Bool → Option (Reply × Tables)
dialed_answer t conn p o None = None
dialed_answer t conn p o (Some up) = if not o.failed && not o.level then settle t conn p.call up else None

-- a call that nothing keeps off
abbrev pub passed_answer : Tables → Wire → ℕ → Pending → ℕ → BusInput → Option (Reply × Tables)
passed_answer t w conn p now o =
    let about = named_link t conn p.call in
    if asks_dial p.call then dialed_answer t conn p o o.dialed
    else if is_bus_call p.call then option_map (λ given. (given, t)) (bus_answer w p now o (task_of about p.call))
    else if is_quiet o then effect t w.own conn about p.call
    else None

-- a call after the first lines: a refusal's reply has what its turn, where one was under way, has made
abbrev pub by_lines : Tables → Wire → ℕ → Pending → ℕ → BusInput → Admission → Option (Reply × Tables)
by_lines t w conn p now o (Refused error) = if is_quiet o then Some (stopped_reply p.call error o.moves, t) else None
by_lines t w conn p now o Passed = passed_answer t w conn p now o
by_lines t w conn p now o _ = None

-- whether a dial was made for the call
abbrev pub settles : BusInput → Bool
settles o = is_some o.dialed

-- the reply of a connection's call at this moment, and the tables with its effect, on a bus that was this before the
-- call's transfers, while a connection's turn is under way or none; none where it has no answer with what came from outside
abbrev pub decide_in : Tables → Option ℕ → Wire → ℕ → Pending → ℕ → BusInput → Option (Reply × Tables)
decide_in t busy w conn p now o = by_lines t w conn p now o (first_lines_in t busy w.own conn (settles o) p now)

abbrev pub decide : Tables → Wire → ℕ → Pending → ℕ → BusInput → Option (Reply × Tables)
decide t w conn p now o = decide_in t None w conn p now o

-- What the beginning and the transfers of an answer may be, by the line that gives it.

abbrev pub is_nothing : List Transfer → Bool
is_nothing [] = true
is_nothing (t ∷ ts) = false

-- the turn began between the call's arrival and now
abbrev pub begun_between : Pending → ℕ → ℕ → Bool
begun_between p now begun = nat_le p.arrival begun && nat_le begun now

-- an answer that rests on no turn: a beginning may be told, or 0
abbrev pub may_tell : Pending → ℕ → ℕ → Bool
may_tell p now begun = (begun == 0) || begun_between p now begun

abbrev pub is_part : Stand → Bool
is_part Part = true
is_part _ = false

-- a bus call with the role for its job
abbrev pub has_job_role : Wire → Option Task → Bool
has_job_role w None = false
has_job_role w (Some job) = has_role job w

-- where transfers of a call's job stand, on a bus that was this as its turn began
abbrev pub stand_of_job : Wire → Call → List Transfer → Option Task → Stand
stand_of_job w asked moves None = Off
stand_of_job w asked moves (Some job) = stand_on w asked job moves

-- whether these transfers are a part of the call's job, for which the gateway had the role
abbrev pub is_part_of : Wire → Call → List Transfer → Option Task → Bool
is_part_of w asked moves job = has_job_role w job && is_part (stand_of_job w asked moves job)

-- the transfers that a call may have made which is ended from outside, by an abort or the end of its connection: none, or a
-- part of its job where it was let pass, calls in line left out
abbrev pub may_have_made : Tables → Wire → ℕ → Pending → List Transfer → Bool
may_have_made t w conn p moves =
    is_nothing moves || (lets_pass t w.own conn p && is_part_of w p.call moves (task_of (named_link t conn p.call) p.call))

-- a call that passed: a turn's beginning is told, and any transfers; or else no turn was there
abbrev pub passed_fits : Tables → Wire → ℕ → Pending → ℕ → BusInput → Bool
passed_fits t w conn p now o =
    if has_job_role w (task_of (named_link t conn p.call) p.call)
    then begun_between p now o.begun
    else may_tell p now o.begun && is_nothing o.moves

abbrev pub lines_fit : Tables → Wire → ℕ → Pending → ℕ → BusInput → Admission → Bool
lines_fit t w conn p now o (Refused error) = may_tell p now o.begun && is_nothing o.moves
lines_fit t w conn p now o Passed = passed_fits t w conn p now o
lines_fit t w conn p now o _ = false

-- whether the beginning and the transfers are such as the gateway of one thread can have
abbrev pub turn_fits : Tables → Wire → ℕ → Pending → ℕ → BusInput → Bool
turn_fits t w conn p now o =
    if p.aborted then may_tell p now o.begun && may_have_made t w conn p o.moves && (is_nothing o.moves || is_first t w.own conn p now)
    else lines_fit t w conn p now o (later_lines t w.own conn (settles o) p now)
