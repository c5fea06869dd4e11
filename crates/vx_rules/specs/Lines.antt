-- To be believed.
-- The first lines of the order of answers: an abort, a link that isn't there, the call's own checks, and locks.
use Rattle.std.specs.Prelude.{ℕ, Bool, true, false, not, ◌&&◌, ◌||◌, ◌==◌, ◌+◌, if◌then◌else◌, List, [], ◌∷◌, filter, Option, Some, None, is_none, option_and_then, Result, Ok, Err}
use Rattle.std.specs.Option.{option_map, option_map_or}
use Rattle.vx_488.specs.declared.transfers.TheConstants.{ADDRESS_MAX}
use Rattle.vx_calls.specs.declared.codes.ErrorCode.{ErrorCode}
use Rattle.vx_calls.specs.declared.codes.ErrorCode.TheVariants as code
use Rattle.vx_calls.specs.declared.targets.Target.{Target}
use Rattle.vx_calls.specs.Target.{target, conflict}
use Rattle.vx_calls.specs.Call.{Call}
use Rattle.vx_calls.specs.Call as call
use Rattle.vx_rules.specs.Locks.{holds, holder_of}
use Rattle.vx_rules.specs.State.{Pending, Tables, pending_at}
use Rattle.vx_rules.specs.Calls.{is_bus_call, is_lock_call, asks_wait, lock_timeout_of, has_passed}
use Rattle.vx_rules.specs.Checks.{NamedLink, NoLink, DeadLink, OnLink, named_link, check}

-- what a call is under locks with: a link, 0 for one that isn't made yet, and what it is to
pub record LockRequest : Type 0 where
  pub link : ℕ
  pub target : Target

abbrev pub named_request : Result Target ErrorCode → Option LockRequest
named_request (Ok t) = Some (record { link = 0; target = t })
named_request (Err error) = None

abbrev pub created_request : ℕ → Call → Option LockRequest
created_request own (call.CreateLink client true lock_timeout device) = named_request (target device own)
created_request own _ = None

-- bus calls and lock calls are under locks, on the target of their link
abbrev pub lock_request : ℕ → NamedLink → Call → Option LockRequest
lock_request own (OnLink l) asked =
    if is_bus_call asked || is_lock_call asked then Some (record { link = l.number; target = l.target }) else None
lock_request own NoLink asked = created_request own asked
lock_request own DeadLink asked = None

-- the first holder of a lock that keeps a call off its target
abbrev pub holder_against : Tables → ℕ → NamedLink → Call → Option ℕ
holder_against t own about asked = option_and_then (λ c. holder_of t.locks c.link c.target) (lock_request own about asked)

-- ---- calls in order of arrival

-- an address that no device and no gateway has
abbrev pub nobody : ℕ
nobody = ADDRESS_MAX + 1

-- whether a call may wait: a wait is asked for, and its time hasn't passed
abbrev pub waits_at : Pending → ℕ → Bool
waits_at p now = asks_wait p.call && not (has_passed (lock_timeout_of p.call) p.arrival now)

-- What the call of a connection stands in line for at this moment: the target that it is under locks with, where it may wait and no
-- device_abort has marked it. The gateway's own address plays no part.
abbrev pub wanted_by : Tables → ℕ → ℕ → Pending → Option Target
wanted_by t now conn p =
    if not p.aborted && waits_at p now
    then option_map (λ c. c.target) (lock_request nobody (named_link t conn p.call) p.call)
    else None

-- whether this is the connection, where there is one, whose turn on the bus is under way: its call stands in no line
abbrev pub is_busy : Option ℕ → ℕ → Bool
is_busy None conn = false
is_busy (Some other) conn = other == conn

-- whether the call of a connection stands in line for something that conflicts with this target
abbrev pub is_in_line : Tables → Option ℕ → ℕ → Target → ℕ → Bool
is_in_line t busy now target conn =
    not (is_busy busy conn) && option_map_or (λ wanted. conflict wanted target) (option_and_then (wanted_by t now conn) (pending_at t conn)) false

-- the connections whose calls came before that of this one
abbrev pub came_before : List ℕ → ℕ → List ℕ
came_before [] conn = []
came_before (n ∷ ns) conn = if n == conn then [] else n ∷ came_before ns conn

-- those of them whose calls stand in line for what conflicts with the target, in order of arrival
abbrev pub ahead : Tables → Option ℕ → ℕ → ℕ → Target → List ℕ
ahead t busy now conn target = filter (is_in_line t busy now target) (came_before t.arrivals conn)

abbrev pub first_of : List ℕ → Option ℕ
first_of [] = None
first_of (n ∷ ns) = Some n

-- the first of them that a connection's call lets go first: the calls of a link that holds a lock wait for none
abbrev pub first_ahead : Tables → Option ℕ → ℕ → ℕ → LockRequest → Option ℕ
first_ahead t busy now conn c = if holds t.locks c.link then None else first_of (ahead t busy now conn c.target)

abbrev pub ahead_of : Tables → Option ℕ → ℕ → ℕ → ℕ → NamedLink → Call → Option ℕ
ahead_of t busy own now conn about asked = option_and_then (first_ahead t busy now conn) (lock_request own about asked)

-- ---- the first lines

-- what keeps a call off its target: another link's lock, or the call of another connection that stands in line before it
pub data Bar : Type 0 where
  HeldBy : (link : ℕ) → Bar
  Behind : (conn : ℕ) → Bar

-- a lock comes before a call
abbrev pub bar_by : Option ℕ → Option ℕ → Option Bar
bar_by (Some link) first = Some (HeldBy link)
bar_by None first = option_map Behind first

abbrev pub bar_against : Tables → Option ℕ → ℕ → ℕ → ℕ → NamedLink → Call → Option Bar
bar_against t busy own now conn about asked = bar_by (holder_against t own about asked) (ahead_of t busy own now conn about asked)

-- the first lines refuse a call, let it wait for what keeps it off, or let it pass
pub data Admission : Type 0 where
  Refused : ErrorCode → Admission
  Waiting : Bar → Admission
  Passed : Admission

-- a call that is kept off waits, or is refused
abbrev pub kept_off : Bar → Bool → Admission
kept_off bar waits = if waits then Waiting bar else Refused code.Locked

-- it waits where a wait is asked for and its time hasn't passed
abbrev pub lock_lines : Pending → ℕ → Option Bar → Admission
lock_lines p now None = Passed
lock_lines p now (Some bar) = kept_off bar (waits_at p now)

abbrev pub checked_lines : Pending → ℕ → Option ErrorCode → Option Bar → Admission
checked_lines p now (Some error) bar = Refused error
checked_lines p now None bar = lock_lines p now bar

-- the lines behind that of the abort, for a call of this connection at this moment, while a connection's turn is under way or none
abbrev pub later_lines_in : Tables → Option ℕ → ℕ → ℕ → Bool → Pending → ℕ → Admission
later_lines_in t busy own conn settling p now =
    let about = named_link t conn p.call in
    checked_lines p now (check t own conn settling about p.call) (bar_against t busy own now conn about p.call)

-- the first lines of a call's answer
abbrev pub first_lines_in : Tables → Option ℕ → ℕ → ℕ → Bool → Pending → ℕ → Admission
first_lines_in t busy own conn settling p now = if p.aborted then Refused code.Abort else later_lines_in t busy own conn settling p now

-- for the gateway of one thread no turn is under way
abbrev pub later_lines : Tables → ℕ → ℕ → Bool → Pending → ℕ → Admission
later_lines t own conn settling p now = later_lines_in t None own conn settling p now

abbrev pub first_lines : Tables → ℕ → ℕ → Bool → Pending → ℕ → Admission
first_lines t own conn settling p now = first_lines_in t None own conn settling p now

-- whether neither the link, nor a check, nor a lock is against a call: this doesn't depend on the moment, and calls in line don't
-- count
abbrev pub checks_pass : Option ErrorCode → Option ℕ → Bool
checks_pass None None = true
checks_pass _ _ = false

abbrev pub lets_pass : Tables → ℕ → ℕ → Pending → Bool
lets_pass t own conn p = let about = named_link t conn p.call in checks_pass (check t own conn false about p.call) (holder_against t own about p.call)

-- whether a connection's call waits behind no other at this moment
abbrev pub is_first : Tables → ℕ → ℕ → Pending → ℕ → Bool
is_first t own conn p now = is_none (ahead_of t None own now conn (named_link t conn p.call) p.call)
