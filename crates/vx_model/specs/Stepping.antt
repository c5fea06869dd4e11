-- What a step of the plain gateway does, and its parts: a step takes an entry, or refuses it and changes nothing.
use Rattle.std.specs.Prelude.{◌≡◌, ℕ, ◌≤◌, Bool, true, false, ◌&&◌, ◌||◌, if◌then◌else◌, List, [], ◌∷◌, length, Option, Some, None, is_none, option_and_then}
use Rattle.std.specs.Option.{option_map}
use Rattle.vx_calls.specs.declared.codes.ErrorCode.{ErrorCode}
use Rattle.vx_calls.specs.Reply.{Reply}
use Rattle.vx_488.specs.declared.transfers.TheConstants.{ADDRESS_MAX}
use Rattle.vx_488.specs.declared.transfers.Transfer.{Transfer}
use Rattle.vx_488.specs.declared.wire.Wire.{Wire}
use Rattle.vx_488.specs.Wire.{wire_after}
use Rattle.vx_plan.specs.declared.tasks.Task.{Task}
use Rattle.vx_plan.specs.Plan.{Slot, Stand, fits}
use Rattle.vx_plan.specs.declared.tasks.TheConstants.{TURN_MAX}
use Rattle.vx_rules.specs.State.{Pending, Tables, State, with_pending}
use Rattle.vx_rules.specs.Checks.{named_link}
use Rattle.vx_rules.specs.Lines.{Admission, first_lines, lets_pass, is_first}
use Rattle.vx_rules.specs.Effects.{task_of, stopped_reply}
use Rattle.vx_rules.specs.Decide.{BusInput, settles, decide, turn_fits, may_tell, may_have_made, is_nothing, begun_between, turn_answer, stand_on}
use Rattle.vx_rules.specs.AtomicStep.{answered, if_reply}

-- the entry was taken and leads to this state, or it was refused and the state is the same
abbrev pub ModelGoes : Option State → State → Bool → State → Type 0
ModelGoes found old true now = found ≡ Some now
ModelGoes found old false now = (found ≡ None) × (now ≡ old)

-- a call's transfers leave an own address of at most 30, and there are no more of them than the longest job makes
pub record IsOrderly (w : Wire) (moves : List Transfer) : Type 0 where
  pub own : (wire_after w moves).own ≤ ADDRESS_MAX
  pub few : length moves ≤ TURN_MAX

-- whether something is wanted, and a transfer is that
abbrev pub fits_next : Option Slot → Transfer → Bool
fits_next None t = false
fits_next (Some slot) t = fits slot t

-- the byte of a transfer, where it got one
abbrev pub model_byte_of : Option (ℕ × Bool) → List ℕ
model_byte_of None = []
model_byte_of (Some g) = g.0 ∷ []

-- the state after the call of a connection is over
abbrev pub closed : State → ℕ → ℕ → List Transfer → Tables → State
closed s conn now moves t = record { tables = with_pending t conn None; wire = wire_after s.wire moves; moment = now }

-- the state after this reply, where it is the one told
abbrev pub ended : State → ℕ → ℕ → List Transfer → Reply → Option (Reply × Tables) → Option State
ended s conn now moves told found = option_and_then (if_reply told) (option_map (answered s conn now moves) found)

-- the state after the answer to a call, where what came from outside and the reply fit
abbrev pub answer_at : State → ℕ → ℕ → BusInput → Reply → Pending → Option State
answer_at s conn now o told p =
    if turn_fits s.tables s.wire conn p now o then ended s conn now o.moves told (decide s.tables s.wire conn p now o) else None

-- the answer that ends a call with an error
abbrev pub stopped_at : State → ℕ → ℕ → ErrorCode → List Transfer → Reply → Pending → Option State
stopped_at s conn now error moves told p = ended s conn now moves told (Some (stopped_reply p.call error moves, s.tables))

-- what comes from outside to a refusal: a beginning may be told, and transfers where the call is marked and waits behind no other
abbrev pub refusal_fits : Tables → Wire → ℕ → Pending → ℕ → BusInput → Bool
refusal_fits t w conn p now o = may_tell p now o.begun &&
    (if p.aborted then may_have_made t w conn p o.moves && (is_nothing o.moves || is_first t w.own conn p now) else is_nothing o.moves)

-- the job of a call that nothing is against
abbrev pub open_job : Tables → Wire → ℕ → Pending → Option Task
open_job t w conn p = if lets_pass t w.own conn p then task_of (named_link t conn p.call) p.call else None

-- the first lines of a call at an answer
abbrev pub lines_at : State → ℕ → ℕ → BusInput → Pending → Admission
lines_at s conn now o p = first_lines s.tables s.wire.own conn (settles o) p now

-- the answer of a turn whose transfers stand so in its job
abbrev pub stood_at : State → ℕ → ℕ → BusInput → Reply → Pending → Task → Stand → Option State
stood_at s conn now o told p job where_it_stands =
    ended s conn now o.moves told (option_map (λ given. (given, s.tables)) (turn_answer s.wire p now o job where_it_stands))

-- the answer of a turn for which the gateway has the role
abbrev pub turn_at : State → ℕ → ℕ → BusInput → Reply → Pending → Task → Option State
turn_at s conn now o told p job =
    if is_none o.dialed && begun_between p now o.begun then stood_at s conn now o told p job (stand_on s.wire p.call job o.moves) else None
