-- What a checker shows, and what its calls answer.
use Rattle.std.specs.Prelude.{◌≡◌, ◌<◌, ◌^◌, ℕ, ⊤, Bool, true, false, List, [], length, map, Option, Some, None, Result, Ok, Err}
use Rattle.vx_calls.specs.declared.calls.Proc.{Proc}
use Rattle.vx_calls.specs.declared.calls.Proc.TheVariants as proc
use Rattle.vx_488.specs.declared.transfers.Transfer.{Transfer}
use Rattle.vx_trace.specs.declared.lines.Line.{Line}
use Rattle.vx_trace.specs.Output.{Output, Out, Irq, Call, line_shown}
use Rattle.vx_rules.specs.State.{State}
use Rattle.vx_flow.specs.Event.{Event}
use Rattle.vx_flow.specs.InterleavedState.{Turn, turn_without}
use Rattle.vx_history.specs.declared.cause.Cause.TheVariants as cause
use Rattle.vx_history.specs.declared.cause.Stop.{Stop}
use Rattle.vx_history.specs.declared.cause.Stop.TheVariants as stop
use Rattle.vx_history.specs.declared.kept.Kept as seen
use Rattle.vx_history.specs.declared.checker.Begun.{Begun}
use Rattle.vx_history.specs.declared.checker.Checker.{Checker}
use Rattle.vx_history.specs.declared.checker.Next as asked
use Rattle.vx_history.specs.declared.checker.Next.TheVariants as asks
use Rattle.vx_history.specs.Shown.{Timed}
use Rattle.vx_history.specs.CheckState.{CheckState, Kept, Next, Head, Free, Junk, Due, Aborted, Dialed, Nothing}
use Rattle.vx_history.specs.Saying.{Said}
use Rattle.vx_history.specs.Taking.{Took, Taken, Spoiled, taken_so}

-- ---- what is shown

-- the line that a text was read as
abbrev pub timed_shown : ℕ × Line → Timed
timed_shown p = record { moment = p.0; line = line_shown p.1 }

abbrev pub kept_shown : seen.Kept → Kept
kept_shown k = record { connection = k.conn; xid = k.xid; tells_level = k.tells_level }

-- the turn that began so, with these transfers
abbrev pub turn_shown : Option Begun → List Transfer → Option Turn
turn_shown None moves = None
turn_shown (Some b) moves = Some (record { connection = b.conn; begun = b.at; moves = moves })

-- what is asked of the next line, where this record may be due
abbrev pub next_shown : asked.Next → List ℕ → Next
next_shown asks.Head due = Head
next_shown asks.Free due = Free
next_shown (asks.Junk conn) due = Junk conn
next_shown (asks.Due conn) due = Due conn due
next_shown (asks.Aborted conn xid lid) due = Aborted conn xid lid
next_shown (asks.Dialed conn up) due = Dialed conn up
next_shown asks.Nothing due = Nothing

-- what a checker knows of a trace
abbrev pub checker_shown : Checker → CheckState
checker_shown c = record {
  gateway = c.plain;
  turn = turn_shown c.turn c.moves.items;
  kept = map kept_shown c.kept.items;
  moment = c.moment;
  next = next_shown c.next c.due.items;
}

-- the turn under way behind the answer to a connection's call, or its end
abbrev pub turn_behind : Option Turn → ℕ → Option Turn
turn_behind None conn = None
turn_behind (Some u) conn = turn_without u conn

-- ---- what calls answer

-- a line was taken, or wasn't for the cause that is against it; or memory ran out
abbrev pub EndsTake : Took → Result Unit Stop → CheckState → Type 0
EndsTake took (Ok done) now = (events : List Event) × (took ≡ Taken events now)
EndsTake took (Err (stop.Spoiled why)) now = took ≡ Spoiled why
EndsTake took (Err stop.NoMemory) now = ⊤

-- so was a line that says this
abbrev pub EndsSaid : Checker → Said → Result Unit Stop → Checker → Type 0
EndsSaid old said result new = EndsTake (taken_so (checker_shown old) said) result (checker_shown new)

-- the gateway of one thread took an entry, or didn't; or memory ran out
abbrev pub EndsStep : Option State → Result Unit Stop → State → Type 0
EndsStep found (Ok done) now = found ≡ Some now
EndsStep found (Err (stop.Spoiled why)) now = (found ≡ None) × (why ≡ cause.Entry)
EndsStep found (Err stop.NoMemory) now = ⊤

-- ---- what is asked of procedures and lines

-- a call of this procedure needs the bus, or a dial
abbrev pub needs_bus : Proc → Bool
needs_bus proc.Write = true
needs_bus proc.Read = true
needs_bus proc.ReadStb = true
needs_bus proc.Trigger = true
needs_bus proc.Clear = true
needs_bus proc.Remote = true
needs_bus proc.Local = true
needs_bus proc.Docmd = true
needs_bus _ = false

abbrev pub needs_dial : Proc → Bool
needs_dial proc.CreateIntr = true
needs_dial _ = false

-- the bytes that a line holds
abbrev pub bytes_in : Output → List ℕ
bytes_in (Out conn bytes) = bytes
bytes_in (Irq conn bytes) = bytes
bytes_in (Call conn bytes) = bytes
bytes_in _ = []

-- they are fewer than the mark of a record can count
abbrev pub IsShortLine : Output → Type 0
IsShortLine shown = length (bytes_in shown) < 2 ^ 31
