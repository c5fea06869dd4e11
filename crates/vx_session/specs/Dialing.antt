-- To be believed.
-- What a session can know of its dial.
use Rattle.std.specs.Prelude.{◌≤◌, ◌+◌, ◌-◌, ◌^◌, ℕ, min, Bool, true, false, List, Option, Some, None}
use Rattle.vx_io_traits.specs.declared.dials.Dial.{Ghosts}
use Rattle.vx_io_traits.specs.declared.dials.Rang.{Rang}
use Rattle.vx_group.specs.Event.{Event, Answer}

-- a dial: its calls, where it tells them, and its count of faults
pub record DialShown : Type 0 where
  pub calls : Option (List Rang)
  pub faults : ℕ

-- what a dial shows, by what its type tells
abbrev pub dial_shown : {D : Type 0} → Ghosts D → D → DialShown
dial_shown ways dial = record { calls = ways.calls dial; faults = ways.faults dial }

-- no dial is made
abbrev pub no_dial : DialShown
no_dial = record { calls = None; faults = 0 }

-- a count rose by so many, or stands at its greatest value
abbrev pub RoseBy : ℕ → ℕ → ℕ → Type 0
RoseBy count before now = min (before + count) (2 ^ 64 - 1) ≤ now

-- an answer behind a dial that failed
abbrev pub is_failed_dial : Event → Bool
is_failed_dial (Answer conn now failed (Some false) level reply) = true
is_failed_dial _ = false
