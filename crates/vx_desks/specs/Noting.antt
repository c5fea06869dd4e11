-- How a denial is told and noted.
use Rattle.std.specs.Prelude.{◌≡◌, ◌≤◌, ℕ, Bool, true, false, List, Option, Some, None}
use Rattle.std.specs.Io.KnownBytes.{Appends}
use Rattle.vx_text.specs.Ends.{End}
use Rattle.vx_text.specs.Writing.{StopsIn}
use Rattle.vx_calls.specs.Call.{Call}
use Rattle.vx_policy.specs.Texts.{deny_line}
use Rattle.vx_desks.specs.Judged.{denied_record}

-- a note took the line of a denial, or failed in it
abbrev pub IsTold : (conn rule : ℕ) → Bool → End → End → Type 0
IsTold conn rule true note note' = Appends note.bytes note'.bytes (deny_line conn rule) × (note.faults ≤ note'.faults)
IsTold conn rule false note note' = StopsIn note note' (deny_line conn rule)

-- the line of a denial was written, and then the record of the reply; or the note failed in it, and there is no reply
abbrev pub IsNoted : (conn rule xid : ℕ) → Call → End → Option (List ℕ) → End → Type 0
IsNoted conn rule xid call note (Some reply) note' =
    (reply ≡ denied_record xid call) × Appends note.bytes note'.bytes (deny_line conn rule) × (note.faults ≤ note'.faults)
IsNoted conn rule xid call note None note' = StopsIn note note' (deny_line conn rule)
