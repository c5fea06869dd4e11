-- What the small values of the reading of records show.
use Rattle.std.specs.Prelude.{◌<◌, ◌^◌, ⊤, length}
use Rattle.vx_calls.specs.declared.replies.Interrupt.{Interrupt}
use Rattle.vx_codec.specs.Answered.{Outcome}
use Rattle.vx_codec.specs.Answered as told
use Rattle.vx_srq.specs.Shown.{handle_shown}
use Rattle.vx_rules.specs.SrqState.{Srq}

-- a length word can count the bytes of results
abbrev pub IsPuttableOutcome : Outcome → Type 0
IsPuttableOutcome (told.Read error reason bytes) = length bytes < 2 ^ 32
IsPuttableOutcome (told.Docmd error bytes) = length bytes < 2 ^ 32
IsPuttableOutcome _ = ⊤

abbrev pub interrupt_shown : Interrupt → Srq
interrupt_shown i = record { xid = i.xid; program = i.prog; version = i.vers; handle = handle_shown i.handle }
