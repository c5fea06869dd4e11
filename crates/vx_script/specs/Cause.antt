-- To be believed.
-- The words of the causes.
use Rattle.std.specs.Prelude.{ℕ, List, codes}
use Rattle.vx_script.specs.declared.Cause.{Cause}
use Rattle.vx_script.specs.declared.Cause.TheVariants as cause

-- the word that is printed for a cause: its name in lower case
abbrev pub cause_word : Cause → List ℕ
cause_word cause.Form = codes "form"
cause_word cause.Number = codes "number"
cause_word cause.Full = codes "full"
cause_word cause.Conn = codes "conn"
cause_word cause.Busy = codes "busy"
cause_word cause.After = codes "after"
cause_word cause.Idle = codes "idle"
cause_word cause.Json = codes "json"
cause_word cause.Rule = codes "rule"
cause_word cause.Spare = codes "spare"
cause_word cause.Own = codes "own"
cause_word cause.Taken = codes "taken"
cause_word cause.Bench = codes "bench"
cause_word cause.Absent = codes "absent"
