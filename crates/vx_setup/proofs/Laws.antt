-- Laws of the causes that a bench is refused for, proved.
pub mod Found
pub mod Scripts
use Rattle.std.proofs.Common.{◌≡◌, true, refl}
use Rattle.vx_script.specs.declared.Cause.{Cause}
use Rattle.vx_script.specs.declared.Cause.TheVariants as cause
use Rattle.vx_script.specs.Cause.{cause_word}
use Rattle.vx_trace.specs.Text.{is_cause}

-- the word of each cause is one that a fault's line may name
pub is_named : (why : Cause) → is_cause (cause_word why) ≡ true
is_named cause.Form = refl
is_named cause.Number = refl
is_named cause.Full = refl
is_named cause.Conn = refl
is_named cause.Busy = refl
is_named cause.After = refl
is_named cause.Idle = refl
is_named cause.Json = refl
is_named cause.Rule = refl
is_named cause.Spare = refl
is_named cause.Own = refl
is_named cause.Taken = refl
is_named cause.Bench = refl
is_named cause.Absent = refl
