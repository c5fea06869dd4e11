-- Why a text makes no table instrument.
use Rattle.std.specs.Prelude.{◌≡◌, List, Option, Some, None, Result, Err}
use Rattle.vx_script.specs.declared.Cause.TheVariants as cause
use Rattle.vx_table.specs.declared.TableErr.{TableErr}
use Rattle.vx_table.specs.Table.{Rule}
use Rattle.vx_setup.specs.declared.stops.Refusal.{Refusal}
use Rattle.vx_setup.specs.declared.stops.Refusal.TheVariants as stop

-- it isn't JSON, or spells no table; want of memory has no cause
abbrev pub NoTable : Option (Result (List Rule) TableErr) → Refusal → Type 0
NoTable rules (stop.Refused cause.Json) = rules ≡ None
NoTable rules (stop.Refused cause.Rule) = (why : TableErr) × (rules ≡ Some (Err why))
NoTable rules (stop.Refused other) = ⊥
NoTable rules stop.NoMemory = Unit {0}
