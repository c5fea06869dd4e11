-- To be believed.
-- Why the instrument of a line isn't attached.
use Rattle.std.specs.Prelude.{ℕ, if◌then◌else◌, List, Option, Some, None, Result, Ok, Err}
use Rattle.std.specs.Str.{is_utf8}
use Rattle.serde_json.specs.Data.{Data}
use Rattle.serde_json.specs.Read.{read}
use Rattle.vx_488.specs.declared.transfers.Addr.{Addr}
use Rattle.vx_script.specs.declared.Cause.{Cause}
use Rattle.vx_script.specs.declared.Cause.TheVariants as cause
use Rattle.vx_table.specs.declared.TableErr.{TableErr}
use Rattle.vx_table.specs.Table.{Rule}
use Rattle.vx_table.specs.Spelling.{rules_of}
use Rattle.vx_sim.specs.declared.attach.Attach.{Attach}
use Rattle.vx_sim.specs.declared.attach.Attach.TheVariants as attach
use Rattle.vx_sim.specs.SimState.{SimState}
use Rattle.vx_sim.specs.Attaching as attaching
use Rattle.vx_setup.specs.Rack.{SpareShown}

-- a bus address of a step
abbrev pub address : ℕ → Option ℕ → Addr
address p s = record { p = p; s = s }

-- why an instrument isn't attached
abbrev pub cause_of : Option Attach → Option Cause
cause_of None = None
cause_of (Some attach.OwnAddress) = Some cause.Own
cause_of (Some (attach.Taken holder)) = Some cause.Taken
cause_of (Some attach.Full) = Some cause.Bench

-- the rules that a text spells: no JSON, no table, or these (RFC 8259)
abbrev pub rules_by : Option Data → Option (Result (List Rule) TableErr)
rules_by None = None
rules_by (Some value) = Some (rules_of value)

abbrev pub rules_in : List ℕ → Option (Result (List Rule) TableErr)
rules_in text = if is_utf8 text then rules_by (read text) else None

-- why no instrument with these rules is attached at the address
abbrev pub table_refused : SimState → Addr → Option (Result (List Rule) TableErr) → Option Cause
table_refused bus a None = Some cause.Json
table_refused bus a (Some (Err why)) = Some cause.Rule
table_refused bus a (Some (Ok rules)) = cause_of (attaching.refusal bus a)

-- why a spare isn't attached there
abbrev pub spare_refused : SimState → Addr → Option SpareShown → Option Cause
spare_refused bus a None = Some cause.Spare
spare_refused bus a (Some spare) = cause_of (attaching.refusal bus a)
