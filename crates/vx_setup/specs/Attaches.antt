-- To be believed.
-- The instrument of a line, attached.
use Rattle.std.specs.Prelude.{List, Option, Some, None, Result, Ok}
use Rattle.vx_488.specs.declared.transfers.Addr.{Addr}
use Rattle.vx_table.specs.declared.TableErr.{TableErr}
use Rattle.vx_table.specs.Table.{Rule, fresh_table}
use Rattle.vx_sim.specs.Occupants.{Table, Boxed}
use Rattle.vx_sim.specs.SimState.{SimState}
use Rattle.vx_sim.specs.Attaching.{IsAttached}
use Rattle.vx_setup.specs.Rack.{SpareShown}

-- an instrument with these rules, or a spare, is attached
abbrev pub AttachesTable : Addr → Option (Result (List Rule) TableErr) → SimState → SimState → Type 0
AttachesTable a (Some (Ok rules)) old new = IsAttached a (Table (fresh_table rules)) old new
AttachesTable a _ old new = ⊥

abbrev pub AttachesSpare : Addr → Option SpareShown → SimState → SimState → Type 0
AttachesSpare a (Some spare) old new = IsAttached a (Boxed spare.inst) old new
AttachesSpare a None old new = ⊥
