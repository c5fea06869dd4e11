-- To be believed.
-- The spare instruments as a line that names one sees them.
use Rattle.vx_rack.specs.declared.Spare.{Spare}
use Rattle.vx_sim.specs.Occupants.{Seated}
use Rattle.vx_setup.specs.Rack.{SpareShown}

abbrev pub spare_shown : {I : Type 0} → (I → Seated) → Spare I → SpareShown
spare_shown seat spare = record { name = spare.name.bytes; inst = seat spare.inst }
