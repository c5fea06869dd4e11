-- What the small values of the plain gateway show.
use Rattle.vx_plan.specs.Plan as plan
use Rattle.vx_model.specs.declared.plain.stand.Stand.{Stand}
use Rattle.vx_model.specs.declared.plain.stand.Stand.TheVariants as seen
use Rattle.vx_model.specs.declared.plain.answering.Told.{Told}
use Rattle.vx_rules.specs.Decide.{BusInput}

-- where transfers stand in a job
abbrev pub stand_shown : Stand → plan.Stand
stand_shown seen.Whole = plan.Whole
stand_shown seen.Part = plan.Part
stand_shown seen.Off = plan.Off

-- what came to an answer from outside
abbrev pub outside_shown : Told → BusInput
outside_shown o = record { begun = o.begun; moves = o.moves.now; failed = o.failed; dialed = o.dialed; level = o.level }
