-- To be believed.
-- What the traces of formed runs tell.
use Rattle.std.specs.Prelude.{◌≡◌, ℕ, Bool, true, false, List, ◌++◌, filter}
use Rattle.std.specs.List.{All}
use Rattle.vx_script.specs.declared.Version.TheVariants as version
use Rattle.vx_trace.specs.Output.{Done}
use Rattle.vx_trace.specs.Text.{line_text}
use Rattle.vx_rules.specs.Legal.{IsLegal}
use Rattle.vx_flow.specs.Event.{Event}
use Rattle.vx_flow.specs.Event as event
use Rattle.vx_flow.specs.Linearization.{linearization}
use Rattle.vx_run.specs.Item.{Item, events}
use Rattle.vx_run.specs.RunText.{IsPrintable, text}
use Rattle.vx_run.specs.Forming.{IsFormed}
use Rattle.vx_history.specs.CheckState.{abort_port}
use Rattle.vx_history.specs.History.{Lawful, TraceTells}

-- the bytes of the trace of a run
abbrev pub run_trace : List Item → List ℕ
run_trace items = text version.Two items ++ line_text Done

-- an event that a trace tells: any but that a dial is asked for, which is no entry of the gateway of one thread
abbrev pub is_told : Event → Bool
is_told (event.Dial conn now) = false
is_told _ = true

-- the events of a run that its trace tells
abbrev pub told_events : List Item → List Event
told_events items = filter is_told (events items)

-- the trace of a formed run tells its events
abbrev pub FormedLaw : Type 0
FormedLaw = (items : List Item) → IsFormed abort_port items → All IsPrintable items → TraceTells (run_trace items) (Lawful (told_events items))

-- those events linearize to the same history of one thread as all events of the run
abbrev pub ToldLaw : Type 0
ToldLaw = (items : List Item) → linearization (told_events items) ≡ linearization (events items)

-- so all events of a formed run linearize to a legal history
abbrev pub FormedLegalLaw : Type 0
FormedLegalLaw = (items : List Item) → IsFormed abort_port items → All IsPrintable items → IsLegal abort_port (linearization (events items))
