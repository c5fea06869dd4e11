-- The plays of a lifted script are those of the script that it was lifted from, event by event.
use Rattle.std.specs.Prelude.{◌≡◌, ◌≤◌, ℕ, List, length, Option}
use Rattle.vx_script.specs.declared.Version.TheVariants.{One}
use Rattle.vx_lift.specs.Lifted.{lifted}
use Rattle.vx_setup.specs.Rack.{SpareShown}
use Rattle.vx_flow.specs.Event.{Event}
use Rattle.vx_run.specs.Item.{Item, Fault, events}
use Rattle.vx_play.specs.declared.run.TheConstants.{SCRIPT_MAX}
use Rattle.vx_player.specs.Play.{IsPlay}
use Rattle.vx_play.specs.Ended.{version_in}

-- some play of a script with these spares makes these events
abbrev pub PlaysTo : List ℕ → List SpareShown → List Event → Type 0
PlaysTo script_text rack all = (items : List Item) × (fault : Option Fault) × IsPlay script_text rack items fault × (events items ≡ all)

-- Where a script has version 1 and what it is lifted to isn't too long: for each play of the script there is one of the lifted script,
-- with the same spares and equal events, and the other way round.
abbrev pub LiftLaw : Type 0
LiftLaw = (script_text : List ℕ) (rack : List SpareShown) → version_in script_text ≡ One → length (lifted script_text) ≤ SCRIPT_MAX
    → ((items : List Item) (fault : Option Fault) → IsPlay script_text rack items fault → PlaysTo (lifted script_text) rack (events items))
    × ((items : List Item) (fault : Option Fault) → IsPlay (lifted script_text) rack items fault → PlaysTo script_text rack (events items))
