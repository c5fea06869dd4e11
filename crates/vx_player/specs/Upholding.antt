-- To be believed.
-- What holds of the events and the lines of a play.
use Rattle.std.specs.Prelude.{◌≡◌, List}
use Rattle.std.specs.List.{All, flat_map}
use Rattle.vx_script.specs.declared.Version.{Version}
use Rattle.vx_script.specs.declared.Version.TheVariants as version
use Rattle.vx_flow.specs.Claims.{Claims}
use Rattle.vx_player.specs.Gateway.{abort_port}
use Rattle.vx_run.specs.Item.{Item, outputs, events, moved, shown_moves}
use Rattle.vx_run.specs.RunText.{IsPrintable}
use Rattle.vx_run.specs.Forming.{IsFormed}

-- All claims hold of the events; the transfers that the lines of the bus show are those of the turns' moves, in order; and the run is
-- formed.
pub record Upholds (items : List Item) : Type 0 where
  pub claims : Claims abort_port (events items)
  pub shown : flat_map shown_moves (outputs items) ≡ flat_map moved (events items)
  pub formed : IsFormed abort_port items

-- each item of a play can be printed, where its script has version 2
abbrev pub ArePrintable : Version → List Item → Type 0
ArePrintable v items = v ≡ version.Two → All IsPrintable items
