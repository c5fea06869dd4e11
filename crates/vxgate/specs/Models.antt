-- How an instrument of any model behaves, and what it is.
use Rattle.std.specs.Prelude.{ℕ, List, [], ◌∷◌, ◌++◌, codes}
use Rattle.vx_inst.specs.Behavior.{Behavior}
use Rattle.vx_rack.specs.Echoes.{echo_behavior}
use Rattle.vx_rack.specs.Meters.{meter_behavior}
use Rattle.vx_rack.specs.Slows.{slow_behavior}
use Rattle.vx_rack.specs.Askers.{asker_behavior}
use Rattle.vxgate.specs.declared.models.AnyModel.{AnyModel}
use Rattle.vxgate.specs.declared.models.AnyModel.TheVariants as model

-- as its model does
abbrev pub behavior_of : AnyModel → Behavior
behavior_of (model.Echo i) = echo_behavior i
behavior_of (model.Meter i) = meter_behavior i
behavior_of (model.Slow i) = slow_behavior i
behavior_of (model.Asker i) = asker_behavior i

-- its model, with what that keeps inside
abbrev pub nature_of : AnyModel → List ℕ
nature_of (model.Echo i) = codes "echo"
nature_of (model.Meter i) = codes "meter" ++ i.count ∷ []
nature_of (model.Slow i) = codes "slow" ++ i.told ∷ []
nature_of (model.Asker i) = codes "asker"
