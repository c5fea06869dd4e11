use Rattle.std.proofs.Common.{subst}
use Rattle.vx_rules.specs.Sound.{IsSound}
use Rattle.vx_state.proofs.tables.Tables.sound_law.Goals as goal

pub returns : goal.returns
returns c = subst IsSound c.self.view_is c.self.invariant.sound
