use Rattle.std.proofs.Common.{◌≡◌, ◌≤◌, Option, None, Some, refl, subst}
use Rattle.vx_488.specs.declared.transfers.TheConstants.{ADDRESS_MAX}
use Rattle.vx_488.specs.Means.{Means}
use Rattle.vx_core.specs.declared.running.Running.{Running}
use Rattle.vx_core.specs.KernelState.{KernelState}
use Rattle.vx_core.specs.CoreState.{CoreState}
use Rattle.vx_core.specs.Shown.{core_of, before_shown, interleaved_of}
use Rattle.vx_core.specs.Keeping.{Holds, RunsTurn}
use Rattle.vx_core.proofs.shared.Core.sound_law.Goals as goal

-- the own address is at most 30 as the turn under way began, and where there is none as it is now
small-own : {B : Type 0} (means : B → Means) (k : KernelState B) → Holds means k → (interleaved_of means k).before.own ≤ ADDRESS_MAX
small-own {B} means k holds = by k.running holds.runs where
  by : (o : Option Running) → ((r : Running) → o ≡ Some r → RunsTurn means k r) → (before_shown o k.before (means k.bus).wire).own ≤ ADDRESS_MAX
  by None runs = holds.own
  by (Some r) runs = (runs r refl).own

shown-own : {B : Type 0} (means : B → Means) (k : KernelState B) (now : CoreState B) → core_of means k ≡ now → Holds means k → now.interleaved.before.own ≤ ADDRESS_MAX
shown-own {B} means k now view holds = subst (λ (s : CoreState B). s.interleaved.before.own ≤ ADDRESS_MAX) view (small-own means k holds)

pub returns-clause-own : goal.returns-clause-own
returns-clause-own g c = shown-own g.B.Bus.means c.self.inside.kernel c.args.self.now c.self.view_is c.self.invariant.holds
