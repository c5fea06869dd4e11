use Rattle.std.proofs.Common.{◌≤◌, length, refl, sym, ◌∙◌, subst}
use Rattle.std.proofs.lemmas.Bool.{ltb-true}
use Rattle.vx_calls.specs.declared.calls.CallRef.{CallRef}
use Rattle.vx_calls.specs.declared.limits.TheConstants.{RECORD_MAX}
use Rattle.vx_calls.specs.Call.{call_shown}
use Rattle.vx_rules.specs.Calls.{IsShort}
use Rattle.vx_desks.specs.Counts.{count_number}
use Rattle.vx_desks.proofs.Counted.{text-short}
use Rattle.vx_desks.proofs.routes.routing.route.Goals as goal

pub returns-then-serves-clause-routed : goal.returns-then-serves-clause-routed
returns-then-serves-clause-routed c waits short =
    let few : length c.in-CreateLink.device.now ≤ RECORD_MAX = subst (λ (k : CallRef). IsShort (call_shown k)) c.in-CreateLink.is short in (
      ltb-true c.text_there-bus.result.0 (count_number c.args.count) (sym c.serves.ensures ∙ c.if-serves.true),
      refl,
      text-short c.in-CreateLink.device.now c.text_there-bus.result.1.now c.text_there-bus.result.0 c.text_there-bus.ensures.text few,
    )
