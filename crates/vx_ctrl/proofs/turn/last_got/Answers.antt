use Rattle.std.proofs.Common.{Bool, true, false, sym, ap, ◌∙◌}
use Rattle.vx_488.specs.Bursts.{ended, is_end}
use Rattle.vx_488.specs.declared.transfers.Transfer.TheVariants.{Got}
use Rattle.vx_plan.specs.Results.{gots, last_of}
use Rattle.vx_ctrl.proofs.Bursts.{last-value, not-end}
use Rattle.vx_ctrl.proofs.turn.last_got.Goals as goal

pub returns-in-End : goal.returns-in-End
returns-in-End c =
    sym (ap (λ (e : Bool). last_of c.args.before (gots (ended Got e c.args.bytes.now))) (ap is_end c.in-End.is)
    ∙ last-value c.args.before true c.args.bytes.now c.in-Some.b.now (sym c.in-Some.ensures.value))

pub returns-in_default : goal.returns-in_default
returns-in_default c =
    sym (ap (λ (e : Bool). last_of c.args.before (gots (ended Got e c.args.bytes.now))) (not-end c.args.stop c.in_default.not-End)
    ∙ last-value c.args.before false c.args.bytes.now c.in-Some.b.now (sym c.in-Some.ensures.value))
