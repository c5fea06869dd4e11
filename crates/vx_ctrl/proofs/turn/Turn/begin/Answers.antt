use Rattle.std.proofs.Common.{ap, take}
use Rattle.vx_plan.specs.declared.tasks.Place.{Place}
use Rattle.vx_ctrl.proofs.turn.Turn.begin.Goals as goal

pub returns-clause-nothing : goal.returns-clause-nothing
returns-clause-nothing c = λ bytes has.
    let at = c.first_place.ensures c.args.task in
    let polling = ap (λ (p : Place). p.polling) at in
    let own = ap (λ (p : Place). p.own) at in
    record {
      polling = polling;
      own = own;
      reaches = record { sent = has; goes = cc; at = cc };
    }

pub returns-clause-holds : goal.returns-clause-holds
returns-clause-holds c = λ room. ap (λ (p : Place). take p.moved room) (c.first_place.ensures c.args.task)
