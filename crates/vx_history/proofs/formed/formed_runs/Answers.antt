use Rattle.vx_history.specs.Formed.{FormedLaw}
use Rattle.vx_history.proofs.FormedRuns.{formed-tells, formed-legal, told-law}
use Rattle.vx_history.proofs.formed.formed_runs.Goals as goal

pub returns-clause-tells : goal.returns-clause-tells
returns-clause-tells c = formed-tells c.one_end2.ensures c.replies_are_read.ensures.read c.asked_is_spelled.ensures c.calls_are_spelled.ensures

pub returns-clause-told : goal.returns-clause-told
returns-clause-told c = told-law

pub returns-clause-legal : goal.returns-clause-legal
returns-clause-legal c =
    let tells : FormedLaw = formed-tells c.one_end2.ensures c.replies_are_read.ensures.read c.asked_is_spelled.ensures c.calls_are_spelled.ensures in
    formed-legal tells c.lawful_histories.ensures.whole
