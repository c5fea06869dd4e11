use Rattle.vx_flow.proofs.Laws.Ways.{refused_law-holds, waits_law-holds, no_role_law-holds, effect_law-holds, dial_law-holds, finished_law-holds, broken_law-holds, timeout_law-holds, held_law-holds, sliced_law-holds, begun_law-holds, begins_law-holds}
use Rattle.vx_flow.proofs.theorems.poll_ways.Goals as goal

pub returns-clause-refused : goal.returns-clause-refused
returns-clause-refused c = refused_law-holds

pub returns-clause-waits : goal.returns-clause-waits
returns-clause-waits c = waits_law-holds

pub returns-clause-no_role : goal.returns-clause-no_role
returns-clause-no_role c = no_role_law-holds

pub returns-clause-effect : goal.returns-clause-effect
returns-clause-effect c = effect_law-holds

pub returns-clause-dial : goal.returns-clause-dial
returns-clause-dial c = dial_law-holds

pub returns-clause-finished : goal.returns-clause-finished
returns-clause-finished c = finished_law-holds

pub returns-clause-broken : goal.returns-clause-broken
returns-clause-broken c = broken_law-holds

pub returns-clause-timeout : goal.returns-clause-timeout
returns-clause-timeout c = timeout_law-holds

pub returns-clause-held : goal.returns-clause-held
returns-clause-held c = held_law-holds

pub returns-clause-sliced : goal.returns-clause-sliced
returns-clause-sliced c = sliced_law-holds

pub returns-clause-begun : goal.returns-clause-begun
returns-clause-begun c = begun_law-holds

pub returns-clause-begins : goal.returns-clause-begins
returns-clause-begins c = begins_law-holds
