use Rattle.vx_rules.proofs.Laws.Going.{own_taken, one_goes, none_left}
use Rattle.vx_rules.proofs.theorems.links_go.Goals as goal

pub returns-clause-taken : goal.returns-clause-taken
returns-clause-taken c = λ t lid conn n h. own_taken lid conn t.links n.rising h

pub returns-clause-one : goal.returns-clause-one
returns-clause-one c = λ t lid n h. one_goes lid t.links n.rising h

pub returns-clause-none : goal.returns-clause-none
returns-clause-none c = λ t conn h. none_left conn t.links h
