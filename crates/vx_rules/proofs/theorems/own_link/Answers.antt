use Rattle.vx_rules.proofs.Laws.Numbers.{find-own, filter-own}
use Rattle.vx_rules.proofs.theorems.own_link.Goals as goal

pub returns-clause-found : goal.returns-clause-found
returns-clause-found c = λ t lid conn n. find-own lid conn t.links n.rising

pub returns-clause-removed : goal.returns-clause-removed
returns-clause-removed c = λ t lid conn n h. filter-own lid conn t.links n.rising h
