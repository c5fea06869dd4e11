use Rattle.vx_history.proofs.Leading.{legal_so_far-law, lawful-law}
use Rattle.vx_history.proofs.theorems.lawful_histories.Goals as goal

pub returns-clause-so_far : goal.returns-clause-so_far
returns-clause-so_far c = legal_so_far-law

pub returns-clause-whole : goal.returns-clause-whole
returns-clause-whole c = lawful-law
