use Rattle.vx_history.proofs.Telling.{one-history, one-front}
use Rattle.vx_history.proofs.theorems.one_history.Goals as goal

pub returns-clause-whole : goal.returns-clause-whole
returns-clause-whole c = one-history c.one_text2.ensures

pub returns-clause-front : goal.returns-clause-front
returns-clause-front c = one-front c.one_text2.ensures
