use Rattle.vx_record.proofs.Laws.Spelling.{records-finished, records-open, records-refused}
use Rattle.vx_record.proofs.theorems.records_law.Goals as goal

pub returns-clause-whole : goal.returns-clause-whole
returns-clause-whole c = records-finished

pub returns-clause-long : goal.returns-clause-long
returns-clause-long c = records-refused

pub returns-clause-short : goal.returns-clause-short
returns-clause-short c = records-open
