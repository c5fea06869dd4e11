use Rattle.std.proofs.Common.{ap, rules}
use Rattle.vx_calls.specs.Reply.{reply_shown}
use Rattle.vx_codec.proofs.Laws.Written.{answered-at}
use Rattle.vx_codec.proofs.results.put_results.Goals as goal

pub returns-in-Null-clause-again : goal.returns-in-Null-clause-again
returns-in-Null-clause-again c = answered-at c.args.reply.now _ (ap reply_shown c.in-Null.is) (search rules)

pub returns-in-CreateLink-clause-again : goal.returns-in-CreateLink-clause-again
returns-in-CreateLink-clause-again c = answered-at c.args.reply.now _ (ap reply_shown c.in-CreateLink.is) (search rules)

pub returns-in-Write-clause-again : goal.returns-in-Write-clause-again
returns-in-Write-clause-again c = answered-at c.args.reply.now _ (ap reply_shown c.in-Write.is) (search rules)

pub returns-in-Read-clause-again : goal.returns-in-Read-clause-again
returns-in-Read-clause-again c = answered-at c.args.reply.now _ (ap reply_shown c.in-Read.is) (search rules)

pub returns-in-Stb-clause-again : goal.returns-in-Stb-clause-again
returns-in-Stb-clause-again c = answered-at c.args.reply.now _ (ap reply_shown c.in-Stb.is) (search rules)

pub returns-in-Docmd-clause-again : goal.returns-in-Docmd-clause-again
returns-in-Docmd-clause-again c = answered-at c.args.reply.now _ (ap reply_shown c.in-Docmd.is) (search rules)

pub returns-in-Error-clause-again : goal.returns-in-Error-clause-again
returns-in-Error-clause-again c = answered-at c.args.reply.now _ (ap reply_shown c.in-Error.is) (search rules)
