use Rattle.std.proofs.Common.{ap, rules}
use Rattle.vx_calls.specs.Call.{call_shown}
use Rattle.vx_codec.proofs.Laws.Written.{again-at}
use Rattle.vx_codec.proofs.arguments.put_args.Goals as goal

pub returns-in-Null-clause-again : goal.returns-in-Null-clause-again
returns-in-Null-clause-again c = again-at c.args.call.now _ (ap call_shown c.in-Null.is) (search rules)

pub returns-in-CreateLink-clause-again : goal.returns-in-CreateLink-clause-again
returns-in-CreateLink-clause-again c = again-at c.args.call.now _ (ap call_shown c.in-CreateLink.is) (search rules)

pub returns-in-Write-clause-again : goal.returns-in-Write-clause-again
returns-in-Write-clause-again c = again-at c.args.call.now _ (ap call_shown c.in-Write.is) (search rules)

pub returns-in-Read-clause-again : goal.returns-in-Read-clause-again
returns-in-Read-clause-again c = again-at c.args.call.now _ (ap call_shown c.in-Read.is) (search rules)

pub returns-in-ReadStb-clause-again : goal.returns-in-ReadStb-clause-again
returns-in-ReadStb-clause-again c = again-at c.args.call.now _ (ap call_shown c.in-ReadStb.is) c.put_generic.ensures.fits

pub returns-in-Trigger-clause-again : goal.returns-in-Trigger-clause-again
returns-in-Trigger-clause-again c = again-at c.args.call.now _ (ap call_shown c.in-Trigger.is) c.put_generic-in-Trigger.ensures.fits

pub returns-in-Clear-clause-again : goal.returns-in-Clear-clause-again
returns-in-Clear-clause-again c = again-at c.args.call.now _ (ap call_shown c.in-Clear.is) c.put_generic-in-Clear.ensures.fits

pub returns-in-Remote-clause-again : goal.returns-in-Remote-clause-again
returns-in-Remote-clause-again c = again-at c.args.call.now _ (ap call_shown c.in-Remote.is) c.put_generic-in-Remote.ensures.fits

pub returns-in-Local-clause-again : goal.returns-in-Local-clause-again
returns-in-Local-clause-again c = again-at c.args.call.now _ (ap call_shown c.in-Local.is) c.put_generic-in-Local.ensures.fits
