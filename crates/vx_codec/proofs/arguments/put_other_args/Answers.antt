use Rattle.std.proofs.Common.{ap, rules}
use Rattle.vx_calls.specs.Call.{call_shown}
use Rattle.vx_codec.proofs.Laws.Written.{again-at}
use Rattle.vx_codec.proofs.arguments.put_other_args.Goals as goal

pub returns-in-Lock-clause-again : goal.returns-in-Lock-clause-again
returns-in-Lock-clause-again c = again-at c.args.call.now _ (ap call_shown c.in-Lock.is) (search rules)

pub returns-in-Unlock-clause-again : goal.returns-in-Unlock-clause-again
returns-in-Unlock-clause-again c = again-at c.args.call.now _ (ap call_shown c.in-Unlock.is) (search rules)

pub returns-in-EnableSrq-clause-again : goal.returns-in-EnableSrq-clause-again
returns-in-EnableSrq-clause-again c = again-at c.args.call.now _ (ap call_shown c.in-EnableSrq.is) (search rules)

pub returns-in-Docmd-clause-again : goal.returns-in-Docmd-clause-again
returns-in-Docmd-clause-again c = again-at c.args.call.now _ (ap call_shown c.in-Docmd.is) (search rules)

pub returns-in-DestroyLink-clause-again : goal.returns-in-DestroyLink-clause-again
returns-in-DestroyLink-clause-again c = again-at c.args.call.now _ (ap call_shown c.in-DestroyLink.is) (search rules)

pub returns-in-CreateIntr-clause-again : goal.returns-in-CreateIntr-clause-again
returns-in-CreateIntr-clause-again c = again-at c.args.call.now _ (ap call_shown c.in-CreateIntr.is) (search rules)

pub returns-in-DestroyIntr-clause-again : goal.returns-in-DestroyIntr-clause-again
returns-in-DestroyIntr-clause-again c = again-at c.args.call.now _ (ap call_shown c.in-DestroyIntr.is) (search rules)

pub returns-in-DeviceAbort-clause-again : goal.returns-in-DeviceAbort-clause-again
returns-in-DeviceAbort-clause-again c = again-at c.args.call.now _ (ap call_shown c.in-DeviceAbort.is) (search rules)
