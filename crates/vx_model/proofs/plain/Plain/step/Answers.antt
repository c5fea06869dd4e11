use Rattle.vx_model.specs.EntryShown.{entry_shown}
use Rattle.vx_rules.specs.AtomicStep.{atomic_step}
use Rattle.vx_model.proofs.Answering.{yes_is, state_is}
use Rattle.vx_model.proofs.plain.Plain.step.Goals as goal

pub returns-clause-yes : goal.returns-clause-yes
returns-clause-yes c = yes_is c.go.result (atomic_step c.args.self.now (entry_shown c.args.entry.now)) c.args.self.now c.go.new.self c.go.ensures.ok

pub returns-clause-state : goal.returns-clause-state
returns-clause-state c = state_is c.go.result (atomic_step c.args.self.now (entry_shown c.args.entry.now)) c.args.self.now c.go.new.self c.go.ensures.ok
