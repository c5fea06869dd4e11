use Rattle.std.proofs.Common.{sym, subst}
use Rattle.std.specs.Prelude.{IfOk}
use Rattle.vx_model.specs.declared.entry.EntryRef.{EntryRef}
use Rattle.vx_model.specs.EntryShown.{entry_shown}
use Rattle.vx_rules.specs.AtomicStep.{atomic_step}
use Rattle.vx_model.specs.Stepping.{ModelGoes}
use Rattle.vx_model.proofs.plain.Plain.go.Goals as goal

pub returns-in-Up-clause-ok : goal.returns-in-Up-clause-ok
returns-in-Up-clause-ok c =
    subst (λ (e : EntryRef). IfOk c.up.result (λ yes. ModelGoes (atomic_step c.args.self.now (entry_shown e)) c.args.self.now yes c.up.new.self)) (sym c.in-Up.is) c.up.ensures.ok

pub returns-in-Down-clause-ok : goal.returns-in-Down-clause-ok
returns-in-Down-clause-ok c =
    subst (λ (e : EntryRef). ModelGoes (atomic_step c.args.self.now (entry_shown e)) c.args.self.now c.down.result c.down.new.self) (sym c.in-Down.is) c.down.ensures

pub returns-in-Arrive-clause-ok : goal.returns-in-Arrive-clause-ok
returns-in-Arrive-clause-ok c =
    subst (λ (e : EntryRef). IfOk c.arrive.result (λ yes. ModelGoes (atomic_step c.args.self.now (entry_shown e)) c.args.self.now yes c.arrive.new.self)) (sym c.in-Arrive.is) c.arrive.ensures.ok

pub returns-in-Answer-clause-ok : goal.returns-in-Answer-clause-ok
returns-in-Answer-clause-ok c =
    subst (λ (e : EntryRef). IfOk c.answer.result (λ yes. ModelGoes (atomic_step c.args.self.now (entry_shown e)) c.args.self.now yes c.answer.new.self)) (sym c.in-Answer.is) c.answer.ensures.ok

pub returns-in-Abort-clause-ok : goal.returns-in-Abort-clause-ok
returns-in-Abort-clause-ok c =
    subst (λ (e : EntryRef). ModelGoes (atomic_step c.args.self.now (entry_shown e)) c.args.self.now c.abort.result c.abort.new.self) (sym c.in-Abort.is) c.abort.ensures

pub returns-in-Sample-clause-ok : goal.returns-in-Sample-clause-ok
returns-in-Sample-clause-ok c =
    subst (λ (e : EntryRef). ModelGoes (atomic_step c.args.self.now (entry_shown e)) c.args.self.now c.sample.result c.sample.new.self) (sym c.in-Sample.is) c.sample.ensures

pub returns-in-Take-clause-ok : goal.returns-in-Take-clause-ok
returns-in-Take-clause-ok c =
    subst (λ (e : EntryRef). ModelGoes (atomic_step c.args.self.now (entry_shown e)) c.args.self.now c.take.result c.take.new.self) (sym c.in-Take.is) c.take.ensures
