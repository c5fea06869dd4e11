use Rattle.std.proofs.Common.{sym, ap, subst}
use Rattle.vx_gate.specs.History.{groups, Lawful}
use Rattle.vx_gate.specs.PassView.{PassView}
use Rattle.vx_gate.proofs.Outcomes.{closed}
use Rattle.vx_gate.proofs.gates.Gate.close.Goals as goal

pub returns-clause-stands : goal.returns-clause-stands
returns-clause-stands g c =
    subst (λ l. g.K.Kept.stands c.args.self.table.shared.key.value c.take-value.result (groups l)) (sym (ap (λ (p : PassView g.row.K-Group.Denot). p.seen) c.of.ensures))
    (closed (g.K.Kept.stands c.args.self.table.shared.key.value) g.K.Kept.may_add c.into_seat-place.result c.leave-last.new.place c.leave-last.result _ _ _ _ c.into_seat-place.ensures.shown c.requires.parts c.leave-last.ensures.same.1 c.leave-last.ensures.fresh.1 c.close_with-closed.ensures.values.2 c.take-value.ensures.value).0

pub returns-clause-lawful : goal.returns-clause-lawful
returns-clause-lawful g c =
    subst (Lawful g.K.Kept.may_add) (sym (ap (λ (p : PassView g.row.K-Group.Denot). p.seen) c.of.ensures))
    (closed (g.K.Kept.stands c.args.self.table.shared.key.value) g.K.Kept.may_add c.into_seat-place.result c.leave-last.new.place c.leave-last.result _ _ _ _ c.into_seat-place.ensures.shown c.requires.parts c.leave-last.ensures.same.1 c.leave-last.ensures.fresh.1 c.close_with-closed.ensures.values.2 c.take-value.ensures.value).1
