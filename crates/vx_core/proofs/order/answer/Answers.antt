use Rattle.vx_state.specs.declared.tables.lines.Admission.TheVariants as seen
use Rattle.std.proofs.Common.{sym, subst}
use Rattle.vx_flow.specs.declared.progress.Why.{Why}
use Rattle.vx_core.specs.declared.ended.Ended.TheVariants as ended
use Rattle.vx_core.specs.Leaving.{EndsFrom}
use Rattle.vx_core.proofs.Ordering.{lines-so, refused-ends, barred-ends}
use Rattle.vx_core.proofs.order.answer.Goals as goal

pub pass-requires-clause-passed : goal.pass-requires-clause-passed
pass-requires-clause-passed g c p at = lines-so g.B.Bus.means c.args.kernel.now c.args.conn c.lines.result seen.Passed p c.lines.ensures c.in-Passed.is at

pub returns-in-Refused : goal.returns-in-Refused
returns-in-Refused g c =
    refused-ends g.B.Bus.means g.B.Bus.through g.B.Bus.srq_level g.B.Bus.ndac_level c.args.kernel.now c.stop.new.self c.args.conn c.in-Refused.error c.stop.result
    c.requires.heard (λ p at. lines-so g.B.Bus.means c.args.kernel.now c.args.conn c.lines.result (seen.Refused c.in-Refused.error) p c.lines.ensures c.in-Refused.is at)
    c.stop.ensures.kept c.stop.ensures.reply c.stop.ensures.within

pub returns-in-Waiting : goal.returns-in-Waiting
returns-in-Waiting g c =
    let E : Why → Type 0 = λ w. EndsFrom g.B.Bus.means g.B.Bus.through g.B.Bus.srq_level g.B.Bus.ndac_level c.args.kernel.now c.args.conn (ended.Waited w) c.args.kernel.now in
    subst E (sym c.barred.ensures)
    (barred-ends g.B.Bus.means g.B.Bus.through g.B.Bus.srq_level g.B.Bus.ndac_level c.args.kernel.now c.args.conn c.in-Waiting.bar c.requires.heard
    (λ p at. lines-so g.B.Bus.means c.args.kernel.now c.args.conn c.lines.result (seen.Waiting c.in-Waiting.bar) p c.lines.ensures c.in-Waiting.is at))
