use Rattle.std.proofs.Common.{◌||◌, ◌&&◌, sym, ap, ◌∙◌}
use Rattle.vx_rules.specs.Checks.{named_link}
use Rattle.vx_rules.specs.Lines.{lets_pass}
use Rattle.vx_rules.specs.Effects.{task_of}
use Rattle.vx_rules.specs.Decide.{is_part_of}
use Rattle.vx_model.proofs.Answering.{part_open}
use Rattle.vx_model.proofs.plain.Plain.may_have_made.Goals as goal

pub returns-else-has_none-clause-fits : goal.returns-else-has_none-clause-fits
returns-else-has_none-clause-fits c = λ p here.
    let s = c.args.self.now in
    let lets = lets_pass s.tables s.wire.own c.args.conn p in
    let job = task_of (named_link s.tables c.args.conn p.call) p.call in
    c.is_part.ensures.fits p here ∙ part_open s.wire p.call c.args.moves.now lets job
    ∙ ap (λ b. b || (lets && is_part_of s.wire p.call c.args.moves.now job)) (sym (sym c.has_none.ensures.fits ∙ c.if-has_none.false))
