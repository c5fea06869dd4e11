use Rattle.std.proofs.Common.{sym, ◌∙◌}
use Rattle.std.proofs.lemmas.Bool.{eqb-true, eq-eqb, false≢true}
use Rattle.vx_history.proofs.Cutting.{ended-lines, cut-any}
use Rattle.vx_history.proofs.lines.is_whole.Goals as goal

pub returns-clause-whole : goal.returns-clause-whole
returns-clause-whole c = λ is. ended-lines c.args.text.now (eqb-true _ _ is)

pub returns-clause-cut : goal.returns-clause-cut
returns-clause-cut c = λ is. cut-any c.args.text.now (sym c.is_empty.ensures ∙ c.if-is_empty.false) (λ e. false≢true (sym is ∙ eq-eqb _ _ e))
