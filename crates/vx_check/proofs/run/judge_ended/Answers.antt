use Rattle.std.proofs.Common.{subst, sym}
use Rattle.vx_history.specs.Shown.{whole_lines}
use Rattle.vx_check.specs.Telling.{IsJudged}
use Rattle.vx_check.proofs.Judged.{judged-by}
use Rattle.vx_check.proofs.run.judge_ended.Goals as goal

pub returns : goal.returns
returns c = λ bytes same.
    subst (IsJudged bytes) (sym c.verdict_of.ensures) (judged-by c.lawful_histories.ensures.whole bytes (whole_lines c.args.text.now) c.walk.result same c.walk.ensures)
