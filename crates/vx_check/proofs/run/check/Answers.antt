use Rattle.std.proofs.Common.{map, string_bytes, sym, ◌∙◌, subst}
use Rattle.vx_check.specs.Telling.{IsFrontJudged}
use Rattle.vx_check.proofs.Judged.{whole-ended, front-ended, no-words}
use Rattle.vx_check.proofs.run.check.Goals as goal

pub returns-in-Whole : goal.returns-in-Whole
returns-in-Whole g c = record {
  outcome = whole-ended c.args.most (map string_bytes c.args.words.now) _ _ c.judge_whole.result _ (no-words string_bytes c.args.words.now (sym c.is_empty.ensures ∙ c.if-not-is_empty.false))
      c.in-Whole.ensures.read c.judge_whole.ensures c.tell.ensures;
}

pub returns-in-Longer : goal.returns-in-Longer
returns-in-Longer g c = record {
  outcome = front-ended c.args.most (map string_bytes c.args.words.now) _ _ c.judge_front.result _ (no-words string_bytes c.args.words.now (sym c.is_empty.ensures ∙ c.if-not-is_empty.false))
      c.in-Longer.ensures.read (subst (λ xs. IsFrontJudged c.args.most xs c.judge_front.result) c.deref.ensures.value c.judge_front.ensures) c.tell-in-Longer.ensures;
}
