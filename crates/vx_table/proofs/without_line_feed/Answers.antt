use Rattle.std.proofs.Common.{◌≡◌, ℕ, ◌==◌, false, [], ◌∷◌, ◌++◌, ap, sym, ◌∙◌, arith}
use Rattle.std.proofs.lemmas.Bool.Decides.{nat_tests}
use Rattle.vx_table.specs.Table.{without_line_feed}
use Rattle.vx_table.proofs.Feeds.{feed-left, other-kept}
use Rattle.vx_table.proofs.without_line_feed.Goals as goal

pub returns-then-last-eq10 : goal.returns-then-last-eq10
returns-then-last-eq10 c =
    let whole = c.in-Some.ensures.cases.0 in
    let feed : c.in-Some.last.now ≡ 10 = omega (arith, c.if-last-eq10.true) in
    sym (ap without_line_feed (whole ∙ ap (λ (b : ℕ). c.in-Some.front.now ++ b ∷ []) feed) ∙ feed-left c.in-Some.front.now)

pub returns-else-last-eq10 : goal.returns-else-last-eq10
returns-else-last-eq10 c =
    let whole = c.in-Some.ensures.cases.0 in
    let other : (c.in-Some.last.now == 10) ≡ false = let h = c.if-last-eq10.false in grind (arith, nat_tests, h) in
    whole ∙ sym (ap without_line_feed whole ∙ other-kept c.in-Some.front.now c.in-Some.last.now other)
