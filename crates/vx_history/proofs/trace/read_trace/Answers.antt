use Rattle.std.proofs.Common.{◌≤◌, subst, ◌∙◌, rules}
use Rattle.vx_text.specs.Ends.{source_shown}
use Rattle.vx_text.proofs.Laws.Moved.{gave-all, gave-failed, gave-lost}
use Rattle.vx_history.proofs.trace.read_trace.Goals as goal

pub returns-in-End-clause-read : goal.returns-in-End-clause-read
returns-in-End-clause-read g c =
    let at_end = c.in-End.ensures.read in
    gave-all c.args.most _ (source_shown g.S.Source c.loop-piece.source) _
    c.loop-piece.bytes.items _ c.loop-piece.invariant.1 (subst (λ n. n ≤ c.args.most) (c.len.ensures ∙ c.loop-piece.bytes.ok.0) c.loop-piece-test.true) at_end.0 at_end.1 at_end.2

pub returns-in-Failed-clause-read : goal.returns-in-Failed-clause-read
returns-in-Failed-clause-read g c = gave-failed c.args.most _ _ _ _ c.loop-piece.invariant.1 c.in-Failed.ensures.read

pub returns-in-NoMemory-clause-read : goal.returns-in-NoMemory-clause-read
returns-in-NoMemory-clause-read g c = gave-lost c.args.most _ _ _ _ _ c.loop-piece.invariant.1
    (subst (λ n. n ≤ c.args.most) (c.len.ensures ∙ c.loop-piece.bytes.ok.0) c.loop-piece-test.true) (search rules) c.in-NoMemory.ensures.read
