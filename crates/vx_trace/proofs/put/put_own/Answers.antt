use Rattle.std.proofs.Common.{ℕ, ◌++◌, ap, ◌∙◌, arith, codes, decimal}
use Rattle.vx_trace.specs.Writing.{overwritten}
use Rattle.vx_trace.proofs.Overwrites.{overwritten_twice}
use Rattle.vx_trace.proofs.put.put_own.Goals as goal

pub returns-clause-bytes : goal.returns-clause-bytes
returns-clause-bytes c =
    overwritten_twice _ _ _ _ _ _ _ c.put_number.ensures.bytes c.put-behind.ensures.bytes c.put-behind.ensures.end (omega arith)
    ∙ ap (λ (n : ℕ). overwritten c.args.out.now c.args.at (codes "own" ++ decimal n)) c.from.ensures
