use Rattle.std.proofs.Common.{◌≡◌, ◌≤◌, ◌⊎◌, inl, inr, ap, ◌∙◌, arith, length, IsTrue}
use Rattle.vx_record.specs.Buffer.{BufState}
use Rattle.vx_record.specs.declared.Feed.TheVariants.{More}
use Rattle.vx_record.proofs.Laws.{fed-limit}
use Rattle.vx_record.proofs.Feeding.{fed-ends, taken-ends, taken-some}
use Rattle.vx_record.proofs.buffer.RecordBuf.feed.Goals as goal
use Rattle.vx_record.proofs.buffer.RecordBuf.feed.Goals.{then-loop-took-test+else-wants_more, else-loop-took-test}

-- the loop ends at the end of the piece, or at a record that takes no more
ends : (c : goal.After-result-1) → (length c.args.piece.now ≤ c.loop-took.took) ⊎ (c.loop-took.self.state ≡ More → ⊥)
ends c = elim c.loop-took-test.branch [
  | then-loop-took-test+else-wants_more w ↦ inr (λ e. let told : IsTrue w.wants_more.result = w.wants_more.ensures.1 e in let none = w.if-wants_more.false in cc)
  | else-loop-took-test w ↦ inl w.loop-took-test.false
]

pub returns-clause-after : goal.returns-clause-after
returns-clause-after c =
    fed-ends c.args.self.now c.loop-took.self c.args.piece.now c.loop-took.took c.loop-took.invariant.0 c.loop-took.invariant.1 (ends c)

pub returns-clause-took : goal.returns-clause-took
returns-clause-took c =
    taken-ends c.args.self.now c.loop-took.self c.args.piece.now c.loop-took.took c.loop-took.invariant.0 c.loop-took.invariant.2 (ends c)

pub returns-clause-limit : goal.returns-clause-limit
returns-clause-limit c =
    ap (λ (s : BufState). s.limit) (returns-clause-after c) ∙ fed-limit c.args.self.now c.args.piece.now

pub returns-clause-some : goal.returns-clause-some
returns-clause-some c = λ some.
    let all = returns-clause-took c in
    omega (arith, all, taken-some c.args.self.now c.args.piece.now c.requires some)
