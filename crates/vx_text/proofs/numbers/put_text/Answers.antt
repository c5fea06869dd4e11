use Rattle.std.proofs.Common.{◌+◌, ◌-◌, ◌++◌, ℕ, length, take, ap, ◌∙◌, arith}
use Rattle.std.proofs.lemmas.Slice.{take-put_mid, drop-put_mid}
use Rattle.vx_text.proofs.numbers.put_text.Goals as goal

pub returns-clause-text : goal.returns-clause-text
returns-clause-text c =
    let at = c.args.at in
    let text = c.args.text.now in
    let written = c.copy_from_slice.new.self in
    let len = ap (length {A = ℕ}) c.copy_from_slice.ensures.after in
    take-put_mid at (at + length text - at) c.args.out.now written (at + length text) (omega (arith, len)) (omega (arith, c.requires))
    ∙ ap (λ xs. take at c.args.out.now ++ xs) c.copy_from_slice.ensures.after

pub returns-clause-rest : goal.returns-clause-rest
returns-clause-rest c =
    let at = c.args.at in
    let text = c.args.text.now in
    let written = c.copy_from_slice.new.self in
    let len = ap (length {A = ℕ}) c.copy_from_slice.ensures.after in
    drop-put_mid at (at + length text - at) c.args.out.now written (at + length text) (omega (arith, len)) (omega (arith, c.requires)) (omega (arith, len))
