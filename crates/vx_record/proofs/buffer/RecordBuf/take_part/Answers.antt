use Rattle.std.proofs.Common.{◌∙◌, take, refl, ap, arith}
use Rattle.vx_record.specs.Buffer.{BufState, body_bytes}
use Rattle.vx_record.proofs.Feeding.{fed-part, taken-part}
use Rattle.vx_record.proofs.buffer.RecordBuf.take_part.Goals as goal

-- the bytes that are left of the fragment are copied at once
pub returns-else-self-eq0-clause-after : goal.returns-else-self-eq0-clause-after
returns-else-self-eq0-clause-after c =
    let left = ap (λ (s : BufState). s.left) c.self.view_is in
    let part = take c.min-part.result c.args.piece.now in
    fed-part c.args.self.now c.take_body.new.self c.args.piece.now part c.min-part.result c.requires.more (omega (arith, left)) (omega (arith, left))
    (omega arith) refl (c.take_body.ensures ∙ ap (λ (s : BufState). body_bytes s part) c.count-else-self-eq0.ensures)

pub returns-else-self-eq0-clause-took : goal.returns-else-self-eq0-clause-took
returns-else-self-eq0-clause-took c =
    let left = ap (λ (s : BufState). s.left) c.self.view_is in
    let part = take c.min-part.result c.args.piece.now in
    taken-part c.args.self.now c.take_body.new.self c.args.piece.now part c.min-part.result c.requires.more (omega (arith, left)) (omega (arith, left))
    (omega arith) refl (c.take_body.ensures ∙ ap (λ (s : BufState). body_bytes s part) c.count-else-self-eq0.ensures)
