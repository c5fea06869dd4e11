use Rattle.std.proofs.Common.{◌++◌, decimal, arith, codes}
use Rattle.std.proofs.lemmas.List.{length-append}
use Rattle.vx_trace.specs.Numbered.{tail_text}
use Rattle.vx_trace.proofs.Overwrites.{overwritten_twice, overwritten-first}
use Rattle.vx_trace.proofs.put.put_parts.Goals as goal

pub returns-clause-bytes : goal.returns-clause-bytes
returns-clause-bytes c =
    let out = c.args.out.now in
    let a = c.args.front.now in
    let b = decimal c.args.number in
    let m = c.args.middle.now in
    let t = tail_text c.args.tail.now in
    let lb = length-append a b in
    let lm = length-append (a ++ b) m in
    let lt = length-append (a ++ b ++ m) t in
    let le = length-append (a ++ b ++ m ++ t) (codes "\n") in
    let two = overwritten_twice out _ _ 0 _ a b c.put_number-at.ensures.bytes c.put-at.ensures.bytes c.put-at.ensures.end (omega arith) in
    let three = overwritten_twice out _ _ 0 c.put_number-at.result (a ++ b) m c.put-at-2.ensures.bytes two (omega arith) (omega arith) in
    let four = overwritten_twice out _ _ 0 c.put-at-2.result (a ++ b ++ m) t c.put_tail-at.ensures.bytes three (omega arith) (omega arith) in
    let five = overwritten_twice out _ _ 0 c.put_tail-at.result (a ++ b ++ m ++ t) (codes "\n") c.put.ensures.bytes four (omega arith) (omega arith) in
    overwritten-first out _ _ _ five (omega arith)
