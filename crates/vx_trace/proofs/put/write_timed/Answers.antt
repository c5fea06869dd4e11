use Rattle.std.proofs.Common.{◌≡◌, ℕ, ◌+◌, ◌≤◌, List, ◌++◌, length, ap, ◌∙◌, arith, codes, decimal}
use Rattle.std.proofs.lemmas.List.{length-append}
use Rattle.vx_trace.specs.Output.{line_shown}
use Rattle.vx_trace.specs.Text.{line_text}
use Rattle.vx_trace.specs.Writing.{overwritten}
use Rattle.vx_trace.proofs.Overwrites.{overwritten_twice, overwritten-front, overwritten-first}
use Rattle.vx_trace.proofs.put.write_timed.Goals as goal

pub returns-clause-puts : goal.returns-clause-puts
returns-clause-puts c =
    let out = c.args.out.now in
    let front = decimal c.args.moment ++ codes " " in
    let text = line_text (line_shown c.args.line.now) in
    let puts = c.in_ok-len.ensures.puts in
    let digits = c.number_len-front.ensures.value in
    let place : c.number_len-front.result + 1 ≡ length front = omega (arith, length-append (decimal c.args.moment) (codes " "), digits) in
    let both = length-append front text in
    let moment = overwritten_twice c.write_behind.new.out _ _ 0 _ (decimal c.args.moment) (codes " ") c.put.ensures.bytes c.put_number-at.ensures.bytes c.put_number-at.ensures.end (omega arith) in
    let behind : overwritten c.write_behind.new.out 0 front ≡ overwritten (overwritten out (length front) text) 0 front =
    ap (λ (m : List ℕ). overwritten m 0 front) (puts.0 ∙ ap (λ (k : ℕ). overwritten out k text) place) in
    let within : length front ≤ length out = omega (arith, puts.2) in (
      overwritten-first out _ (front ++ text) _ (moment ∙ behind ∙ overwritten-front out front text within) (omega (arith, puts.1)),
      omega (arith, puts.2),
    )
