use Rattle.std.proofs.Common.{◌≡◌, Err, codes, length, length-append, ap, arith, rules, refl, subst}
use Rattle.vx_history.specs.Stepping.{checker_shown}
use Rattle.vx_history.specs.Walking.{TakesText}
use Rattle.vx_history.proofs.Going.{begun, goes-on, stops-at, tail-within, through}
use Rattle.vx_history.proofs.lines.walk_in.Goals as goal

pub loop-first-init : goal.loop-first-init
loop-first-init c = record { way = begun c.args.text.now _ c.requires.begins; moves = c.requires.moves; bytes = c.requires.bytes; short = omega arith }

pub take_line-requires-clause-short : goal.take_line-requires-clause-short
take_line-requires-clause-short c =
    let cut = c.in-Some.ensures in
    let parts = cut.text_is in
    let short = c.loop-first.invariant.short in
    let few = c.requires.short in
    omega arith

pub loop-first-preserved : goal.loop-first-preserved
loop-first-preserved c =
    let cut = c.in-Some.ensures in
    let parts = cut.text_is in
    let low = c.loop-first.invariant.short in
    let end : length (codes "\n") ≡ 1 = refl in
    let ends = length-append cut.line (codes "\n") in
    let first = ap length cut.first_is in
    record {
      way = goes-on c.args.text.now _ cut.line _ _ _ _ c.loop-first.invariant.way cut.lines_are (c.in-Ok.ensures cut.line cut.first_is);
      moves = tail-within _ _ _ cut.line _ (search rules) cut.lines_are c.loop-first.invariant.moves;
      bytes = tail-within _ _ _ cut.line _ (search rules) cut.lines_are c.loop-first.invariant.bytes;
      short = omega (arith, parts, low, end, ends, first);
    }

pub returns-in-Err-Spoiled : goal.returns-in-Err-Spoiled
returns-in-Err-Spoiled c =
    let cut = c.in-Some.ensures in
    let s = checker_shown c.loop-first.checker in
    let now = checker_shown c.take_line.new.checker in
    rw c.in-Err-Spoiled.cause-is (stops-at c.args.text.now c.loop-first.rest.now cut.line c.in-Some.behind.now c.loop-first.line s now c.in-Err-Spoiled.cause c.loop-first.invariant.way cut.lines_are
    (subst (λ stop. TakesText s cut.line (Err stop) now) c.in-Err-Spoiled.field-0-is (c.in-Err-Spoiled.ensures cut.line cut.first_is)))

pub returns : goal.returns
returns c = through c.args.text.now _ _ _ _ c.loop-first.invariant.way c.in_default.ensures c.is_over.ensures
