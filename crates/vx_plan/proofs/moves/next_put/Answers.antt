use Rattle.std.proofs.Common.{◌+◌, ◌<◌, ◌≤◌, length, Some, sym, ap, ◌∙◌, arith}
use Rattle.std.specs.Prelude.{◌&&◌, ◌==◌, slice_index}
use Rattle.std.specs.Option.{option_map}
use Rattle.std.proofs.lemmas.Option.{slice_get_past}
use Rattle.vx_488.specs.declared.transfers.Transfer.TheVariants.{Put}
use Rattle.vx_plan.specs.Plan.{This}
use Rattle.vx_plan.specs.Tasks.{puts}
use Rattle.vx_plan.proofs.Laws.Counts.{length-puts}
use Rattle.vx_plan.proofs.Nexts.{puts-at}
use Rattle.vx_plan.proofs.moves.next_put.Goals as goal

pub returns-then-end : goal.returns-then-end
returns-then-end c = λ bytes e.
    let inside : c.args.moved < length bytes = omega arith in
    let byte = slice_index bytes c.args.moved in
    sym
    (ap (option_map This)
    (puts-at c.args.end bytes c.args.moved inside
    ∙ ap (λ x. Some (Put byte (x && (c.args.moved + 1 == length bytes)))) c.if-end.true
    ∙ ap (λ n. Some (Put byte (c.args.moved + 1 == n))) e))

pub returns-else-end : goal.returns-else-end
returns-else-end c = λ bytes e.
    let inside : c.args.moved < length bytes = omega arith in
    let byte = slice_index bytes c.args.moved in
    sym
    (ap (option_map This)
    (puts-at c.args.end bytes c.args.moved inside
    ∙ ap (λ x. Some (Put byte (x && (c.args.moved + 1 == length bytes)))) c.if-end.false
    ∙ ap (λ x. Some (Put byte x)) (sym c.if-end.false)))

pub returns-else-moved-len : goal.returns-else-moved-len
returns-else-moved-len c = λ bytes e.
    let past : length (puts c.args.end bytes) ≤ c.args.moved = omega (arith, length-puts c.args.end bytes) in
    sym (ap (option_map This) (slice_get_past (puts c.args.end bytes) c.args.moved past))
