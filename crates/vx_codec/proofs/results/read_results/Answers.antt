use Rattle.std.proofs.Common.{◌≡◌, ℕ, List, Some, None, refl, sym, ap, ◌∙◌, arith}
use Rattle.vx_codec.specs.Row.{whole}
use Rattle.vx_codec.specs.Answered.{form_of, outcome_of, results_of, results_shown}
use Rattle.vx_codec.proofs.Laws.Rows.{row_whole, whole-more, whole-none, whole-takes}
use Rattle.vx_codec.proofs.results.read_results.Goals as goal

pub returns-in_err-found-clause-none : goal.returns-in_err-found-clause-none
returns-in_err-found-clause-none c =
    let row = results_of (form_of c.args.proc) in
    let view = outcome_of (form_of c.args.proc) in
    let none : row_whole row view c.args.results.now ≡ None = ap (row_whole row view) (sym c.new-r.ensures) ∙ ap whole c.in_err-found.ensures in
    rw c.from_residual.ensures (whole-none row view c.args.results.now none)

pub returns-then-at_end-clause-found : goal.returns-then-at_end-clause-found
returns-then-at_end-clause-found c =
    let row = results_of (form_of c.args.proc) in
    let view = outcome_of (form_of c.args.proc) in
    let x = results_shown c.in_ok-found.found in
    let at_end = c.if-at_end.ensures in
    let found : row_whole row view c.args.results.now ≡ Some x =
    ap (row_whole row view) (sym c.new-r.ensures) ∙ ap whole (c.in_ok-found.ensures ∙ ap (λ (rest : List ℕ). Some (x, rest)) (at_end.0 refl)) in
    whole-takes row view x c.args.results.now (λ i. omega (arith, c.type_inv.results i)) found

pub returns-else-at_end-clause-none : goal.returns-else-at_end-clause-none
returns-else-at_end-clause-none c =
    let row = results_of (form_of c.args.proc) in
    let view = outcome_of (form_of c.args.proc) in
    let x = results_shown c.in_ok-found.found in
    let at_end = c.if-at_end.ensures in
    let more = whole-more x c.outcome.new.r (λ e. let no = at_end.1 e in absurd cc) in
    let none : row_whole row view c.args.results.now ≡ None = ap (row_whole row view) (sym c.new-r.ensures) ∙ ap whole c.in_ok-found.ensures ∙ more in
    whole-none row view c.args.results.now none
