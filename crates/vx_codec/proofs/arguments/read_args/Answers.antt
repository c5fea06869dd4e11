use Rattle.std.proofs.Common.{◌≡◌, ℕ, List, Some, None, refl, sym, ap, ◌∙◌, arith}
use Rattle.vx_calls.specs.Call.{call_shown}
use Rattle.vx_codec.specs.Row.{whole}
use Rattle.vx_codec.specs.Asked.{arguments_of, call_of}
use Rattle.vx_codec.proofs.Puttable.{Asks-puttable}
use Rattle.vx_codec.proofs.Laws.Rows.{row_whole, whole-more, whole-none, whole-takes}
use Rattle.vx_codec.proofs.Laws.Written.{length-arguments}
use Rattle.vx_codec.proofs.arguments.read_args.Goals as goal

pub returns-in_err-found-clause-none : goal.returns-in_err-found-clause-none
returns-in_err-found-clause-none c =
    let row = arguments_of c.args.proc in
    let view = call_of c.args.proc in
    let none : row_whole row view c.args.args.now ≡ None = ap (row_whole row view) (sym c.new-r.ensures) ∙ ap whole c.in_err-found.ensures in
    rw c.from_residual.ensures (whole-none row view c.args.args.now none)

pub returns-then-at_end-clause-found : goal.returns-then-at_end-clause-found
returns-then-at_end-clause-found c =
    let row = arguments_of c.args.proc in
    let view = call_of c.args.proc in
    let x = call_shown c.in_ok-found.found in
    let at_end = c.if-at_end.ensures in
    let found : row_whole row view c.args.args.now ≡ Some x =
    ap (row_whole row view) (sym c.new-r.ensures) ∙ ap whole (c.in_ok-found.ensures ∙ ap (λ (rest : List ℕ). Some (x, rest)) (at_end.0 refl)) in
    whole-takes row view x c.args.args.now (λ i. omega (arith, c.type_inv.args i)) found

pub returns-then-at_end-clause-len : goal.returns-then-at_end-clause-len
returns-then-at_end-clause-len c =
    length-arguments c.args.proc (call_shown c.in_ok-found.found) c.args.args.now (returns-then-at_end-clause-found c)

pub returns-else-at_end-clause-none : goal.returns-else-at_end-clause-none
returns-else-at_end-clause-none c =
    let row = arguments_of c.args.proc in
    let view = call_of c.args.proc in
    let x = call_shown c.in_ok-found.found in
    let at_end = c.if-at_end.ensures in
    let more = whole-more x c.call.new.r (λ e. let no = at_end.1 e in absurd cc) in
    let none : row_whole row view c.args.args.now ≡ None = ap (row_whole row view) (sym c.new-r.ensures) ∙ ap whole c.in_ok-found.ensures ∙ more in
    whole-none row view c.args.args.now none

pub returns-then-at_end-clause-puttable : goal.returns-then-at_end-clause-puttable
returns-then-at_end-clause-puttable c =
    Asks-puttable c.args.proc (call_shown c.in_ok-found.found) c.args.args.now (returns-then-at_end-clause-found c)
