use Rattle.std.proofs.Common.{ℕ, ◌≡◌, ◌≢◌, ◌-◌, length, sym, subst, ap, ◌∙◌, arith}
use Rattle.vx_plan.specs.declared.tasks.Task.{Task}
use Rattle.vx_plan.specs.Places.{IsReached}
use Rattle.vx_plan.specs.Runs.{IsDataLeft}
use Rattle.vx_ctrl.specs.Turns.{TurnState, TurnHasRoom}
use Rattle.vx_ctrl.proofs.Runs.{write-left, read-left, runs-within}
use Rattle.vx_ctrl.proofs.turn.Turn.advance.Goals as goal

pub data_left-requires-clause-reached : goal.data_left-requires-clause-reached
data_left-requires-clause-reached g c =
    let r = c.requires.reached in
    let P : TurnState → Type 0 = λ turn. IsReached turn.task turn.place in
    subst P (sym c.self.view_is) (c.args.bytes.now, r.0, r.1, r.2)

pub put_run-requires-clause-left : goal.put_run-requires-clause-left
put_run-requires-clause-left g c =
    let r = c.requires.reached in
    let turn = c.args.self.now in
    let n = c.data_left.result in
    let D : TurnState → Type 0 = λ turn. IsDataLeft turn.task turn.place n in
    let d = subst D c.self.view_is c.data_left.ensures in
    let some : n ≢ 0 = λ none. c.if-many-eq0.false (omega (arith, none, c.min-many.ensures)) in
    let is = ap (λ (t : TurnState). t.task) (sym c.self.view_is) ∙ c.in-Write.is in
    let whole = write-left turn c.args.bytes.now n c.in-Write.t c.in-Write.len c.in-Write.end r.0 r.1 is d r.2 some in
    let N : ℕ → Type 0 = λ n. IsDataLeft turn.task turn.place n in
    let same : n ≡ length c.args.bytes.now - turn.place.moved = omega (arith, whole) in
    subst N same d

pub put_run-requires-clause-within : goal.put_run-requires-clause-within
put_run-requires-clause-within g c =
    let r = c.requires.reached in
    let turn = c.args.self.now in
    let n = c.data_left.result in
    let D : TurnState → Type 0 = λ turn. IsDataLeft turn.task turn.place n in
    let d = subst D c.self.view_is c.data_left.ensures in
    let some : n ≢ 0 = λ none. c.if-many-eq0.false (omega (arith, none, c.min-many.ensures)) in
    let is = ap (λ (t : TurnState). t.task) (sym c.self.view_is) ∙ c.in-Write.is in
    let whole = write-left turn c.args.bytes.now n c.in-Write.t c.in-Write.len c.in-Write.end r.0 r.1 is d r.2 some in
    omega (arith, whole, c.min-many.ensures)

pub put_run-requires-clause-asks : goal.put_run-requires-clause-asks
put_run-requires-clause-asks g c = omega (arith, c.min-many.ensures, c.requires.asks)

pub get_run-requires-clause-left : goal.get_run-requires-clause-left
get_run-requires-clause-left g c =
    let r = c.requires.reached in
    let turn = c.args.self.now in
    let n = c.data_left.result in
    let D : TurnState → Type 0 = λ turn. IsDataLeft turn.task turn.place n in
    let d = subst D c.self.view_is c.data_left.ensures in
    let some : n ≢ 0 = λ none. c.if-many-eq0.false (omega (arith, none, c.min-many.ensures)) in
    (n, d, omega (arith, c.min-many.ensures))

pub get_run-requires-clause-short : goal.get_run-requires-clause-short
get_run-requires-clause-short g c =
    let r = c.requires.reached in
    let turn = c.args.self.now in
    let n = c.data_left.result in
    let D : TurnState → Type 0 = λ turn. IsDataLeft turn.task turn.place n in
    let d = subst D c.self.view_is c.data_left.ensures in
    let some : n ≢ 0 = λ none. c.if-many-eq0.false (omega (arith, none, c.min-many.ensures)) in
    let is = ap (λ (t : TurnState). t.task) (sym c.self.view_is) ∙ c.in-Read.is in
    let whole = read-left turn c.args.bytes.now n c.in-Read.t c.in-Read.max c.in-Read.stop r.0 r.1 is d r.2 some in
    omega (arith, whole, c.min-many.ensures)

pub get_run-requires-clause-room : goal.get_run-requires-clause-room
get_run-requires-clause-room g c =
    let r = c.requires.reached in
    let turn = c.args.self.now in
    let n = c.data_left.result in
    let D : TurnState → Type 0 = λ turn. IsDataLeft turn.task turn.place n in
    let d = subst D c.self.view_is c.data_left.ensures in
    let some : n ≢ 0 = λ none. c.if-many-eq0.false (omega (arith, none, c.min-many.ensures)) in
    let is = ap (λ (t : TurnState). t.task) (sym c.self.view_is) ∙ c.in-Read.is in
    let whole = read-left turn c.args.bytes.now n c.in-Read.t c.in-Read.max c.in-Read.stop r.0 r.1 is d r.2 some in
    let R : Task → Type 0 = λ task. TurnHasRoom task (length c.args.room.now) in
    omega (arith, whole, c.min-many.ensures, subst R is c.requires.room)

pub get_run-requires-clause-asks : goal.get_run-requires-clause-asks
get_run-requires-clause-asks g c = omega (arith, c.min-many.ensures, c.requires.asks)

pub returns-then-many-eq0 : goal.returns-then-many-eq0
returns-then-many-eq0 g c =
    runs-within g.B.Bus.means g.B.Bus.through _ _ _ _ _ _ _ _ _ _ (omega (arith, c.requires.some)) c.single.ensures

pub returns-in-Write : goal.returns-in-Write
returns-in-Write g c =
    runs-within g.B.Bus.means g.B.Bus.through _ _ _ _ _ _ _ _ _ _ (omega (arith, c.min-many.ensures)) (c.put_run.ensures _)

pub returns-in-Read : goal.returns-in-Read
returns-in-Read g c =
    runs-within g.B.Bus.means g.B.Bus.through _ _ _ _ _ _ _ _ _ _ (omega (arith, c.min-many.ensures)) (c.get_run.ensures _)

pub returns-in_default : goal.returns-in_default
returns-in_default g c =
    runs-within g.B.Bus.means g.B.Bus.through _ _ _ _ _ _ _ _ _ _ (omega (arith, c.requires.some)) c.single-in_default.ensures
