use Rattle.std.proofs.Common.{sym, ◌∙◌, subst, arith}
use Rattle.vx_ctrl.specs.Turns.{GetsBytes}
use Rattle.vx_core.proofs.Replying.{wrote, either-gets, has-got, got-few, moved-none}
use Rattle.vx_core.proofs.replies.moved_by.Goals as goal

pub returns-in-Write-clause-moved : goal.returns-in-Write-clause-moved
returns-in-Write-clause-moved c = λ w bytes made left room has holds.
    wrote c.args.turn.now.task c.in-Write.t c.in-Write.len c.in-Write.end (sym c.task.ensures ∙ c.in-Write.is) bytes made left c.args.turn.now.place
    c.requires.plain has.reaches c.moved.result (c.moved.ensures.made w bytes made left c.requires.plain has)

pub returns-in-Read-clause-moved : goal.returns-in-Read-clause-moved
returns-in-Read-clause-moved c = λ w bytes made left room has holds.
    let gets : GetsBytes c.args.turn.now.task = subst GetsBytes c.task.ensures (either-gets c.task.result c.in-Read.is) in
    has-got c.args.turn.now bytes made left gets c.requires.plain has.reaches c.moved-in-Read.result c.moved-in-Read.ensures.value room (holds gets)

pub returns-in-Read-clause-within : goal.returns-in-Read-clause-within
returns-in-Read-clause-within c = λ w bytes made left has.
    let gets : GetsBytes c.args.turn.now.task = subst GetsBytes c.task.ensures (either-gets c.task.result c.in-Read.is) in
    omega (arith, c.moved-in-Read.ensures.value, got-few c.args.turn.now.task bytes made left c.args.turn.now.place gets c.requires.plain has.reaches)

pub returns-in_default : goal.returns-in_default
returns-in_default c = record {
  moved = λ w bytes made left room has holds.
      moved-none c.args.turn.now.task (λ t len end e. c.in_default.not-Write t len end (c.task.ensures ∙ e))
      (λ t max stop e. c.in_default.not-Read t max stop (c.task.ensures ∙ e)) (λ t e. c.in_default.not-Stb t (c.task.ensures ∙ e))
      bytes made left c.args.turn.now.place c.requires.plain has.reaches;
  within = λ w bytes made left has. omega arith;
}
