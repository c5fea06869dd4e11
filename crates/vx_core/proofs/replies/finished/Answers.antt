use Rattle.std.proofs.Common.{sym, ◌∙◌, subst, arith}
use Rattle.vx_ctrl.specs.Turns.{GetsBytes}
use Rattle.vx_core.proofs.Replying.{brings-few, read-whole, poll-whole, got-few}
use Rattle.vx_core.proofs.replies.finished.Goals as goal

pub returns-in-Read-clause-reply : goal.returns-in-Read-clause-reply
returns-in-Read-clause-reply c = λ w made left has whole holds.
    read-whole c.args.turn.now c.in-Read.t c.in-Read.max c.in-Read.stop (sym c.task.ensures ∙ c.in-Read.is) c.args.bytes.now c.args.wire.now c.args.is_big
    c.args.level made c.args.room.now c.reason.result c.moved.result (c.reason.ensures.made w c.args.bytes.now made left c.requires.plain has)
    c.moved.ensures.value holds

pub returns-in-Read-clause-len : goal.returns-in-Read-clause-len
returns-in-Read-clause-len c = λ w made left has.
    let gets : GetsBytes c.args.turn.now.task = subst GetsBytes (sym (sym c.task.ensures ∙ c.in-Read.is)) tt in
    omega (arith, c.moved.ensures.value, got-few c.args.turn.now.task c.args.bytes.now made left c.args.turn.now.place gets c.requires.plain has.reaches)

pub returns-in-Stb-clause-reply : goal.returns-in-Stb-clause-reply
returns-in-Stb-clause-reply c = λ w made left has whole holds.
    poll-whole c.args.turn.now c.in-Stb.t (sym c.task.ensures ∙ c.in-Stb.is) c.requires.plain c.args.bytes.now c.args.wire.now c.args.is_big c.args.level made
    left has.reaches whole c.args.room.now holds

pub put_bytes-requires : goal.put_bytes-requires
put_bytes-requires c =
    let few = brings-few c.args.turn.now.task (λ t len end e. c.in_default.not-Write t len end (c.task.ensures ∙ e)) in
    omega (arith, few, c.requires.short, c.requires.room)

pub returns-in_default-clause-len : goal.returns-in_default-clause-len
returns-in_default-clause-len c = λ w made left has.
    let few = brings-few c.args.turn.now.task (λ t len end e. c.in_default.not-Write t len end (c.task.ensures ∙ e)) in
    omega (arith, few, c.requires.short)
