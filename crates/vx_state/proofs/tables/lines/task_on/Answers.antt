use Rattle.std.proofs.Common.{◌≤◌, [], length, subst, arith}
use Rattle.vx_calls.specs.declared.limits.TheConstants.{WRITE_MAX}
use Rattle.vx_rules.specs.Calls.{bytes_of}
use Rattle.vx_state.specs.Held.{kept_call}
use Rattle.vx_rules.specs.Input.{HasInput}
use Rattle.vx_state.proofs.tables.lines.task_on.Goals as goal

pub docmd_task-requires : goal.docmd_task-requires
docmd_task-requires c = record { takes = subst (λ k. HasInput (kept_call k c.args.text.now [])) c.in-Docmd.is (c.requires.takes []) }

pub overflow_cast-result : goal.overflow_cast-result
overflow_cast-result c =
    let few : length c.args.text.now ≤ WRITE_MAX = subst (λ k. length (bytes_of (kept_call k c.args.text.now [])) ≤ WRITE_MAX) c.in-Write.is (c.requires.short []) in
    omega (arith, few)
