use Rattle.std.proofs.Common.{◌≡◌, ◌≤◌, ◌++◌, map, length, take}
use Rattle.std.specs.VecDeque.{deque_capacity}
use Rattle.vx_rules.specs.declared.limits.TheConstants.{OUTBOX_MAX}
use Rattle.vx_srq.specs.Shown.{handle_shown}
use Rattle.vx_srq.proofs.Due.{due}
use Rattle.vx_srq.proofs.slots.queue.Given as goal

abbrev pub invariant-loop-enable : goal.invariant-loop-enable
invariant-loop-enable l = record {
  queued : map handle_shown l.outbox.items ≡ map handle_shown l.initial.outbox.items ++ due (take l.enable-index l.enables) l.conn;
  room : deque_capacity l.outbox ≡ deque_capacity l.initial.outbox;
  few : length l.outbox.items ≤ OUTBOX_MAX;
}
