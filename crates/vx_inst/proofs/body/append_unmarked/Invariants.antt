use Rattle.std.proofs.Common.{◌≡◌, ◌+◌, ◌++◌, take}
use Rattle.std.specs.Prelude.{map}
use Rattle.std.specs.VecDeque.{deque_len, deque_capacity}
use Rattle.vx_inst.specs.Marks.{shown}
use Rattle.vx_inst.specs.Reply.{unmarked}
use Rattle.vx_inst.proofs.body.append_unmarked.Given as goal

abbrev pub invariant-loop-b : goal.invariant-loop-b
invariant-loop-b l =
    (map shown l.out.items ≡ map shown l.initial.out.items ++ map unmarked (take l.b-index l.bytes))
    × (deque_len l.out ≡ deque_len l.initial.out + l.b-index)
    × (deque_capacity l.out ≡ deque_capacity l.initial.out)
