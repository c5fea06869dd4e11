use Rattle.std.proofs.Common.{◌≤◌, ◌+◌, length}
use Rattle.vx_history.specs.Shown.{whole_lines}
use Rattle.vx_history.specs.Stepping.{checker_shown}
use Rattle.vx_history.specs.Walking.{AllWithin}
use Rattle.vx_history.proofs.Going.{UnderWay}
use Rattle.vx_history.proofs.lines.walk_in.Given as goal

abbrev pub invariant-loop-first : goal.invariant-loop-first
invariant-loop-first l = record {
  way : UnderWay l.text l.rest l.line (checker_shown l.checker);
  moves : AllWithin (length l.moves) (whole_lines l.rest);
  bytes : AllWithin (length l.bytes) (whole_lines l.rest);
  short : l.line + length l.rest ≤ length l.text;
}

abbrev pub decreases-loop-first : goal.decreases-loop-first
decreases-loop-first l = length l.rest
