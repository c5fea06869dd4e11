-- each row is computed
use Rattle.std.proofs.Common.{refl}
use Rattle.vx_test_low.proofs.event_lists_tests.ends.Goals as goal

pub returns-clause-gone : goal.returns-clause-gone
returns-clause-gone c = record {
  allowed = refl;
  gone = refl;
  bus_stays = refl;
  linearizes = refl;
  other_gone = refl;
  nobody_gone = refl;
  moves_on = refl;
  answers_still = refl;
}

pub returns-clause-aborted : goal.returns-clause-aborted
returns-clause-aborted c = record {
  allowed = refl;
  moves_on = refl;
  none_put = refl;
  unmarked = refl;
  other_link = refl;
  dead_link = refl;
  live_link = refl;
  on_core = refl;
}

pub returns-clause-stopped : goal.returns-clause-stopped
returns-clause-stopped c = record {
  allowed = refl;
  millisecond_early = refl;
  failed = refl;
  not_failed = refl;
  failed_late = refl;
  no_role = refl;
  begun = refl;
  with_failure = refl;
  in_role = refl;
  no_role_behind = refl;
  no_role_beside = refl;
}
