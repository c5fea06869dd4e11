-- each row is computed
use Rattle.std.proofs.Common.{refl}
use Rattle.vx_test_low.proofs.event_lists_tests.locks.Goals as goal

pub returns-clause-beside : goal.returns-clause-beside
returns-clause-beside c = record {
  other_device = refl;
  other_create = refl;
  same_device = refl;
  same_create = refl;
  secondary = refl;
  whole_bus = refl;
  no_lock = refl;
  unlock = refl;
  destroy = refl;
  other_write = refl;
}

pub returns-clause-wait : goal.returns-clause-wait
returns-clause-wait c = record {
  allowed = refl;
  granted = refl;
  in_turn = refl;
}

pub returns-clause-keep_off : goal.returns-clause-keep_off
returns-clause-keep_off c = record {
  allowed = refl;
  millisecond_early = refl;
  no_wait = refl;
  begun = refl;
  begun_freely = refl;
  other_lock = refl;
}
