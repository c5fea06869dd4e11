-- each row is computed
use Rattle.std.proofs.Common.{Bool, true, false, refl, sym, ap}
use Rattle.std.proofs.lemmas.Bool.{true≢false}
use Rattle.vx_rules.specs.Lines.{Admission, Waiting}
use Rattle.vx_test_low.specs.InLine.{turn_beside}
use Rattle.vx_test_low.proofs.event_lists_tests.in_line.Goals as goal

abbrev waits : Admission → Bool
waits (Waiting bar) = true
waits _ = false

pub returns-clause-first : goal.returns-clause-first
returns-clause-first c = record {
  second_locked = refl;
  third_locked = refl;
  third_behind = refl;
  third_still = refl;
  not_granted = refl;
  not_refused = refl;
  granted = refl;
  second_free = λ h. true≢false (sym (ap waits h));
  holds = refl;
  third_later = refl;
  third_late = refl;
  millisecond_early = refl;
  by_arrival = refl;
  by_number = refl;
  first_granted = refl;
}

pub returns-clause-count : goal.returns-clause-count
returns-clause-count c = record {
  timed_out = refl;
  not_refused = refl;
  no_longer = λ h. true≢false (sym (ap waits h));
  time_left = refl;
  millisecond_early = refl;
  late_granted = refl;
  aborted = refl;
  other_aborted = refl;
  gone = refl;
  other_gone = refl;
  bus_call = refl;
  no_wait = refl;
  no_time = refl;
  lock_no_wait = refl;
  unlock = refl;
  destroy = refl;
  other_link = refl;
  dead_link = refl;
  create_locked = refl;
  create_unlocked = refl;
  create_other = refl;
  create_secondary = refl;
  create_interface = refl;
  third_other = refl;
  third_interface = refl;
  create_own = refl;
  create_nowhere = refl;
  create_untold = refl;
}

pub returns-clause-keep_off : goal.returns-clause-keep_off
returns-clause-keep_off c = record {
  write_refused = refl;
  write_begins = refl;
  write_answered = refl;
  write_waits = refl;
  write_begins_late = refl;
  lock_refused = refl;
  lock_granted = refl;
  lock_waits = refl;
  create_waits = refl;
  create_refused = refl;
  create_granted = refl;
  create_free = refl;
  create_other = refl;
  other_lock = refl;
  other_begins = refl;
  secondary = refl;
  whole_bus = refl;
  whole_bus_lock = refl;
  destroy = refl;
  holder_locks = refl;
  holder_writes = refl;
}

pub returns-clause-turns : goal.returns-clause-turns
returns-clause-turns c = record {
  behind = refl;
  late = refl;
  aborted = refl;
  allowed = refl;
  for_turn = (refl, turn_beside, refl, refl, refl);
  not_in_line = λ h. true≢false (sym (ap waits h));
  not_refused = refl;
  third_writes = refl;
  third_locks = refl;
  third_refused = refl;
  third_begins = refl;
  third_locked = refl;
  goes = refl;
  stopped = refl;
  leaves_in_line = refl;
  leaves_locked = refl;
  marked_in_line = refl;
  marked_late = refl;
  marked_free = refl;
  late_goes = refl;
  late_goes_legal = refl;
  late_stopped = refl;
  late_stopped_legal = refl;
  beside_legal = refl;
}
