-- each row is computed; where a poll may not wait, its cause is computed too, and is another
use Rattle.std.proofs.Common.{◌≡◌, Bool, true, false, is_some, refl, sym, ap, subst, arith}
use Rattle.std.proofs.lemmas.Bool.{true≢false}
use Rattle.vx_rules.specs.Calls.{has_passed}
use Rattle.vx_rules.specs.Lines.{Admission, Waiting}
use Rattle.vx_flow.specs.InterleavedState.{begun_of}
use Rattle.vx_test_low.specs.Lists.{puts}
use Rattle.vx_test_low.specs.Turns.{turn_with}
use Rattle.vx_test_low.proofs.event_lists_tests.polls.Goals as goal

pub returns-clause-events : goal.returns-clause-events
returns-clause-events c = record {
  begins = refl;
  begins_held = refl;
  goes_on = refl;
  in_turn = refl;
  under_lock = refl;
}

abbrev waits_for_link : Admission → Bool
waits_for_link (Waiting link) = true
waits_for_link _ = false

pub returns-clause-waits : goal.returns-clause-waits
returns-clause-waits c = record {
  in_turn = (refl, turn_with (puts 5 65 false), refl, refl, refl);
  turn_over = λ h. true≢false (ap is_some (sym h.2));
  bus_held = (refl, record { connection = 1; begun = 25; moves = puts 5 65 false }, refl, refl);
  time_passed = λ h. true≢false (subst (λ b. has_passed 100 b 125 ≡ false) (sym (ap begun_of h.2)) h.3);
  locked = refl;
  deadline = λ h. true≢false (sym (ap waits_for_link h));
  slice_in_time = (refl, record { connection = 1; begun = 25; moves = puts 5 65 false }, refl);
  slice_late = (refl, record { connection = 1; begun = 25; moves = puts 5 65 false }, refl);
  slice_later = (refl, record { connection = 1; begun = 25; moves = puts 5 65 false }, refl);
  slice_answered = λ h. true≢false h;
  held_answered = refl;
  slice_of_other = λ h. true≢false (ap is_some (sym h.2));
  slice_behind = λ h. true≢false (ap is_some (sym h.2));
  slice_unbegun = λ h. true≢false (ap is_some (sym h.2));
  slice_locked = λ h. true≢false (ap waits_for_link h.0);
}

pub returns-clause-slices : goal.returns-clause-slices
returns-clause-slices c = record {
  full = refl;
  not_full = λ h. omega (arith, h);
  too_full = λ h. omega (arith, h);
  held = omega arith;
  held_behind = λ h. omega (arith, h);
  failed = omega arith;
  failed_behind = λ h. omega (arith, h);
  whole = omega arith;
  whole_early = omega arith;
  whole_behind = λ h. omega (arith, h);
}
