-- each row is computed
use Rattle.std.proofs.Common.{refl}
use Rattle.vx_test_low.proofs.event_lists_tests.turns.Goals as goal

pub returns-clause-events : goal.returns-clause-events
returns-clause-events c = record {
  allowed = refl;
  one_move = refl;
  bus_at_first = refl;
  bus_now = refl;
  two_moves = refl;
  over = refl;
  bus_stays = refl;
  last_moment = refl;
  second_turn = refl;
  other_turn = refl;
  never_begun = refl;
  other_moves = refl;
  other_device = refl;
  put_again = refl;
  no_end = refl;
  end_unasked = refl;
  early = refl;
  too_few = refl;
  other_answer = refl;
  answer_next = refl;
  answered_twice = refl;
  begun_twice = refl;
  called_twice = refl;
  begun_before = refl;
  sampled_before = refl;
  answered_before = refl;
  new_address = refl;
  own_at_first = refl;
  own_before = refl;
  own_now = refl;
  own_unmoved = refl;
}

pub returns-clause-entries : goal.returns-clause-entries
returns-clause-entries c = record {
  whole = refl;
  between = refl;
  unbegun = refl;
  ended = refl;
  other_ended = refl;
}
