-- each row is computed
use Rattle.std.proofs.Common.{refl}
use Rattle.vx_test_low.proofs.event_lists_tests.arrivals.Goals as goal

pub returns : goal.returns
returns c = record {
  allowed = refl;
  none = refl;
  one = refl;
  two = refl;
  three = refl;
  moves = refl;
  answers = refl;
  again = refl;
  marked = refl;
  marks = refl;
  goes = refl;
  second_call = refl;
  earlier = refl;
}
