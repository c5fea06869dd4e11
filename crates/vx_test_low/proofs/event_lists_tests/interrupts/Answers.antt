-- each row is computed
use Rattle.std.proofs.Common.{refl}
use Rattle.vx_test_low.proofs.event_lists_tests.interrupts.Goals as goal

pub returns-clause-dials : goal.returns-clause-dials
returns-clause-dials c = record {
  allowed = refl;
  asked = refl;
  told = refl;
  channel = refl;
  never_dialed = refl;
  untold = refl;
  failed = refl;
  failed_well = refl;
  before = refl;
  other_call = refl;
  other_family = refl;
  again = refl;
  only_first = refl;
}

pub returns-clause-rises : goal.returns-clause-rises
returns-clause-rises c = record {
  allowed = refl;
  channel = refl;
  xid_0 = refl;
  same_xid = refl;
  taken_twice = refl;
  steady = refl;
  no_rise = refl;
  disabled = refl;
  other_channel = refl;
  not_empty = refl;
  both_links = refl;
  in_order = refl;
  later_first = refl;
  one_twice = refl;
}
