use Rattle.std.proofs.Common.{◌∙◌, arith}
use Rattle.vx_test_core.proofs.buses_crossed_tests.serve_aborter.Goals as goal

pub returns : goal.returns
returns g c =
    let did = c.many_abort-passes.ensures.did in
    let of = c.join_aborts-passes.ensures.gates in
    record {
      zero_ = (did.makes 0 (omega arith)).gate ∙ of.zero_;
      one = (did.makes 1 (omega arith)).gate ∙ of.one;
      two = (did.makes 2 (omega arith)).gate ∙ of.two;
      three = (did.makes 3 (omega arith)).gate ∙ of.three;
    }
